-- The tests leave two components and a diagonal above zero, for which the share fits; the word is put together as a pair's is. Assumes nothing.
use Rattle.std.specs.Prelude.{Some}
use Rattle.std.proofs.Common.{◌≡◌, refl, sym, true, ℤ, pos, ◌+ℤ◌, ◌*ℤ◌, ap, ◌∙◌, w32, to_z-of_z, lit≤}
use mir.Val.{SFits}
use Rattle.whole.specs.Numbers.{mod_z, wrapped}
use Rattle.whole.specs.Signed.{got}
use Rattle.whole.specs.Wrapping.{masked, shifted_and_added}
use Rattle.score.specs.Score.{share_of, scored, score_fits, packed_score, score_answer}
use Rattle.score.proofs.packed_score.Goals as goal

pub returns : goal.returns
unfolding score_answer packed_score
returns c =
    let f = c.ranges.x in
    let g = c.ranges.y in
    let h = c.ranges.diagonal in
    let s = c.ranges.sad in
    let accepted : score_fits c.args.x c.args.y c.args.diagonal ≡ true = sym (simp to_z-of_z at c.if-not-score_fits.ensures) in
    let share : c.share.result ≡ share_of c.args.x c.args.y c.args.diagonal = simp to_z-of_z at c.share.ensures in
    let score : c.scaled-score.result ≡ scored c.args.sad (share_of c.args.x c.args.y c.args.diagonal) =
    simp to_z-of_z at c.scaled-score.ensures ∙ ap (scored c.args.sad) share in
    let low : SFits w32 c.scaled-score.result = record { sfits = c.scaled-score.type_inv } in
    let word =
    got w32 c.wrapping_add.type_inv
    (c.wrapping_add.ensures
    ∙ shifted_and_added w32 16777216 _ c.ranges.average
    ∙ ap (λ (z : ℤ). wrapped w32 (c.args.average *ℤ pos 16777216 +ℤ z)) (masked w32 24 256 refl (lit≤ tt) low ∙ ap (λ (z : ℤ). pos (mod_z z 16777216)) score)) in
    simp accepted (ap Some word)
