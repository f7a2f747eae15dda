-- A plan that is done has the slots that hirupango_slots gives and the diagonal that hirupango_diagonal gives, of the same settings: so hirupango_plan, which
-- answers a number alone, keeps nothing back. Assumes nothing.
use Rattle.std.specs.Prelude.{◌≡◌, Bool, List, ℕ, ℤ, pos, negsuc, None, Some, Ok}
use Rattle.std.proofs.Math.Path.{ap}
use Rattle.std.proofs.Common.{sym, ◌∙◌}
use Rattle.std.proofs.Math.Bool.{true, cond}
use Rattle.std.specs.Int.Signed.{le_z}
use Rattle.whole.specs.Signed.{signed}
use Rattle.score.specs.Diagonal.{diagonal_of, diagonal_answer}
use Rattle.block.specs.declared.Settings.{Settings}
use Rattle.planning.specs.declared.Made.{Made}
use Rattle.planning.specs.Refusals.{refusal_of}
use Rattle.refusals.specs.Laws.{done_means}
use Rattle.planning.specs.Planned.{made_of, plan_answer}
use Rattle.planning.specs.Accepted.{Framed, accepted}
use Rattle.answer_bytes.specs.Slots.{slots_answer}

-- ---- what an accepted plan has
module _ (s : Settings) (framed : Framed s) where
  slots_given : {made : Made} → made_of s ≡ made → slots_answer s.search.search_param ≡ Some made.slots
  unfolding slots_answer made_of
  slots_given e =
      let w = framed.search in
      let low = w.low in
      let high = w.high in
      let p = s.search.search_param in
      let least : le_z (negsuc 2) p ≡ true = omega signed in
      let most : le_z p (pos 3) ≡ true = omega signed in
      rw (least, most) (ap (λ (m : Made). Some m.slots) e)

  diagonal_given : {made : Made} → made_of s ≡ made → diagonal_answer s.planes.luma.width s.planes.luma.height s.level.pel ≡ Some made.diagonal
  unfolding diagonal_answer made_of
  diagonal_given e =
      ap (λ (t : Bool). cond t (Some (diagonal_of s.planes.luma.width s.planes.luma.height s.level.pel)) None) framed.frame
      ∙ ap (λ (m : Made). Some m.diagonal) e

pub done_has : (s : Settings) (order vectors : List ℤ) (luma u v words indices : ℕ) {made : Made} →
    plan_answer s order vectors luma u v words indices ≡ Ok made →
    (slots_answer s.search.search_param ≡ Some made.slots) × (diagonal_answer s.planes.luma.width s.planes.luma.height s.level.pel
    ≡ Some made.diagonal)
unfolding plan_answer
done_has s order vectors luma u v words indices e =
    let d = done_means (refusal_of s order vectors luma u v words indices) e in
    let framed = (accepted s order vectors luma u v words indices d.0).framed in
    (slots_given s framed (sym d.1), diagonal_given s framed (sym d.1))
