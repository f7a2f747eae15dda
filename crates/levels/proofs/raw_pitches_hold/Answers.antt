-- Beside a separate source the packed planes from level 1 on and the source; else the packed planes from the frame on. Assumes nothing.
use Rattle.std.proofs.lemmas.Bool.{not-true, not-false}
use Rattle.std.proofs.Common.{◌≡◌, ◌∙◌, ap, true, false, ℤ, pos, FitsSigned, to_z, of_z, to_z-of_z, rules}
use Rattle.std.specs.Int.{w32}
use Rattle.whole.specs.Truth.{both_alike}
use Rattle.whole.specs.Signed.{got}
use Rattle.level_places.specs.Levels.{plane_size}
use Rattle.levels.specs.Refusals.{pitches_hold, raw_pitches_hold}
use Rattle.levels.proofs.raw_pitches_hold.Goals as goal

pub returns-then-not-frame : goal.returns-then-not-frame
unfolding raw_pitches_hold
returns-then-not-frame c =
    let f = c.args.frame in
    let width : FitsSigned w32 f.frame.x = search rules in
    let packed : f.separate ≡ false = (not-true _ c.if-not-frame.true) in
    rw packed (simp to_z-of_z at c.pitches_hold.ensures)

pub returns : goal.returns
unfolding raw_pitches_hold
returns c =
    let f = c.args.frame in
    let width : FitsSigned w32 f.frame.x = search rules in
    let apart : f.separate ≡ true = (not-false _ c.if-not-frame.false) in
    let first : to_z w32 (of_z w32 c.plane_size-packed_width.result) ≡ plane_size f.frame.x (pos 1)
    = got w32 c.plane_size-packed_width.type_inv (simp to_z-of_z at c.plane_size-packed_width.ensures) in
    rw apart
    (both_alike (c.pitches_hold-2.ensures ∙ ap (λ (z : ℤ). pitches_hold z f.shift f.pitch) first) (simp to_z-of_z at c.pitches_hold-3.ensures))
