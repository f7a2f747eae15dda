-- Three pitches, each with the width of its own plane. Assumes nothing.
use Rattle.std.proofs.Common.{◌≡◌, Bool, ℤ, FitsSigned, to_z, of_z, to_z-of_z, rules}
use Rattle.std.specs.Int.{w32}
use Rattle.whole.specs.Truth.{three_alike}
use Rattle.whole.specs.Signed.{got}
use Rattle.limits.specs.Limits.{is_pitch, shifted_by}
use Rattle.levels.specs.Refusals.{pitches_hold}
use Rattle.levels.proofs.pitches_hold.Goals as goal

read : {t : Bool} {W w P p : ℤ} → t ≡ is_pitch W P → W ≡ w → P ≡ p → t ≡ is_pitch w p
read e f g = cc

pub returns : goal.returns
unfolding pitches_hold
returns c =
    let width = c.ranges.width in
    let x : FitsSigned w32 c.args.shift.x = search rules in
    let luma : FitsSigned w32 c.args.pitches.luma = search rules in
    let u : FitsSigned w32 c.args.pitches.u = search rules in
    let v : FitsSigned w32 c.args.pitches.v = search rules in
    let chroma : to_z w32 (of_z w32 c.shifted-chroma.result) ≡ shifted_by c.args.width c.args.shift.x
    = got w32 c.shifted-chroma.type_inv (simp to_z-of_z at c.shifted-chroma.ensures) in
    three_alike (simp to_z-of_z at c.is_pitch.ensures) (read c.is_pitch-2.ensures chroma (to_z-of_z u))
    (read c.is_pitch-3.ensures chroma (to_z-of_z v))
