-- Luma unshifted, U and V shifted, each with its own pitches. Assumes nothing.
use Rattle.std.proofs.Common.{◌≡◌, FitsSigned, to_z-of_z, rules}
use Rattle.std.specs.Int.{w32}
use Rattle.plane.specs.declared.Place.{Place}
use Rattle.planes.specs.declared.Planes.{Planes}
use Rattle.level_places.specs.Levels.{planes_of}
use Rattle.level_places.proofs.planes_of.Goals as goal

alike : {a b c x y z : Place} → a ≡ x → b ≡ y → c ≡ z → ◌≡◌ {A = Planes} (record { luma = a; u = b; v = c }) (record { luma = x; u = y; v = z })
alike p q r = cc

pub returns : goal.returns
unfolding planes_of
returns c =
    let f = c.args.frame in
    let luma : FitsSigned w32 f.pitch.luma = search rules in
    let u : FitsSigned w32 f.pitch.u = search rules in
    let v : FitsSigned w32 f.pitch.v = search rules in
    let source_luma : FitsSigned w32 f.source_pitch.luma = search rules in
    let source_u : FitsSigned w32 f.source_pitch.u = search rules in
    let source_v : FitsSigned w32 f.source_pitch.v = search rules in
    alike (simp to_z-of_z at c.place_of.ensures) (simp to_z-of_z at c.place_of-2.ensures) (simp to_z-of_z at c.place_of-3.ensures)
