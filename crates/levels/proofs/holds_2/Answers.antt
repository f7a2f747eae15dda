-- Five tests, each as the definition has it. Assumes nothing.
use Rattle.std.proofs.Common.{FitsSigned, to_z-of_z, rules}
use Rattle.std.specs.Int.{w32}
use Rattle.whole.specs.Truth.{five_alike}
use Rattle.levels.specs.Refusals.{holds2}
use Rattle.levels.proofs.holds_2.Goals as goal

pub returns : goal.returns
unfolding holds2
returns c =
    let f = c.args.frame in
    let width : FitsSigned w32 f.frame.x = search rules in
    let height : FitsSigned w32 f.frame.y = search rules in
    let pel : FitsSigned w32 f.pel = search rules in
    let x : FitsSigned w32 f.shift.x = search rules in
    let y : FitsSigned w32 f.shift.y = search rules in
    five_alike
    (simp to_z-of_z at c.is_frame_side.ensures)
    (simp to_z-of_z at c.is_frame_side-2.ensures)
    (simp to_z-of_z at c.is_pel.ensures)
    (simp to_z-of_z at c.are_shifts.ensures)
    c.raw_pitches_hold.ensures
