-- Each axis with its own numbers. Assumes nothing.
use Rattle.std.proofs.Common.{FitsSigned, to_z-of_z, rules}
use Rattle.std.specs.Int.{w32}
use Rattle.whole.specs.Truth.{both_alike}
use Rattle.planning.proofs.sides_hold.Goals as goal

pub returns : goal.returns
returns c =
    let s = c.args.s in
    let f0 : FitsSigned w32 s.grid.x = search rules in
    let f1 : FitsSigned w32 s.grid.y = search rules in
    let f2 : FitsSigned w32 s.step.x = search rules in
    let f3 : FitsSigned w32 s.step.y = search rules in
    let f4 : FitsSigned w32 s.block.x = search rules in
    let f5 : FitsSigned w32 s.block.y = search rules in
    let f6 : FitsSigned w32 s.planes.luma.width = search rules in
    let f7 : FitsSigned w32 s.planes.luma.height = search rules in
    both_alike (simp to_z-of_z at c.axis_holds.ensures) (simp to_z-of_z at c.axis_holds-2.ensures)
