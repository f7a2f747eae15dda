-- By the two cases of the origin. Assumes nothing.
use Rattle.std.proofs.Common.{FitsSigned, to_z-of_z, rules}
use Rattle.std.specs.Int.{w32}
use Rattle.plane.specs.Samples.{placed_from}
use Rattle.plane.proofs.nth_from.Goals as goal

pub returns-in_default : goal.returns-in_default
unfolding placed_from
returns-in_default c = rw c.in_default.is

pub returns : goal.returns
unfolding placed_from
returns c =
    let f : FitsSigned w32 c.in-Some.at = search rules in
    rw c.in-Some.is (simp to_z-of_z at c.nth_at.ensures)
