-- By the two cases of the overlay, and its quarter. Assumes nothing.
use Rattle.std.proofs.Common.{FitsSigned, to_z-of_z, lt-ltb, le-ltb, rules}
use Rattle.std.specs.Int.{w32}
use Rattle.plane.specs.Samples.{source_at}
use Rattle.plane.proofs.source.Goals as goal

pub returns-in_default : goal.returns-in_default
unfolding source_at
returns-in_default c = rw c.in_default.is c.nth_from.ensures

pub returns-then-b-half : goal.returns-then-b-half
unfolding source_at
returns-then-b-half c =
    let f : FitsSigned w32 c.in-Some.at = search rules in
    rw (c.in-Some.is, lt-ltb _ _ c.if-b-half.true) (simp to_z-of_z at c.nth_at.ensures)

pub returns : goal.returns
unfolding source_at
returns c = rw (c.in-Some.is, le-ltb _ _ c.if-b-half.false) c.nth_from-2.ensures
