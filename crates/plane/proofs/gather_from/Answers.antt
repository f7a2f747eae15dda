-- By the two cases of the origin: an absent one gathers zeros. Assumes nothing.
use Rattle.std.proofs.Common.{sym, ◌*◌, FitsSigned, rules}
use Rattle.std.specs.Int.{w32}
use Rattle.whole.specs.Interval.{widened}
use Rattle.plane.specs.Samples.{placed_from}
use Rattle.plane.specs.Reads.{gathered_zeros}
use Rattle.plane.proofs.gather_from.Goals as goal

pub returns-in_default : goal.returns-in_default
unfolding placed_from
returns-in_default c = rw c.in_default.is (sym (gathered_zeros (c.args.h * c.args.w)))

pub returns : goal.returns
unfolding placed_from
returns c =
    let f : FitsSigned w32 c.in-Some.at = search rules in
    rw c.in-Some.is (rw (widened f).same at c.gather.ensures)
