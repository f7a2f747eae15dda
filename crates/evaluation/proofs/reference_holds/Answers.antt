-- The reference's own limits, and its sides and pel against the source's and the plan's. Assumes nothing.
use Rattle.std.proofs.Common.{FitsSigned, rules}
use Rattle.std.specs.Int.{w32}
use Rattle.whole.specs.Truth.{four_alike}
use Rattle.limits.specs.Equal.{equal_words}
use Rattle.evaluation.specs.Refusals.{reference_holds}
use Rattle.evaluation.proofs.reference_holds.Goals as goal

pub returns : goal.returns
unfolding reference_holds
returns c =
    let r = c.args.reference in
    let s = c.args.source in
    let f0 : FitsSigned w32 r.width = search rules in
    let f1 : FitsSigned w32 r.height = search rules in
    let f2 : FitsSigned w32 r.pel = search rules in
    let f3 : FitsSigned w32 s.width = search rules in
    let f4 : FitsSigned w32 s.height = search rules in
    four_alike c.within_limits.ensures (equal_words f0 f3) (equal_words f1 f4) (equal_words f2 c.ranges.pel)
