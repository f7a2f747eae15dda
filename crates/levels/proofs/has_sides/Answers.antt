-- Neither side is 0. Assumes nothing.
use Rattle.std.proofs.Common.{ap, not, FitsSigned, rules, pos}
use Rattle.std.specs.Int.{w32}
use Rattle.whole.specs.Truth.{both_alike}
use Rattle.limits.specs.Equal.{equal_words}
use Rattle.levels.specs.Refusals.{has_sides}
use Rattle.levels.proofs.has_sides.Goals as goal

pub returns : goal.returns
unfolding has_sides
returns c =
    let zero : FitsSigned w32 (pos 0) = search rules in
    let width : FitsSigned w32 c.args.place.width = search rules in
    let height : FitsSigned w32 c.args.place.height = search rules in
    both_alike (ap not (equal_words width zero)) (ap not (equal_words height zero))
