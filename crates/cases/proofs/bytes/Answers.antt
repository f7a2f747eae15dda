-- After the last place all are filled.
use Rattle.std.proofs.Common.{get_or, pos, rules}
use Rattle.std.proofs.lemmas.List.FromFn.{fill_by_all}
use Rattle.cases.specs.Samples.{limited_to}
use Rattle.cases.proofs.bytes.Goals as goal

pub returns : goal.returns
returns g c =
    let filled = c.loop-place.invariant in
    fill_by_all (λ k. limited_to 255 (get_or c.args.numbers.now k (pos 0))) _ _ 0 filled.long (search rules)
