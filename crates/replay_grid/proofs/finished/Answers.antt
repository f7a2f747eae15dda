-- Behind the first five numbers stand six for each entry.
use Rattle.std.proofs.Common.{◌≡◌, ◌+◌, ◌*◌, length, get_or, pos, rules}
use Rattle.cases.specs.Samples.{limited_to}
use Rattle.replay_grid.proofs.finished.Goals as goal

pub returns-clause-inputs : goal.returns-clause-inputs
returns-clause-inputs c =
    let inputs = c.args.inputs.now in
    let long : length inputs ≡ 5 + 6 * c.in_ok-n.n = search rules in
    let entries : limited_to 50 (get_or inputs 4 (pos 0)) ≡ c.in_ok-n.n = search rules in
    rw entries long
