-- Behind the radius stand 12 words, two tables of so many entries as it says, and the average.
use Rattle.std.proofs.Common.{◌≡◌, ◌+◌, ◌*◌, length, get_or, pos, rules}
use Rattle.cases.specs.Samples.{limited_to}
use Rattle.replay_choosing.specs.Sizes.{slots_of}
use Rattle.replay_choosing.proofs.answers.Goals as goal

pub returns : goal.returns
returns c =
    let inputs = c.args.inputs.now in
    let long : length inputs ≡ 17 + 2 * c.in_ok-n.n = search rules in
    let entries : c.in_ok-n.n ≡ slots_of (limited_to 3 (get_or inputs 3 (pos 0))) = search rules in
    rw entries at long
