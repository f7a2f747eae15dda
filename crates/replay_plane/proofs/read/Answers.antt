-- Behind the first seven numbers stand how many bytes there are, and the bytes.
use Rattle.std.proofs.Common.{◌≡◌, ◌+◌, length, get_or, pos, drop, rules}
use Rattle.cases.specs.Samples.{limited_to}
use Rattle.replay_plane.proofs.Behind.{number_behind}
use Rattle.replay_plane.proofs.read.Goals as goal

pub returns : goal.returns
returns c =
    let inputs = c.args.inputs.now in
    let rest = c.in_ok-numbers.rest.now in
    let behind : rest ≡ drop 7 inputs = search rules in
    let told : length inputs ≡ 8 + limited_to 512 (get_or rest 0 (pos 0)) = search rules in
    rw (number_behind inputs behind 0) at told
