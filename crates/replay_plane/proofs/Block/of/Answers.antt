-- Behind the first seven numbers stand the sides, how many bytes there are, and the bytes.
use Rattle.std.proofs.Common.{◌≡◌, ◌+◌, ◌*◌, length, get_or, pos, drop, rules}
use Rattle.cases.specs.Samples.{limited_to}
use Rattle.replay_plane.proofs.Behind.{number_behind}
use Rattle.replay_plane.proofs.Block.of.Goals as goal

pub returns-clause-inputs : goal.returns-clause-inputs
returns-clause-inputs c =
    let inputs = c.args.inputs.now in
    let rest = c.in_ok-numbers.rest.now in
    let behind : rest ≡ drop 7 inputs = search rules in
    let told : length inputs ≡ 10 + limited_to 512 (get_or rest 2 (pos 0)) = search rules in
    rw (number_behind inputs behind 2) at told

pub returns-clause-answers : goal.returns-clause-answers
returns-clause-answers c =
    let inputs = c.args.inputs.now in
    let rest = c.in_ok-numbers.rest.now in
    let behind : rest ≡ drop 7 inputs = search rules in
    let told : c.limited.result * c.limited-2.result ≡ limited_to 16 (get_or rest 0 (pos 0)) * limited_to 16 (get_or rest 1 (pos 0)) = search rules in
    rw (number_behind inputs behind 0, number_behind inputs behind 1) at told
