-- A block has room for 16 rows of 16.
use Rattle.std.proofs.Common.{◌≡◌, ◌≤◌, ◌*◌, length, rules, arith}
use Rattle.std.proofs.lemmas.Grind.{common_steps}
use Rattle.replay_plane.proofs.block_agrees.Goals as goal

pub returns-then-eq : goal.returns-then-eq
returns-then-eq c e =
    let few : c.in-Some.block.w * c.in-Some.block.h ≤ 256 = search rules in
    let compared : length c.args.case.now.answers.now ≡ c.in-Some.block.w * c.in-Some.block.h = grind (arith, common_steps) in
    search rules
