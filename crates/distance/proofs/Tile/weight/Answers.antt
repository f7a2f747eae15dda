-- The four rows come to at most 16,320 each. Assumes nothing.
use Rattle.std.proofs.Common.{arith}
use Rattle.distance.specs.Distance.{sum}
use Rattle.distance.proofs.Tiles.{plain_small}
use Rattle.distance.proofs.Tile.weight.Goals as goal

pub overflow_add-result : goal.overflow_add-result
overflow_add-result c = let s = c.requires in omega (arith, plain_small s.at_a, plain_small s.at_b)

pub overflow_add-result-2 : goal.overflow_add-result-2
overflow_add-result-2 c = let s = c.requires in omega (arith, plain_small s.at_a, plain_small s.at_b, plain_small s.at_c)

pub overflow_add-result-3 : goal.overflow_add-result-3
overflow_add-result-3 c =
    let s = c.requires in omega (arith, plain_small s.at_a, plain_small s.at_b, plain_small s.at_c, plain_small s.at_d)

pub returns : goal.returns
unfolding sum
returns c = omega arith
