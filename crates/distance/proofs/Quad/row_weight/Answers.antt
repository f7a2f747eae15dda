-- The four absolute values are each at most 4,080. Assumes nothing.
use Rattle.std.proofs.Common.{arith}
use Rattle.distance.specs.Distance.{sum}
use Rattle.distance.proofs.Tiles.{size}
use Rattle.distance.proofs.Quad.row_weight.Goals as goal

pub returns : goal.returns
unfolding sum
returns c =
    let s = c.requires in
    omega (arith, (size s.at_a c.unsigned_abs.ensures.value).same, (size s.at_b c.unsigned_abs-2.ensures.value).same, (size s.at_c c.unsigned_abs-3.ensures.value).same, (size s.at_d c.unsigned_abs-4.ensures.value).same)
