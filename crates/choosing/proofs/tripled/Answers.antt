-- Assumes nothing.
use Rattle.std.proofs.Common.{to_z-of_z}
use Rattle.std.specs.Int.{w32}
use Rattle.whole.specs.Signed.{got}
use Rattle.choosing.specs.Choosing.{tripled_of}
use Rattle.choosing.proofs.tripled.Goals as goal

pub returns-then-negative : goal.returns-then-negative
unfolding tripled_of
returns-then-negative c =
    let f = c.ranges.sad in
    let yes = c.if-negative.true in
    simp yes (got w32 c.wrapping_mul.type_inv (simp to_z-of_z at c.wrapping_mul.ensures))

pub returns-else-negative : goal.returns-else-negative
unfolding tripled_of
returns-else-negative c = let no = c.if-negative.false in simp no (to_z-of_z c.ranges.sad)
