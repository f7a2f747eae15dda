-- The differences fit; the products and the sum wrap as the definition's do. Assumes nothing.
use Rattle.std.proofs.Common.{◌-ℤ◌, ◌*ℤ◌, FitsSigned, to_z-of_z, rules}
use Rattle.std.specs.Int.{w32}
use Rattle.whole.specs.Signed.{got}
use Rattle.whole.specs.Interval.{is_within, is_arg, is_sub}
use Rattle.choosing.specs.Choosing.{squared_of, distance_cost}
use Rattle.choosing.proofs.Shifted.{shifted}
use Rattle.choosing.proofs.Choice.distance_cost.Goals as goal

pub returns : goal.returns
unfolding distance_cost
returns c =
    let k = c.args.self in
    let px = is_within w32 c.requires.ranged.x tt tt in
    let py = is_within w32 c.requires.ranged.y tt tt in
    let dx = (is_sub px (is_arg c.ranges.vx c.requires.within.0) tt tt).same in
    let dy = (is_sub py (is_arg c.ranges.vy c.requires.within.1) tt tt).same in
    let lambda : FitsSigned w32 k.lambda = search rules in
    let xx = got w32 c.wrapping_mul.type_inv (simp dx at c.wrapping_mul.ensures) in
    let yy = got w32 c.wrapping_mul-2.type_inv (simp dy at c.wrapping_mul-2.ensures) in
    let squared = got w32 c.wrapping_add-squared.type_inv (simp (xx, yy) at c.wrapping_add-squared.ensures) in
    let product = got w32 c.wrapping_mul-3.type_inv (simp (to_z-of_z, squared) at c.wrapping_mul-3.ensures) in
    shifted (k.lambda *ℤ squared_of (k.x -ℤ c.args.vx) (k.y -ℤ c.args.vy)) product
