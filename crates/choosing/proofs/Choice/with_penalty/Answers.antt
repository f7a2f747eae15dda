-- The SAD is below 2^20, so that the cast keeps it; the rest wraps as the definition does. Assumes nothing.
use Rattle.std.proofs.Common.{◌≡◌, pos, ◌*ℤ◌, FitsSigned, to_z, to_z-of_z, rules, arith}
use Rattle.std.specs.Int.{w32}
use Rattle.std.proofs.Math.Facts.{to_z_pos}
use Rattle.whole.specs.Signed.{got}
use Rattle.choosing.specs.Choosing.{penalty_of, with_penalty}
use Rattle.choosing.proofs.Shifted.{shifted}
use Rattle.choosing.proofs.Choice.with_penalty.Goals as goal

pub returns : goal.returns
unfolding penalty_of with_penalty
returns c =
    let plain : to_z w32 c.args.sad ≡ pos c.args.sad = to_z_pos w32 (omega arith) in
    let cost = c.ranges.cost in
    let pnew : FitsSigned w32 c.args.self.pnew = search rules in
    let product = got w32 c.wrapping_mul-part.type_inv (simp (to_z-of_z, plain) at c.wrapping_mul-part.ensures) in
    let part = shifted (c.args.self.pnew *ℤ pos c.args.sad) product in
    let penalty = got w32 c.wrapping_add.type_inv (simp (plain, part) at c.wrapping_add.ensures) in
    got w32 c.wrapping_add-2.type_inv (simp (to_z-of_z, penalty) at c.wrapping_add-2.ensures)
