-- The level's height, shifted. Assumes nothing.
use Rattle.std.proofs.Common.{◌≡◌, ap, ◌∙◌, to_z, of_z, to_z-of_z}
use Rattle.std.proofs.Math.IntN.{nat_abs}
use Rattle.std.specs.Int.{w32}
use Rattle.whole.specs.Signed.{got}
use Rattle.limits.specs.Limits.{shifted_by}
use Rattle.level_places.specs.Levels.{size_after, level_rows}
use Rattle.level_places.proofs.level_rows.Goals as goal

pub returns-clause-value : goal.returns-clause-value
unfolding level_rows
returns-clause-value c =
    let height = c.ranges.height in
    let shift = c.ranges.shift in
    let size : to_z w32 (of_z w32 c.size_after.result) ≡ size_after c.args.lv c.args.height = got w32 c.size_after.type_inv (simp to_z-of_z at c.size_after.ensures) in
    let shifted : to_z w32 (of_z w32 c.shifted.result) ≡ shifted_by (size_after c.args.lv c.args.height) c.args.shift
    = got w32 c.shifted.type_inv (rw (size, to_z-of_z shift) at c.shifted.ensures) in
    c.size.ensures ∙ ap nat_abs shifted
