-- The end of the last block, in 64 bits. Assumes nothing.
use Rattle.std.specs.Prelude.{◌≡◌, ℤ, pos, ◌+ℤ◌, ◌-ℤ◌, ◌*ℤ◌}
use Rattle.std.specs.Int.Signed.{le_z}
use Rattle.std.specs.Int.{w64}
use Rattle.std.proofs.Common.{to_z-of_z}
use mir.Val.{to_z, of_z}
use Rattle.whole.specs.Truth.{four_alike}
use Rattle.whole.specs.Interval.{Is, widened, is_literal, is_wider, is_sub, is_times, ask_add, is_add}
use Rattle.planning.specs.Refusals.{axis_holds}
use Rattle.planning.proofs.axis_holds.Goals as goal

-- ---- the sums, over what the machine reads of each number
abbrev kept : ℤ → ℤ
kept z = to_z w64 (of_z w64 z)

module _ {G S D g s d : ℤ} (count_is : Is w64 2147483648 2147483648 G g) (step_is : Is w64 2147483648 2147483648 S s) (side_is : Is w64 2147483648 2147483648 D d) where
  last : Is w64 2147483649 2147483649 (kept (G -ℤ pos 1)) (g -ℤ pos 1)
  last = is_wider (is_sub count_is (is_literal w64 (pos 1)) tt tt) tt tt

  start : Is w64 4611686020574871552 4611686020574871552 (kept (kept (G -ℤ pos 1) *ℤ S)) ((g -ℤ pos 1) *ℤ s)
  start = is_times last step_is tt tt

  end : Is w64 4611686022722355200 4611686022722355200 (kept (kept (kept (G -ℤ pos 1) *ℤ S) +ℤ D)) ((g -ℤ pos 1) *ℤ s +ℤ d)
  end = is_add start side_is tt tt

below : {A a B b : ℤ} → A ≡ a → B ≡ b → le_z A B ≡ le_z a b
below p q = cc

pub overflow_add-end : goal.overflow_add-end
overflow_add-end c =
    ask_add (start (widened c.ranges.count) (widened c.ranges.step) (widened c.ranges.side)) (widened c.ranges.side) tt tt

pub returns : goal.returns
unfolding axis_holds
returns c =
    let f0 = c.ranges.count in
    let f1 = c.ranges.step in
    let f2 = c.ranges.side in
    let f3 = c.ranges.frame in
    four_alike
    (simp to_z-of_z at c.is_grid_side.ensures)
    (simp to_z-of_z at c.is_step.ensures)
    (simp to_z-of_z at c.is_frame_side.ensures)
    (below (end (widened f0) (widened f1) (widened f2)).same (widened f3).same)
