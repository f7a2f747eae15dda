-- A negative block's origin and side, or a plain one's. Assumes nothing.
use Rattle.std.specs.Prelude.{ℤ, ◌*ℤ◌}
use Rattle.std.proofs.Common.{◌≡◌, ap, ◌∙◌, to_z-of_z, FitsSigned}
use Rattle.std.specs.Int.{w32}
use mir.Val.{to_z, of_z}
use Rattle.whole.specs.Interval.{Within, Is, is_within, is_shr, is_add, is_times}
use Rattle.block.specs.Shapes.{axis_of}
use Rattle.block.specs.Alike.{alike_axes}
use Rattle.block.proofs.axis_of.Goals as goal

origin_is : {step place : ℤ} → Within 16 16 step → Within 2048 2048 place →
    Is w32 32768 32768 (to_z w32 (of_z w32 (to_z w32 (of_z w32 place) *ℤ to_z w32 (of_z w32 step)))) (place *ℤ step)
origin_is s p = is_times (is_within w32 p tt tt) (is_within w32 s tt tt) tt tt

twice : {z : ℤ} → FitsSigned w32 z → to_z w32 (of_z w32 (to_z w32 (of_z w32 z))) ≡ z
twice f = ap (λ (x : ℤ). to_z w32 (of_z w32 x)) (to_z-of_z f) ∙ to_z-of_z f

pub returns-then-negative : goal.returns-then-negative
unfolding axis_of
returns-then-negative c =
    let side = is_within w32 c.requires.1.0 tt tt in
    simp c.if-negative.true
    (alike_axes (twice c.ranges.pel) (twice c.ranges.frame)
    (is_add (origin_is c.requires.0 c.requires.1.1) (is_shr 4 side tt tt) tt tt).same (is_shr 2 side tt tt).same
    (twice c.ranges.predictor) (twice c.ranges.radius))

pub returns-else-negative : goal.returns-else-negative
unfolding axis_of
returns-else-negative c =
    simp c.if-negative.false
    (alike_axes (to_z-of_z c.ranges.pel) (to_z-of_z c.ranges.frame) (origin_is c.requires.0 c.requires.1.1).same (to_z-of_z c.ranges.side)
    (to_z-of_z c.ranges.predictor) (to_z-of_z c.ranges.radius))
