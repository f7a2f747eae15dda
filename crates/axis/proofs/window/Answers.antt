-- Both ends are cut by the lesser and the greater of two. Assumes nothing.
use Rattle.std.specs.Prelude.{refl, ℤ, pos, ◌-ℤ◌}
use Rattle.std.specs.Int.{w32}
use Rattle.std.specs.Int.Signed.{lt_z}
use mir.Val.{to_z, of_z}
use Rattle.whole.specs.Numbers.{lesser_of, greater_of}
use Rattle.whole.specs.Signed.{got, lesser_read, greater_read}
use Rattle.whole.specs.Interval.{Within, within_literal, within_more, within_either, within_sub, Is, is_call, is_within, is_literal, ask_add, is_add, ask_sub, is_sub}
use Rattle.records.specs.Alike.{alike_pairs}
use Rattle.axis.specs.Axis.{least_of, end_of, window_of}
use Rattle.axis.specs.Bounds.{least_within, end_within}
use Rattle.axis.proofs.window.Goals as goal
use Rattle.axis.proofs.window.Goals.{After-end-max, After-lesser, After-greater}

-- ---- how far the block has moved, and its two parts
module _ {origin place : ℤ} (o : Within 0 16384 origin) (p : Within 16384 16384 place) where
  d_within : Within 32768 32768 (origin -ℤ place)
  d_within = within_more (within_sub o p) tt tt

  zero_within : Within 32768 32768 (pos 0)
  zero_within = within_more {l = 0} {h = 0} within_literal tt tt

  d_is : Is w32 16384 32768 (to_z w32 (of_z w32 (to_z w32 (of_z w32 origin) -ℤ to_z w32 (of_z w32 place)))) (origin -ℤ place)
  d_is = is_sub (is_within w32 o tt tt) (is_within w32 p tt tt) tt tt

  low_within : Within 32768 32768 (lesser_of (origin -ℤ place) (pos 0))
  low_within = within_either (lt_z (origin -ℤ place) (pos 0)) d_within zero_within

  high_within : Within 32768 32768 (greater_of (origin -ℤ place) (pos 0))
  high_within = within_either (lt_z (origin -ℤ place) (pos 0)) zero_within d_within

module _ (c : After-end-max) where
  least_is : Is w32 65536 65536 (to_z w32 (of_z w32 c.least-min.result)) (least_of c.args.axis)
  least_is = is_call w32 c.least-min.type_inv c.least-min.ensures (least_within c.requires.0)

  end_is : Is w32 65600 65600 (to_z w32 (of_z w32 c.end-max.result)) (end_of c.args.axis)
  end_is = is_call w32 c.end-max.type_inv c.end-max.ensures (end_within c.requires.0)

-- min loses the negative part of d, max loses its positive part
below_is : (c : After-lesser) → Is w32 32768 32768 (to_z w32 (of_z w32 c.lesser.result)) (lesser_of (c.args.axis.origin -ℤ c.args.place) (pos 0))
below_is c =
    is_call w32 c.lesser.type_inv (lesser_read c.lesser.ensures (d_is c.requires.0.origin c.requires.1).same refl) (low_within c.requires.0.origin c.requires.1)

above_is : (c : After-greater) → Is w32 32768 32768 (to_z w32 (of_z w32 c.greater.result)) (greater_of (c.args.axis.origin -ℤ c.args.place) (pos 0))
above_is c =
    is_call w32 c.greater.type_inv (greater_read c.greater.ensures (d_is c.requires.0.origin c.requires.1).same refl) (high_within c.requires.0.origin c.requires.1)

pub overflow_sub-min : goal.overflow_sub-min
overflow_sub-min c = let at = goal.at.overflow_sub-min c in ask_sub (least_is at.After-end-max) (below_is at.After-lesser) tt tt

pub overflow_add-axis : goal.overflow_add-axis
overflow_add-axis c = ask_add (is_within w32 c.requires.0.predictor tt tt) (is_within w32 c.requires.0.radius tt tt) tt tt

pub overflow_sub-max : goal.overflow_sub-max
overflow_sub-max c = let at = goal.at.overflow_sub-max c in ask_sub (end_is at.After-end-max) (above_is at.After-greater) tt tt

pub overflow_sub-max-2 : goal.overflow_sub-max-2
overflow_sub-max-2 c =
    let at = goal.at.overflow_sub-max-2 c in
    ask_sub (is_sub (end_is at.After-end-max) (above_is at.After-greater) tt tt) (is_literal w32 (pos 1)) tt tt

pub returns : goal.returns
unfolding window_of
returns c =
    let at = goal.at.returns c in
    let predictor = is_within w32 c.requires.0.predictor tt tt in
    let radius = is_within w32 c.requires.0.radius tt tt in
    let least = least_is at.After-end-max in
    let end = end_is at.After-end-max in
    let below = below_is at.After-lesser in
    let above = above_is at.After-greater in
    alike_pairs
    (got w32 c.greater-first.type_inv (greater_read c.greater-first.ensures (is_sub predictor radius tt tt).same (is_sub least below tt tt).same))
    (got w32 c.lesser-second.type_inv (lesser_read c.lesser-second.ensures (is_add predictor radius tt tt).same (is_sub (is_sub end above tt tt) (is_literal w32 (pos 1)) tt tt).same))
