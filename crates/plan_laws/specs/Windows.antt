-- The window of every record that planning makes lies inside predictor ± radius, so that it is never too wide for evaluating with the same radius.
-- Nothing is asked of the settings, the block or the slots. Assumes nothing.
use Rattle.std.specs.Prelude.{◌≡◌, Bool, ◌&&◌, cond, ℤ, pos, ◌+ℤ◌, ◌-ℤ◌, ◌*ℤ◌, ◌≤ℤ◌, Option}
use Rattle.std.proofs.Math.Path.{refl}
use Rattle.std.proofs.Common.{sym, ap, ◌∙◌}
use Rattle.std.proofs.Math.Bool.{true, false}
use Rattle.std.specs.Int.Signed.{lt_z}
use Rattle.limits.specs.Limits.{radius_of}
use Rattle.whole.specs.Numbers.{lesser_of, greater_of}
use Rattle.whole.specs.Signed.{signed, add_is, diff_is, times_is}
use Rattle.whole.specs.Truth.{and_false}
use Rattle.window.specs.Windows.{is_bad, side_of, most_of, window_wide, is_wide}
use Rattle.slots.specs.declared.Slots.{Slots}
use Rattle.axis.specs.declared.Axis.{Axis}
use Rattle.axis.specs.Axis.{window_of}
use Rattle.block.specs.declared.Settings.{Settings}
use Rattle.block.specs.declared.Block.{Block}
use Rattle.block.specs.Shapes.{axis_of, shape_of, lambda_of, moves_of, spot_of}
use Rattle.block.specs.Shapes.{is_bad as block_is_bad}
use Rattle.block.specs.Steps.{quiet_record, bad_record, bad_step, luma_step, quiet_step, step_with, step_of}

by_test : (t : Bool) (x y : ℤ) (Q : ℤ → Type 0) → (t ≡ true → Q x) → (t ≡ false → Q y) → Q (cond t x y)
by_test true x y Q f g = f refl
by_test false x y Q f g = g refl

greater_above : (a b : ℤ) → a ≤ℤ greater_of a b
greater_above a b = by_test (lt_z a b) b a (λ z. a ≤ℤ z) (λ e. omega signed) (λ e. omega signed)

lesser_below : (a b : ℤ) → lesser_of a b ≤ℤ a
lesser_below a b = by_test (lt_z a b) a b (λ z. z ≤ℤ a) (λ e. omega signed) (λ e. omega signed)

-- ---- predictor - radius is at most the least, and the greatest at most predictor + radius
pub window_from : (a : Axis) (place : ℤ) → (a.predictor -ℤ a.radius) ≤ℤ (window_of a place).first
unfolding window_of
window_from a place = greater_above (a.predictor -ℤ a.radius) _

pub window_to : (a : Axis) (place : ℤ) → (window_of a place).second ≤ℤ (a.predictor +ℤ a.radius)
unfolding window_of
window_to a place = lesser_below (a.predictor +ℤ a.radius) _

-- ---- so no side is over 2 x radius + 1
pub window_narrow : (a : Axis) (place : ℤ) → lt_z (most_of a.radius) (side_of (window_of a place)) ≡ false
window_narrow a place =
    let w = window_of a place in
    let low = window_from a place in
    let high = window_to a place in
    omega (
      signed,
      add_is a.predictor a.radius,
      diff_is a.predictor a.radius,
      diff_is w.second w.first,
      add_is (w.second -ℤ w.first)
          (pos 1),
      times_is a.radius 2,
      add_is (a.radius *ℤ pos 2) (pos 1),
    )

neither_wide : (most x y : ℤ) → lt_z most x ≡ false → lt_z most y ≡ false → window_wide most x y ≡ false
neither_wide most x y p q = rw (p, q) (and_false (lt_z (pos 0) x && lt_z (pos 0) y))

right_false : (a : Bool) {b : Bool} → b ≡ false → (a && b) ≡ false
right_false true e = e
right_false false e = refl

-- ---- each of the three kinds of record
quiet_not_bad : (b : Block) (negative : Bool) (lambda : ℤ) (average : Option ℤ) → is_bad (quiet_record b negative lambda average) ≡ false
unfolding quiet_record
quiet_not_bad b true lambda average = refl
quiet_not_bad b false lambda average = refl

quiet_narrow : (radius : ℤ) (b : Block) (negative : Bool) (lambda : ℤ) (average : Option ℤ) → is_wide radius (quiet_record b negative lambda average) ≡ false
unfolding is_wide
quiet_narrow radius b negative lambda average = rw (quiet_not_bad b negative lambda average)

module _ (s : Settings) (b : Block) (t : Slots) where
  across_radius : (shape_of s b).across.radius ≡ radius_of s.search.search_param
  unfolding shape_of axis_of
  across_radius = refl

  down_radius : (shape_of s b).down.radius ≡ radius_of s.search.search_param
  unfolding shape_of axis_of
  down_radius = refl

  bad_narrow : (lambda : ℤ) → is_wide (radius_of s.search.search_param) (bad_step s.planes s.shift b (shape_of s b) lambda t).made ≡ false
  unfolding is_wide bad_step bad_record
  bad_narrow lambda =
      let h = shape_of s b in
      let spot = spot_of s.shift (moves_of h) h in
      right_false (is_bad (bad_step s.planes s.shift b h lambda t).made)
      (neither_wide (most_of (radius_of s.search.search_param)) (side_of (window_of h.across spot.x)) (side_of (window_of h.down spot.y))
      (sym (ap (λ (r : ℤ). lt_z (most_of r) (side_of (window_of h.across spot.x))) across_radius) ∙ window_narrow h.across spot.x)
      (sym (ap (λ (r : ℤ). lt_z (most_of r) (side_of (window_of h.down spot.y))) down_radius) ∙ window_narrow h.down spot.y))

  pub planned_narrow : is_wide (radius_of s.search.search_param) (step_of s b t).made ≡ false
  unfolding step_of step_with luma_step quiet_step
  planned_narrow = by (block_is_bad s.weights (shape_of s b).negative b.sad) s.level.need_luma
    where
      by : (bad need : Bool) →
          is_wide (radius_of s.search.search_param)
          (cond bad (bad_step s.planes s.shift b (shape_of s b) (lambda_of s.weights (shape_of s b).negative) t)
          (cond need (luma_step s.planes.luma b (shape_of s b) (lambda_of s.weights (shape_of s b).negative) t)
          (quiet_step b (shape_of s b).negative (lambda_of s.weights (shape_of s b).negative) t))).made ≡ false
      by true need = bad_narrow (lambda_of s.weights (shape_of s b).negative)
      by false true = quiet_narrow (radius_of s.search.search_param) b (shape_of s b).negative (lambda_of s.weights (shape_of s b).negative) _
      by false false = quiet_narrow (radius_of s.search.search_param) b (shape_of s b).negative (lambda_of s.weights (shape_of s b).negative) _
