-- The limits leave squares whose sum fits, a root below 23,171, and a product that fits. Assumes nothing.
use Rattle.std.specs.Prelude.{Some}
use Rattle.std.proofs.Common.{◌≡◌, true, ◌&&◌, ℕ, ◌+◌, ◌≤◌, ℤ, pos, ◌*ℤ◌, sym, ap, ◌∙◌, arith, to_z, of_z, w32, to_z-of_z}
use Rattle.std.proofs.Math.Facts.{to_z_pos}
use Rattle.limits.specs.Ranges.{pel_within}
use Rattle.whole.specs.Numbers.{root_of}
use Rattle.whole.specs.Truth.{left_of, right_of}
use Rattle.whole.specs.Interval.{Is, is_arg, within_more, ask_times, is_times, fits}
use Rattle.limits.specs.Limits.{is_frame_side, is_pel}
use Rattle.score.specs.Diagonal.{squared, diagonal_of, frame_fits, diagonal_answer}
use Rattle.score.specs.Bounds.{squared_small, root_small}
use Rattle.score.proofs.diagonal.Goals as goal

-- ---- what an accepted frame has
module _ (width height pel : ℤ) (accepted : frame_fits width height pel ≡ true) where
  sides : (is_frame_side width && is_frame_side height) ≡ true
  sides = left_of (is_frame_side width && is_frame_side height) (is_pel pel) accepted

  wide : squared width ≤ 268435456
  wide = squared_small width (left_of (is_frame_side width) (is_frame_side height) sides)

  high : squared height ≤ 268435456
  high = squared_small height (right_of (is_frame_side width) (is_frame_side height) sides)

  small : root_of (squared width + squared height) ≤ 23170
  small = let w = wide in let h = high in root_small (squared width + squared height) (omega arith)

-- ---- the tests were passed, and the root taken
module _ (c : goal.After-root-r) where
  accepted : frame_fits c.args.width c.args.height c.args.pel ≡ true
  accepted = let f = c.ranges.width in let g = c.ranges.height in let h = c.ranges.pel in sym (simp to_z-of_z at c.if-not-frame_fits.ensures)

  pel_is : Is w32 4 4 (to_z w32 (of_z w32 c.args.pel)) c.args.pel
  pel_is =
      let lies = pel_within c.args.pel (right_of (is_frame_side c.args.width && is_frame_side c.args.height) (is_pel c.args.pel) accepted) in
      is_arg c.ranges.pel (within_more lies tt tt)

  root_is : c.root-r.result ≡ root_of (squared c.args.width + squared c.args.height)
  root_is =
      let f = c.ranges.width in
      let g = c.ranges.height in
      let w = simp to_z-of_z at c.size-w.ensures in
      let h = simp to_z-of_z at c.size-h.ensures in
      rw (w, h) at c.root-r.ensures

  root_read : Is w32 23170 23170 (to_z w32 c.root-r.result) (pos c.root-r.result)
  root_read =
      let e = root_is in
      let s = small c.args.width c.args.height c.args.pel accepted in
      record { same = to_z_pos w32 (omega arith); lies = record { low = omega arith; high = omega arith } }

pub overflow_cast-r : goal.overflow_cast-r
overflow_cast-r c = fits {w = w32} (root_read c).lies tt tt

pub overflow_mul-result : goal.overflow_mul-result
overflow_mul-result c = ask_times (pel_is c) (root_read c) tt tt

pub returns : goal.returns
unfolding diagonal_answer diagonal_of
returns c =
    let value = (is_times (pel_is c) (root_read c) tt tt).same ∙ ap (λ (n : ℕ). c.args.pel *ℤ pos n) (root_is c) in
    simp (accepted c) (ap Some value)
