-- The ranges that the limits of 01 leave to the numbers of an axis, which its functions ask of their callers; and the
-- ranges of what is worked out from them. Assumes nothing.
use Rattle.std.specs.Prelude.{◌+ℤ◌, ◌-ℤ◌}
use Rattle.std.proofs.Math.IntN.{pos}
use Rattle.std.specs.Int.Signed.{lt_z, le_z}
use Rattle.whole.specs.Interval.{Within, within_literal, within_add, within_sub, within_times, within_more, within_either}
use Rattle.axis.specs.declared.Axis.{Axis}
use Rattle.axis.specs.Axis.{margin_of, least_of, end_of, excess_of}

pub record Bounded (a : Axis) : Type 0 where
  pub pel : Within 4 4 a.pel
  pub frame : Within 0 16384 a.frame
  pub origin : Within 0 16384 a.origin
  pub side : Within 0 16 a.side
  pub predictor : Within 32768 32767 a.predictor
  pub radius : Within 0 3 a.radius

module _ {a : Axis} (b : Bounded a) where
  pub least_within : Within 65536 65536 (least_of a)
  least_within =
      let origin : Within 16384 16384 a.origin = within_more b.origin tt tt in
      let zero : Within 0 0 (pos 0) = within_literal in
      within_sub zero (within_times b.pel origin)

  pub end_within : Within 65600 65600 (end_of a)
  end_within =
      let room : Within 16400 16400 (a.frame -ℤ a.origin -ℤ a.side) = within_more (within_sub (within_sub b.frame b.origin) b.side) tt tt in
      within_times b.pel room

  pub margin_within : Within 32770 32769 (margin_of a.predictor)
  margin_within =
      let two : Within 2 2 (pos 2) = within_more within_literal tt tt in
      let down : Within 32770 32769 (a.predictor -ℤ pos 2) = within_more (within_sub b.predictor two) tt tt in
      let up : Within 32770 32769 (a.predictor +ℤ pos 2) = within_more (within_add b.predictor two) tt tt in
      within_either (lt_z a.predictor (pos 0)) down up

  pub excess_within : Within 98370 98370 (excess_of a)
  unfolding excess_of
  excess_within =
      let v = margin_of a.predictor in
      let one : Within 0 1 (pos 1) = within_literal in
      let none : Within 98370 98370 (pos 0) = within_more {l = 0} {h = 0} within_literal tt tt in
      let below : Within 98370 98370 (v -ℤ least_of a) = within_more (within_sub margin_within least_within) tt tt in
      let above : Within 98370 98370 (v -ℤ end_of a +ℤ pos 1) = within_more (within_add (within_sub margin_within end_within) one) tt tt in
      within_either (lt_z v (least_of a)) below (within_either (le_z (end_of a) v) above none)
