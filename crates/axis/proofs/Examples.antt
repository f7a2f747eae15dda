-- 01, "Numbers to hold on to": "64x64 frame, pel 2, 8x8 at x 8, radius 3: px -14 gives -16..-11; -15 moves to 9, -15..-12; 93 gives 90..95; 94 moves
-- to 7, 91..94; -200 is empty." Each by computation.
use Rattle.std.specs.Prelude.{◌≡◌, refl, true, ℤ, pos, negsuc}
use Rattle.records.specs.declared.Pair.{Pair}
use Rattle.axis.specs.declared.Axis.{Axis}
use Rattle.axis.specs.Axis.{excess_of, place_of, window_of}

abbrev pub at_8 : ℤ → Axis
at_8 predictor = record { pel = pos 2; frame = pos 64; origin = pos 8; side = pos 8; predictor = predictor; radius = pos 3 }

abbrev from_to : ℤ → ℤ → Pair
from_to least greatest = record { first = least; second = greatest }

-- px -14: inside
pub minus_14_inside : excess_of (at_8 (negsuc 13)) ≡ pos 0
unfolding excess_of
minus_14_inside = refl

pub minus_14_window : window_of (at_8 (negsuc 13)) (pos 8) ≡ from_to (negsuc 15) (negsuc 10)
unfolding window_of
minus_14_window = refl

-- px -15: one step outside, which moves it one pixel
pub minus_15_moves : place_of true (at_8 (negsuc 14)) ≡ pos 9
unfolding place_of excess_of
minus_15_moves = refl

pub minus_15_window : window_of (at_8 (negsuc 14)) (pos 9) ≡ from_to (negsuc 14) (negsuc 11)
unfolding window_of
minus_15_window = refl

-- px 93: inside
pub plus_93_inside : excess_of (at_8 (pos 93)) ≡ pos 0
unfolding excess_of
plus_93_inside = refl

pub plus_93_window : window_of (at_8 (pos 93)) (pos 8) ≡ from_to (pos 90) (pos 95)
unfolding window_of
plus_93_window = refl

-- px 94
pub plus_94_moves : place_of true (at_8 (pos 94)) ≡ pos 7
unfolding place_of excess_of
plus_94_moves = refl

pub plus_94_window : window_of (at_8 (pos 94)) (pos 7) ≡ from_to (pos 91) (pos 94)
unfolding window_of
plus_94_window = refl

-- px -200: the greatest lies below the least, so that the window is empty
pub minus_200_moves : place_of true (at_8 (negsuc 199)) ≡ pos 56
unfolding place_of excess_of
minus_200_moves = refl

pub minus_200_window : window_of (at_8 (negsuc 199)) (pos 56) ≡ from_to (pos 32) (negsuc 196)
unfolding window_of
minus_200_window = refl
