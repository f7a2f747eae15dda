-- One axis of a block's plan. 01, "Planning", from "Margin of v" to "The window". Definitions alone.
use Rattle.std.specs.Prelude.{Bool, cond, ℤ, pos, ◌+ℤ◌, ◌-ℤ◌, ◌*ℤ◌}
use Rattle.std.specs.Int.Signed.{lt_z, le_z}
use Rattle.whole.specs.Numbers.{lesser_of, greater_of}
use Rattle.records.specs.declared.Pair.{Pair}
use Rattle.axis.specs.declared.Axis.{Axis}

-- "Margin of v is v - 2 below zero, else v + 2."
abbrev pub margin_of : ℤ → ℤ
margin_of v = cond (lt_z v (pos 0)) (v -ℤ pos 2) (v +ℤ pos 2)

-- "limits min = -pel x origin (included) and max = pel x (frame - origin - side) (excluded)"
abbrev pub least_of : Axis → ℤ
least_of a = pos 0 -ℤ a.pel *ℤ a.origin

abbrev pub end_of : Axis → ℤ
end_of a = a.pel *ℤ (a.frame -ℤ a.origin -ℤ a.side)

-- "the excess is v - min, v - max + 1 or 0", of the predictor with its margin
abbrev pub excess_by : ℤ → ℤ → ℤ → ℤ
excess_by v min max = cond (lt_z v min) (v -ℤ min) (cond (le_z max v) (v -ℤ max +ℤ pos 1) (pos 0))

unfoldable pub excess_of : Axis → ℤ
excess_of a = excess_by (margin_of a.predictor) (least_of a) (end_of a)

-- "the origin less the excess is clamped into the frame", where the block moves; where it does not, the origin
unfoldable pub place_of : Bool → Axis → ℤ
place_of moves a = cond moves (lesser_of (greater_of (a.origin -ℤ excess_of a) (pos 0)) (a.frame -ℤ a.side)) a.origin

-- "d = old - moved, min loses the negative part of d, max loses its positive part"
-- "The window is predictor ± radius, cut to min and max - 1."
unfoldable pub window_of : Axis → ℤ → Pair
window_of a place =
    let d = a.origin -ℤ place in
    record {
      first = greater_of (a.predictor -ℤ a.radius) (least_of a -ℤ lesser_of d (pos 0));
      second = lesser_of (a.predictor +ℤ a.radius) (end_of a -ℤ greater_of d (pos 0) -ℤ pos 1);
    }
