-- 01, "Planning": "Diagonal is pel x the largest whole number whose square is at most width squared + height squared." Definitions alone.
-- That this root is the one which the Rust takes by floating point is a theorem of the crate ieee_root.
use Rattle.std.specs.Prelude.{Bool, ◌&&◌, cond, ℕ, ◌+◌, ◌*◌, ℤ, pos, ◌*ℤ◌, nat_abs, None, Option, Some}
use Rattle.whole.specs.Numbers.{root_of}
use Rattle.limits.specs.Limits.{is_frame_side, is_pel}

abbrev pub squared : ℤ → ℕ
squared side = nat_abs side * nat_abs side

unfoldable pub diagonal_of : ℤ → ℤ → ℤ → ℤ
diagonal_of width height pel = pel *ℤ pos (root_of (squared width + squared height))

abbrev pub frame_fits : ℤ → ℤ → ℤ → Bool
frame_fits width height pel = is_frame_side width && is_frame_side height && is_pel pel

unfoldable pub diagonal_answer : ℤ → ℤ → ℤ → Option ℤ
diagonal_answer width height pel = cond (frame_fits width height pel) (Some (diagonal_of width height pel)) None

-- 01's numbers: 0 done, 2 "another number outside the limits"
abbrev pub answer_number : Option ℤ → ℕ
answer_number (Some value) = 0
answer_number None = 2
