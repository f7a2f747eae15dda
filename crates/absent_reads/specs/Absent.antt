-- 02, Two: "A sample read must say whether it was inside the data or absent", and how many samples of a block "lie outside the data". Definitions alone.
use Rattle.std.specs.Prelude.{◌≡◌, List, ℕ, ◌+◌, ◌*◌, ◌<◌, ℤ, pos, ◌+ℤ◌, nat_abs, None, Option, Some}
use Rattle.distance.specs.Distance.{sum}
use Rattle.plane.specs.declared.Place.{Place}
use Rattle.plane.specs.Samples.{read_at}

-- what a read counts here: 1 where there was no sample, and 0 for any byte, black too
unfoldable pub absence : Option ℕ → ℕ
absence (Some byte) = 0
absence None = 1

-- a read that found a byte
pub record Real (read : Option ℕ) : Type 0 where
  pub byte : ℕ
  pub is : read ≡ Some byte

-- ---- of a block
-- what is read at row y and column x of the block whose first sample is at `at`, with rows that start `pitch` samples apart: plane's `placed_at` weighs it
abbrev pub reads_from : List ℕ → ℤ → ℕ → ℕ → ℕ → Option ℕ
reads_from s at pitch y x = read_at s (at +ℤ pos (y * pitch + x))

-- how many of its w x h samples are absent
unfoldable pub absent_in : List ℕ → ℤ → ℕ → ℕ → ℕ → ℕ
absent_in s at pitch w h = sum h (λ y. sum w (λ x. absence (reads_from s at pitch y x)))

-- the same of a plane's samples from an offset on, in rows that step by its own pitch, as plane_view's `place_block` has them
abbrev pub place_absent : List ℕ → Place → ℤ → ℕ → ℕ → ℕ
place_absent s place at w h = absent_in s at (nat_abs place.pitch) w h

-- all of them were there, and none was
abbrev pub AllReal : List ℕ → ℤ → ℕ → ℕ → ℕ → Type 0
AllReal s at pitch w h = (y x : ℕ) → y < h → x < w → Real (reads_from s at pitch y x)

abbrev pub NoneReal : List ℕ → ℤ → ℕ → ℕ → ℕ → Type 0
NoneReal s at pitch w h = (y x : ℕ) → y < h → x < w → reads_from s at pitch y x ≡ None
