-- What IEEE 754 (section 5.4.1) asks of the operation squareRoot, rounding to nearest with ties to even, said with whole numbers alone.
-- `IsSqrt f v x`: x is what the operation gives at v in the format f, for a v with no minus sign. Definitions alone.
-- The kit's lib.Ieee has the formats: a finite value x is the fraction num x / den x, `fits f x` says that the format f holds x, `to_bits f x` is
-- its bit pattern, whose last bit is the last digit of the significand.
use Rattle.std.specs.Prelude.{◌≡◌, Bool, false, not, ℕ, ◌+◌, ◌*◌, ◌%◌, ◌≤◌, ◌<◌, T, Float}
use Rattle.std.specs.Float.{nan, inf, fin, Format}
use Rattle.std.specs.Float.Ieee.{fits, to_bits}
use Rattle.std.specs.Float.Ieee.Positive.{num, den}

-- a number, with no minus sign
abbrev pub plain : Float → Bool
plain nan = false
plain (inf s) = false
plain (fin s m e) = not s

abbrev pub Less : Float → Float → Type 0
Less x y = num x * den y < num y * den x

-- x + y is the fraction sum_num x y / sum_den x y
abbrev pub sum_num : Float → Float → ℕ
sum_num x y = num x * den y + num y * den x

abbrev pub sum_den : Float → Float → ℕ
sum_den x y = den x * den y

-- The root of v is at or below the middle of x and y, (x + y) / 2, exactly where 4 v ≤ (x + y)², and at or above it where (x + y)² ≤ 4 v.
-- Here are 4 v and (x + y)², both multiplied by den v and by sum_den x y squared, so that they are whole numbers.
abbrev pub four_times : Float → Float → Float → ℕ
four_times v x y = 4 * num v * (sum_den x y * sum_den x y)

abbrev pub sum_squared : Float → Float → Float → ℕ
sum_squared v x y = sum_num x y * sum_num x y * den v

-- A number at or below the middle of two is no nearer to the greater of them, one at or above it no nearer to the less. So `under` and `over` say that
-- no y of the format is nearer to the root of v than x is: none above x, none below. (One with a minus sign is farther off than 0.)
-- `even`: where some other y is as near, the last digit of x is 0.
pub record IsSqrt (f : Format) (v x : Float) : Type 0 where
  pub held : T (fits f x)
  pub number : T (plain x)
  pub under : (y : Float) → T (fits f y) → T (plain y) → Less x y → four_times v x y ≤ sum_squared v x y
  pub over : (y : Float) → T (fits f y) → T (plain y) → Less y x → sum_squared v x y ≤ four_times v x y
  pub even : (y : Float) → T (fits f y) → T (plain y) → (x ≡ y → ⊥) → four_times v x y ≡ sum_squared v x y → to_bits f x % 2 ≡ 0

-- x is nearer to the root of v than any other value of the format: no tie
pub record IsNearest (f : Format) (v x : Float) : Type 0 where
  pub held : T (fits f x)
  pub number : T (plain x)
  pub under : (y : Float) → T (fits f y) → T (plain y) → Less x y → four_times v x y < sum_squared v x y
  pub over : (y : Float) → T (fits f y) → T (plain y) → Less y x → sum_squared v x y < four_times v x y
