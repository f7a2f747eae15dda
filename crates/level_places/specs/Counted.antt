-- How many rows a level and those in front of it can have, so that they can be counted in 64 bits. Assumes nothing.
use Rattle.std.specs.Prelude.{◌≡◌, refl, ℕ, zero, suc, ◌+◌, ◌-◌, ◌≤◌, ℤ, pos, negsuc, nat_abs}
use Rattle.std.proofs.Common.{ap, add-one, arith, SFits}
use Rattle.std.proofs.Math.Nat.{mul-le-mul}
use Rattle.std.specs.Int.{w32}
use Rattle.whole.specs.Signed.{abs_is}
use Rattle.whole.specs.Interval.{Within, within_32}
use Rattle.limits.specs.Limits.{shifted_by}
use Rattle.limits.specs.Ranges.{pel_within, within_shifted}
use Rattle.level_places.specs.declared.SuperFrame.{SuperFrame}
use Rattle.level_places.specs.Asked.{Rowed}
use Rattle.level_places.specs.Sizes.{size_fits}
use Rattle.level_places.specs.Levels.{turns_of, whole_rows, finest_rows, level_rows, reduced_rows, rows_before}

-- how far a number lies from zero, by its interval
pub size_below : {l h : ℕ} {z : ℤ} (m : ℕ) → Within l h z → l ≤ m → h ≤ m → nat_abs z ≤ m
size_below {z = z} m w a b = let low = w.low in let high = w.high in omega (arith, abs_is z)

-- ---- level 0: 4 x 4 subplanes of at most 16,384 rows
module _ (f : SuperFrame) (rowed : Rowed f) where
  pub pel_most : nat_abs f.pel ≤ 4
  pel_most = size_below 4 (pel_within f.pel rowed.pel_in) (omega arith) (omega arith)

  pub height_most : (shift : ℤ) → nat_abs (shifted_by f.frame.y shift) ≤ 16384
  height_most shift = size_below 16384 (within_shifted shift rowed.height_in) (omega arith) (omega arith)

  pub whole_most : (shift : ℤ) → whole_rows f shift ≤ 262144
  unfolding whole_rows
  whole_most shift = mul-le-mul (mul-le-mul pel_most pel_most) (height_most shift)

-- ---- a reduced level, and one more of them
module _ {height : ℤ} (f : SFits w32 height) (shift : ℤ) where
  pub level_most : (lv : ℕ) → level_rows height shift lv ≤ 2147483648
  unfolding level_rows
  level_most lv = size_below 2147483648 (within_shifted shift (within_32 (size_fits lv f))) (omega arith) (omega arith)

pub none_reduced : (height shift : ℤ) → 0 ≡ reduced_rows height shift 0
unfolding reduced_rows
none_reduced height shift = refl

pub one_more : (height shift : ℤ) (n : ℕ) → reduced_rows height shift (n + 1) ≡ reduced_rows height shift n + level_rows height shift (n + 1)
unfolding reduced_rows
one_more height shift n = rw add-one

-- ---- the rows in front of a level, by its number
module _ (f : SuperFrame) (shift : ℤ) where
  pub none_before : {level : ℤ} → Within 0 15 level → turns_of level ≡ 0 → 0 ≡ rows_before f level shift
  none_before {level = pos zero} w e = refl
  none_before {level = pos (suc n)} w e = absurd (omega arith)
  none_before {level = negsuc n} w e = let low = w.low in absurd (omega arith)

  pub some_before : {level : ℤ} → Within 0 15 level → (turns_of level ≡ 0 → ⊥) →
      finest_rows f shift + reduced_rows f.frame.y shift (turns_of level - 1) ≡ rows_before f level shift
  some_before {level = pos zero} w h = absurd (h refl)
  some_before {level = pos (suc n)} w h = let e : suc n - 1 ≡ n = omega arith in ap (λ (k : ℕ). finest_rows f shift + reduced_rows f.frame.y shift k) e
  some_before {level = negsuc n} w h = absurd (h refl)

pub turns_most : {level : ℤ} → Within 0 15 level → turns_of level ≤ 15
turns_most {level = pos n} w = let high = w.high in omega arith
turns_most {level = negsuc n} w = omega arith
