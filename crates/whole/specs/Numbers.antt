-- The numbers that every crate above speaks of: a remainder from 0, a number wrapped to a signed width, the lesser and the greater of two, the whole root.
-- Definitions alone. What holds of them is in the files beside this one: Floor, Wrapping, Root.
use Rattle.std.specs.Prelude.{◌≡◌, Bool, ◌&&◌, cond, ℕ, zero, suc, ◌+◌, ◌-◌, ◌*◌, ◌/◌, ◌%◌, ◌^◌, ◌≤◌, leb, ℤ, pos, negsuc, ◌+ℤ◌, ◌*ℤ◌}
use Rattle.std.specs.Int.Signed.{lt_z, le_z}
use Rattle.std.specs.Int.{Width}
use mir.Val.{SFits, to_z, bits}

-- ---- 01, "Evaluating and choosing": "divided by pel rounding down .. remainders from 0"
-- The quotient rounded down is the library's `shr_z z m`. This is what it leaves, from 0 to m - 1.
abbrev pub mod_z : ℤ → ℕ → ℕ
mod_z (pos n) m = n % m
mod_z (negsuc n) m = m - suc (n % m)

-- ---- 01, "Evaluating and choosing": "These products and sums wrap at 32 bits"
-- r is z wrapped to the width w: a signed number of that width which is z but for a multiple of 2 ^ bits w.
pub record Wraps (w : Width) (z r : ℤ) : Type 0 where
  pub fits : SFits w r
  pub turns : ℤ
  pub same : z ≡ r +ℤ turns *ℤ pos (2 ^ bits w)

-- z's last bits, read as a signed number: the one r for which `Wraps w z r` holds (Wrapping, `wrapped_is` and `wrapped_only`)
abbrev pub wrapped : Width → ℤ → ℤ
wrapped w z = to_z w (mod_z z (2 ^ bits w))

-- ---- z lies from least to greatest, both included
abbrev pub lies_in : ℤ → ℤ → ℤ → Bool
lies_in least greatest z = le_z least z && le_z z greatest

-- 01, "Numbers accepted": "Vector components fit i16"; "Planning": "Pairs fit i16"
abbrev pub fits_i16 : ℤ → Bool
fits_i16 z = lies_in (negsuc 32767) (pos 32767) z

-- ---- the lesser of two, and the greater
abbrev pub lesser_of : ℤ → ℤ → ℤ
lesser_of a b = cond (lt_z a b) a b

abbrev pub greater_of : ℤ → ℤ → ℤ
greater_of a b = cond (lt_z a b) b a

-- ---- 01, "Planning": "the largest whole number whose square is at most" n
pub record IsRoot (n r : ℕ) : Type 0 where
  pub square : r * r ≤ n
  pub largest : (s : ℕ) → s * s ≤ n → s ≤ r

-- r, or one more where the square of that is still at most n
abbrev pub or_one_more : ℕ → ℕ → ℕ
or_one_more n r = cond (leb ((r + 1) * (r + 1)) n) (r + 1) r

-- "The root of n is twice the root of n/4, or one more", with so many quarters taken
unfoldable pub root_by : ℕ → ℕ → ℕ
root_by zero n = 0
root_by (suc quarters) n = or_one_more n (2 * root_by quarters (n / 4))

-- Sixteen quarters bring every number below 2 ^ 32 to 0. There `root_of n` is the one r for which `IsRoot n r` holds (Root, `root_is` and `root_only`).
unfoldable pub root_of : ℕ → ℕ
unfolding root_by
root_of n = root_by 16 n
