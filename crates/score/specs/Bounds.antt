-- What the limits leave of the numbers on the way to a diagonal and a score. Laws that the proofs cite. Assumes nothing.
use Rattle.std.specs.Prelude.{◌≡◌, true, ℕ, ◌+◌, ◌*◌, ◌/◌, ◌≤◌, ◌<◌, ℤ, pos, nat_abs}
use Rattle.std.proofs.Common.{lt_of_not-le, mul-le-mul, div-le_self, le_trans, arith}
use Rattle.whole.specs.Numbers.{root_of, fits_i16}
use Rattle.whole.specs.Signed.{signed, abs_is}
use Rattle.whole.specs.Truth.{lies_low, lies_high}
use Rattle.whole.specs.Interval.{Within, i16_within}
use Rattle.whole.specs.Root.{root_is}
use Rattle.limits.specs.Limits.{is_frame_side}
use Rattle.score.specs.Diagonal.{squared}

-- ---- components
pub component_small : (z : ℤ) → fits_i16 z ≡ true → nat_abs z ≤ 32768
component_small z e = let w = i16_within z e in omega (arith, abs_is z)

-- a share is largest for the longest vector and a diagonal of 1
pub share_small : (x y : ℤ) (diagonal : ℕ) → fits_i16 x ≡ true → fits_i16 y ≡ true → 100 * (nat_abs x + nat_abs y) / diagonal ≤ 6553600
share_small x y diagonal p q =
    le_trans (div-le_self (100 * (nat_abs x + nat_abs y)) diagonal) (omega (arith, component_small x p, component_small y q))

-- ---- sides
pub side_within : (z : ℤ) → is_frame_side z ≡ true → Within 0 16384 z
side_within z e =
    let l = lies_low (pos 2) (pos 16384) z e in
    let h = lies_high (pos 2) (pos 16384) z e in
    omega signed

pub squared_small : (z : ℤ) → is_frame_side z ≡ true → squared z ≤ 268435456
squared_small z e =
    let w = side_within z e in
    let small : nat_abs z ≤ 16384 = omega (arith, abs_is z) in
    mul-le-mul small small

pub root_small : (n : ℕ) → n ≤ 536870912 → root_of n ≤ 23170
root_small n h =
    let square = (root_is n (omega arith)).square in
    let below : root_of n < 23171 = lt_of_not-le λ l. let s = mul-le-mul l l in absurd (omega arith) in
    omega arith
