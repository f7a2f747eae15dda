-- Laws of Lambda: which way a quarter and a third round. Assumes nothing.
use Rattle.std.specs.Prelude.{◌≡◌, refl, ℕ, zero, suc, ◌/◌, ℤ, pos, negsuc, ◌+ℤ◌, ◌*ℤ◌, neg_ℤ, ◌≤ℤ◌, ◌<ℤ◌}
use Rattle.std.proofs.Common.{sym, lit<}
use Rattle.std.proofs.Math.IntN.{neg_ℤ-neg_ℤ}
use Rattle.whole.specs.Signed.{signed, add_is, times_is}
use Rattle.whole.specs.Floor.{floor_low, floor_high}
use Rattle.records.specs.Lambda.{quarter_of, third_of}

-- a quarter rounds down: four of it are at most the setting, and less than four away
pub record RoundsDown (z q : ℤ) : Type 0 where
  pub under : (q *ℤ pos 4) ≤ℤ z
  pub near : z <ℤ (q *ℤ pos 4 +ℤ pos 4)

pub quarter_rounds_down : (z : ℤ) → RoundsDown z (quarter_of z)
quarter_rounds_down z =
    let q = quarter_of z in
    let e = times_is q 4 in
    record {
      under = omega (signed, floor_low {m = 4} (lit< tt) z);
      near = omega (signed, floor_high {m = 4} (lit< tt) z, add_is (q *ℤ pos 4) (pos 4));
    }

-- a third rounds toward zero: down above zero, and below zero as its mirror image above
pub third_above : (n : ℕ) → third_of (pos n) ≡ pos (n / 3)
third_above n = refl

pub third_mirrors : (z : ℤ) → third_of (neg_ℤ z) ≡ neg_ℤ (third_of z)
third_mirrors (pos zero) = refl
third_mirrors (pos (suc n)) = refl
third_mirrors (negsuc n) = sym (neg_ℤ-neg_ℤ (pos (suc n / 3)))
