-- How large the accepted numbers are: what holds at pel 1, 2 and 4 holds at every pel, what holds at radius 0 to 3 at every radius. Assumes nothing.
use Rattle.std.specs.Prelude.{◌≡◌, Bool, true, false, cond, ◌&&◌, ◌||◌, ◌⊎◌, ℕ, zero, suc, ℤ, pos, negsuc, ◌≤ℤ◌}
use Rattle.std.proofs.Common.{inl, inr, ⊎_elim, arith, lit<}
use Rattle.std.specs.Int.Signed.{lt_z, le_z, shr_z}
use Rattle.whole.specs.Numbers.{lies_in}
use Rattle.whole.specs.Signed.{signed, abs_is}
use Rattle.whole.specs.Truth.{left_of, right_of, either_of, lies_low, lies_high}
use Rattle.whole.specs.Floor.{floor_low, floor_high}
use Rattle.whole.specs.Interval.{Within, within_shr, within_either}
use Rattle.limits.specs.Limits.{same, is_block, is_pel, are_shifts, shifted_by, radius_of}

-- a number from least to greatest, as an order on whole numbers
pub lies : (least greatest z : ℤ) → lies_in least greatest z ≡ true → (least ≤ℤ z) × (z ≤ℤ greatest)
lies least greatest z e =
    let low = lies_low least greatest z e in
    let high = lies_high least greatest z e in
    (omega signed, omega signed)

pub same_is : (x y : ℤ) → same x y ≡ true → y ≡ x
same_is x y e = let low = lies_low x x y e in let high = lies_high x x y e in omega signed

-- and back
pub lies_of : {least greatest z : ℤ} → least ≤ℤ z → z ≤ℤ greatest → lies_in least greatest z ≡ true
lies_of {least} {greatest} {z} low high =
    let a : le_z least z ≡ true = omega signed in
    let b : le_z z greatest ≡ true = omega signed in
    rw (a, b)

pub same_of : {x y : ℤ} → x ≡ y → same x y ≡ true
same_of {x} {y} e = lies_of {least = x} {greatest = x} {z = y} (omega signed) (omega signed)

pub pel_cases : (pel : ℤ) → is_pel pel ≡ true → (pel ≡ pos 1) ⊎ ((pel ≡ pos 2) ⊎ (pel ≡ pos 4))
pel_cases pel e =
    ⊎_elim
    (λ h. ⊎_elim (λ k. inl (same_is (pos 1) pel k)) (λ k. inr (inl (same_is (pos 2) pel k))) (either_of (same (pos 1) pel) (same (pos 2) pel) h))
    (λ h. inr (inr (same_is (pos 4) pel h)))
    (either_of (same (pos 1) pel || same (pos 2) pel) (same (pos 4) pel) e)

pub at_each_pel : (Q : ℤ → Type 0) → Q (pos 1) → Q (pos 2) → Q (pos 4) → (pel : ℤ) → is_pel pel ≡ true → Q pel
at_each_pel Q one two four pel e =
    ⊎_elim (λ h. rw h one) (⊎_elim (λ h. rw h two) (λ h. rw h four)) (pel_cases pel e)

pub pel_within : (pel : ℤ) → is_pel pel ≡ true → Within 0 4 pel
pel_within pel e = at_each_pel (λ z. Within 0 4 z) (omega arith) (omega arith) (omega arith) pel e

-- the horizontal shift is 0 or 1
module _ (x y : ℤ) where
  pub shift_within : are_shifts x y ≡ true → Within 0 1 x
  shift_within e =
      ⊎_elim
      (λ h. ⊎_elim (λ k. zero (left_of (same (pos 0) x) (same (pos 0) y) k)) (λ k. one (left_of (same (pos 1) x) (same (pos 0) y) k))
      (either_of (same (pos 0) x && same (pos 0) y) (same (pos 1) x && same (pos 0) y) h))
      (λ h. one (left_of (same (pos 1) x) (same (pos 1) y) h))
      (either_of (same (pos 0) x && same (pos 0) y || same (pos 1) x && same (pos 0) y) (same (pos 1) x && same (pos 1) y) e)
    where
      zero : same (pos 0) x ≡ true → Within 0 1 x
      zero k = rw (same_is (pos 0) x k) (omega arith)

      one : same (pos 1) x ≡ true → Within 0 1 x
      one k = rw (same_is (pos 1) x k) (omega arith)

pub radius_within : {param : ℤ} → Within 3 3 param → Within 0 3 (radius_of param)
radius_within {param} w = let low = w.low in let high = w.high in omega (arith, abs_is param)

pub at_each_radius : (Q : ℤ → Type 0) → Q (pos 0) → Q (pos 1) → Q (pos 2) → Q (pos 3) → (radius : ℤ) → lies_in (pos 0) (pos 3) radius ≡ true → Q radius
at_each_radius Q none one two three (pos zero) e = none
at_each_radius Q none one two three (pos (suc zero)) e = one
at_each_radius Q none one two three (pos (suc (suc zero))) e = two
at_each_radius Q none one two three (pos (suc (suc (suc zero)))) e = three
at_each_radius Q none one two three (pos (suc (suc (suc (suc n))))) e = let high = lies_high (pos 0) (pos 3) (pos (suc (suc (suc (suc n))))) e in
    absurd (omega signed)
at_each_radius Q none one two three (negsuc n) e = let low = lies_low (pos 0) (pos 3) (negsuc n) e in absurd (omega signed)

-- a block's sides are 8 or 16
is_8 : {z : ℤ} → same (pos 8) z ≡ true → Within 0 16 z
is_8 {z} e = rw (same_is (pos 8) z e) (omega arith)

is_16 : {z : ℤ} → same (pos 16) z ≡ true → Within 0 16 z
is_16 {z} e = rw (same_is (pos 16) z e) (omega arith)

pub block_within : (width height : ℤ) → is_block width height ≡ true → Within 0 16 width × Within 0 16 height
block_within width height e =
    let w8 = same (pos 8) width in
    let h8 = same (pos 8) height in
    let w16 = same (pos 16) width in
    let h16 = same (pos 16) height in
    ⊎_elim
    (λ a. (is_8 (left_of w8 h8 a), is_8 (right_of w8 h8 a)))
    (λ a. (is_16 (left_of w16 (h8 || h16) a), ⊎_elim (λ b. is_8 b) (λ b. is_16 b) (either_of h8 h16 (right_of w16 (h8 || h16) a))))
    (either_of (w8 && h8) (w16 && (h8 || h16)) e)

-- a number shifted lies where it lay
pub within_shifted : {l h : ℕ} {z : ℤ} (s : ℤ) → Within l h z → Within l h (shifted_by z s)
within_shifted s p = within_either (lt_z s (pos 1)) p (within_shr 2 p)

-- shifted numbers keep their order, and stay on their side of zero
pub shifted_order : (s : ℤ) {x y : ℤ} → x ≤ℤ y → shifted_by x s ≤ℤ shifted_by y s
shifted_order s {x} {y} h = by (lt_z s (pos 1))
  where
    by : (t : Bool) → cond t x (shr_z x 2) ≤ℤ cond t y (shr_z y 2)
    by true = h
    by false = omega (signed, floor_low {m = 2} (lit< tt) x, floor_high {m = 2} (lit< tt) y)

pub shifted_natural : (s : ℤ) {x : ℤ} → pos 0 ≤ℤ x → pos 0 ≤ℤ shifted_by x s
shifted_natural s {x} h = by (lt_z s (pos 1))
  where
    by : (t : Bool) → pos 0 ≤ℤ cond t x (shr_z x 2)
    by true = h
    by false = omega (signed, floor_high {m = 2} (lit< tt) x)

-- a frame's side, shifted, is still a side
pub shifted_least : (z s : ℤ) → pos 2 ≤ℤ z → z ≤ℤ pos 16384 → (pos 1 ≤ℤ shifted_by z s) × (shifted_by z s ≤ℤ pos 16384)
shifted_least z s low high = by (lt_z s (pos 1))
  where
    by : (t : Bool) → (pos 1 ≤ℤ cond t z (shr_z z 2)) × (cond t z (shr_z z 2) ≤ℤ pos 16384)
    by true = (omega signed, omega signed)
    by false =
        let below = floor_low {m = 2} (lit< tt) z in
        let above = floor_high {m = 2} (lit< tt) z in
        (omega (signed, below, above), omega (signed, below, above))
