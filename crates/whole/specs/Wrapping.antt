-- Wrapping: that exactly one number of a signed width is z but for a multiple of the width's power, and what the machine's shifts and masks leave.
-- Each lemma once, for every width. Assumes nothing.
use Rattle.std.specs.Prelude.{◌≡◌, refl, Bool, ℕ, suc, ◌+◌, ◌-◌, ◌*◌, ◌/◌, ◌%◌, ◌^◌, ◌≤◌, ◌<◌, ℤ, pos, negsuc, ◌+ℤ◌, ◌*ℤ◌}
use Rattle.std.proofs.Common.{sym, ap, ◌∙◌, ⊎_elim, mod-lt, add-mul, div-add-mod', mul-lt-mul_of_pos_right, lt_of_mul-lt-mul_right, mul-div_cancel}
use Rattle.std.proofs.Common.{mul-le-mul_right, arith, le-ltb, to_z-of_z}
use Rattle.std.proofs.Math.Nat.{mul-mod_left, one-le-pow}
use Rattle.std.specs.Int.Bits.{bit_and}
use Rattle.std.proofs.lemmas.Nat.{and_mask}
use Rattle.std.proofs.Math.Arith.{digits_div, digits_mod, mod-mul}
use Rattle.std.specs.Int.Signed.{shr_z}
use Rattle.std.specs.Int.{Width, int_wrap}
use mir.Val.{SFits, to_z, of_z, sel, bits, hbits}
use Rattle.std.proofs.Math.Facts.{to_z_pos, sfits_to_z}
use mir.ValLaws.{pow-bits}
use Rattle.whole.specs.Numbers.{mod_z, Wraps, wrapped}
use Rattle.whole.specs.Signed.{add_is, times_is, signed, lt_or_ge}
use Rattle.whole.specs.Floor.{floor_is, mod_below, mod_only, mod_more, mod_times}

pub power_positive : (w : Width) → 0 < 2 ^ bits w
power_positive w = one-le-pow (bits w) 2 (omega arith)

-- `wrapped` is what the library's wrapping methods leave
pub int_wrap_is : (w : Width) (z : ℤ) → int_wrap w z ≡ wrapped w z
unfolding int_wrap
int_wrap_is w (pos a) = refl
int_wrap_is w (negsuc a) = let m = 2 ^ bits w in ap (to_z w) (let same : m - 1 - a % m ≡ m - suc (a % m) = omega arith in same)

-- a number of at least half the width's power is read as a negative one
pub to_z_high : (w : Width) (n : ℕ) → 2 ^ hbits w ≤ n → to_z w n ≡ negsuc (2 ^ bits w - suc n)
to_z_high w n h = ap (λ (t : Bool). sel t (pos n) (negsuc (2 ^ bits w - suc n))) (le-ltb n (2 ^ hbits w) h)

module _ (w : Width) where
  -- ---- z is `wrapped w z` but for a multiple
  pub wrapped_fits : (z : ℤ) → SFits w (wrapped w z)
  wrapped_fits z = sfits_to_z (record { fits = mod_below (power_positive w) z })

  -- with q the quotient rounded down: a remainder below half the power is read as it is, and q turns are left; another is read one power lower, and one turn
  -- more is left
  pub wrapped_is : (z : ℤ) → Wraps w z (wrapped w z)
  wrapped_is z =
      let m = 2 ^ bits w in
      let q = shr_z z m in
      let down = floor_is (power_positive w) z in
      let below = mod_below (power_positive w) z in
      let low : wrapped w z ≡ pos (mod_z z m) → z ≡ wrapped w z +ℤ q *ℤ pos m =
      λ e. omega (signed, add_is (wrapped w z) (q *ℤ pos m), times_is q m)
      in
      let high : wrapped w z ≡ negsuc (m - suc (mod_z z m)) → z ≡ wrapped w z +ℤ (q +ℤ pos 1) *ℤ pos m =
      λ e. omega (signed, add_is (wrapped w z) ((q +ℤ pos 1) *ℤ pos m), times_is (q +ℤ pos 1) m, ap (λ (n : ℕ). n * m) (add_is q (pos 1)))
      in
      ⊎_elim
      (λ l. record { fits = wrapped_fits z; turns = q; same = low (to_z_pos w l) })
      (λ l. record { fits = wrapped_fits z; turns = q +ℤ pos 1; same = high (to_z_high w (mod_z z m) l) })
      (lt_or_ge (mod_z z m) (2 ^ hbits w))

  -- ---- and no other number is: a number that fits is read back from its remainder, which does not see a multiple
  mod_of_fit : (z : ℤ) → SFits w z → mod_z z (2 ^ bits w) ≡ of_z w z
  mod_of_fit (pos n) f = mod_only (pos n) (pos 0) n (omega (arith, f.sfits, pow-bits w)) (omega arith)
  mod_of_fit (negsuc n) f =
      let h : n < 2 ^ bits w = omega (arith, f.sfits, pow-bits w) in
      mod_only (negsuc n) (negsuc 0) (2 ^ bits w - suc n) (omega arith) (omega arith)

  pub wrapped_same : {z : ℤ} → SFits w z → wrapped w z ≡ z
  wrapped_same {z} f = ap (to_z w) (mod_of_fit z f) ∙ to_z-of_z f

  pub wrapped_only : {z r : ℤ} → Wraps w z r → wrapped w z ≡ r
  wrapped_only {z} {r} h =
      ap (wrapped w) h.same ∙ ap (to_z w) (mod_more (power_positive w) r h.turns) ∙ wrapped_same h.fits

  -- a multiple may be added before or after
  pub wrapped_more : (z k : ℤ) → wrapped w (z +ℤ k *ℤ pos (2 ^ bits w)) ≡ wrapped w z
  wrapped_more z k = ap (to_z w) (mod_more (power_positive w) z k)

  -- a sum, or a product by a whole number, may be wrapped on the way
  pub wrapped_add : (x y : ℤ) → wrapped w (wrapped w x +ℤ y) ≡ wrapped w (x +ℤ y)
  wrapped_add x y =
      let m = 2 ^ bits w in
      let r = wrapped w x in
      let k = (wrapped_is x).turns in
      let turned : x +ℤ y ≡ (r +ℤ y) +ℤ k *ℤ pos m =
      let e = (wrapped_is x).same in
      omega (signed, add_is x y, add_is r (k *ℤ pos m), add_is r y, add_is (r +ℤ y) (k *ℤ pos m))
      in
      sym (ap (wrapped w) turned ∙ wrapped_more (r +ℤ y) k)

  -- ---- a shift up: the product, wrapped
  pub shifted_up : {z : ℤ} (m : ℕ) → SFits w z → to_z w ((of_z w z * m) % 2 ^ bits w) ≡ wrapped w (z *ℤ pos m)
  shifted_up {z} m f =
      ap (λ (n : ℕ). to_z w ((n * m) % 2 ^ bits w)) (sym (mod_of_fit z f)) ∙ ap (to_z w) (mod_times (power_positive w) z m)

-- ---- the low bits of a number that fits: the remainder by any divisor of the width's power
pub low_bits : (w : Width) {z : ℤ} (m c : ℕ) → 0 < m → 2 ^ bits w ≡ c * m → SFits w z → of_z w z % m ≡ mod_z z m
low_bits w {z = pos n} m c some e f = refl
low_bits w {z = negsuc n} m c some e f =
    let q = n / m in
    let parts : q * m + n % m ≡ n = div-add-mod' n m in
    let rest : n % m < m = mod-lt n some in
    let under : q < c = lt_of_mul-lt-mul_right m (omega (arith, f.sfits, pow-bits w)) in
    let left : c ≡ (c - suc q) + suc q = omega arith in
    let times : c * m ≡ (c - suc q) * m + suc q * m = ap (λ (k : ℕ). k * m) left ∙ add-mul (c - suc q) (suc q) m in
    let digits : 2 ^ bits w - suc n ≡ (c - suc q) * m + (m - suc (n % m)) = omega arith in
    ap (λ (k : ℕ). k % m) digits ∙ digits_mod (c - suc q) {m = m} {r = m - suc (n % m)} (omega arith)

-- a mask of k ones leaves the low k bits
pub masked : (w : Width) {z : ℤ} (k c : ℕ) → 2 ^ bits w ≡ c * 2 ^ k → 2 ^ k ≤ 2 ^ hbits w → SFits w z →
    to_z w (bit_and (of_z w z) (2 ^ k - 1)) ≡ pos (mod_z z (2 ^ k))
masked w {z} k c e small f =
    let some : 0 < 2 ^ k = one-le-pow k 2 (omega arith) in
    ap (to_z w) (and_mask (of_z w z) k ∙ low_bits w (2 ^ k) c some e f) ∙ to_z_pos w (omega (arith, mod_below some z))

-- a number shifted up with another in the bits below, as a pair and a last word are put together
pub shifted_and_added : (w : Width) {z : ℤ} (m : ℕ) (y : ℤ) → SFits w z → wrapped w (to_z w ((of_z w z * m) % 2 ^ bits w) +ℤ y) ≡ wrapped w (z *ℤ pos m +ℤ y)
shifted_and_added w {z} m y f = ap (λ (x : ℤ). wrapped w (x +ℤ y)) (shifted_up w m f) ∙ wrapped_add w (z *ℤ pos m) y

-- ---- a shift up by half of a width's bits and down again: the low half is left, read as a signed number
module _ (w h : Width) (full : 2 ^ bits w ≡ 2 ^ bits h * 2 ^ bits h) (half : 2 ^ hbits w ≡ 2 ^ hbits h * 2 ^ bits h) where
  up : (n : ℕ) → (n * 2 ^ bits h) % 2 ^ bits w ≡ (n % 2 ^ bits h) * 2 ^ bits h
  up n =
      let m = 2 ^ bits h in
      let some = power_positive h in
      rw (full, mod-mul (n * m) some some, mul-div_cancel n some, mul-mod_left n m) (omega arith)

  down : (r : ℕ) → r < 2 ^ bits h → shr_z (to_z w (r * 2 ^ bits h)) (2 ^ bits h) ≡ to_z h r
  down r l =
      let m = 2 ^ bits h in
      let some = power_positive h in
      let below : r < 2 ^ hbits h → r * m < 2 ^ hbits w = λ s. rw half (mul-lt-mul_of_pos_right s some) in
      let above : 2 ^ hbits h ≤ r → 2 ^ hbits w ≤ r * m = λ s. rw half (mul-le-mul_right m s) in
      let left : m ≡ (m - suc r) + suc r = omega arith in
      let times : m * m ≡ (m - suc r) * m + suc r * m = ap (λ (k : ℕ). k * m) left ∙ add-mul (m - suc r) (suc r) m in
      let digits : 2 ^ bits w - suc (r * m) ≡ (m - suc r) * m + (m - 1) = omega arith in
      ⊎_elim
      (λ s. ap (λ (z : ℤ). shr_z z m) (to_z_pos w (below s)) ∙ ap pos (mul-div_cancel r some) ∙ sym (to_z_pos h s))
      (λ s. ap (λ (z : ℤ). shr_z z m) (to_z_high w (r * m) (above s)) ∙ ap negsuc (ap (λ (k : ℕ). k / m) digits ∙ digits_div (m - suc r) (omega arith))
      ∙ sym (to_z_high h r s))
      (lt_or_ge r (2 ^ hbits h))

  pub shifted : {z : ℤ} → SFits w z → shr_z (to_z w ((of_z w z * 2 ^ bits h) % 2 ^ bits w)) (2 ^ bits h) ≡ wrapped h z
  shifted {z} f =
      ap (λ (k : ℕ). shr_z (to_z w k) (2 ^ bits h)) (up (of_z w z))
      ∙ down (of_z w z % 2 ^ bits h) (mod-lt (of_z w z) (power_positive h))
      ∙ ap (to_z h) (low_bits w (2 ^ bits h) (2 ^ bits h) (power_positive h) full f)
