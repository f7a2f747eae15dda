-- Numbers in an interval. `Within l h z` says that z lies from -l to h, and the laws carry that through the operations: the bounds
-- compute, so that a chain of steps asks nothing of `omega`. `Is` ties what the machine reads of a local to the number meant. Assumes nothing.
use Rattle.std.specs.Prelude.{◌≡◌, refl, Bool, true, false, cond, ℕ, zero, suc, ◌+◌, ◌*◌, ◌^◌, ◌≤◌, ◌<◌, T, ltb, leb, ℤ, pos, negsuc, ◌+ℤ◌, ◌-ℤ◌}
use Rattle.std.specs.Prelude.{◌*ℤ◌, neg_ℤ, nat_abs, ◌≤ℤ◌}
use Rattle.std.proofs.Common.{sym, subst, ◌∙◌, mul-le-mul, mul-le-mul_right, div-le_self, arith, ltb→lt, leb→le, to_z-of_z}
use Rattle.std.specs.Int.Signed.{mag, le_z, quot_z, shr_z, non_neg}
use Rattle.std.specs.Int.{Width, w16, w32, w64}
use mir.Val.{SFits, Fits, to_z, of_z, bits, hbits}
use Rattle.whole.specs.Numbers.{fits_i16}
use Rattle.whole.specs.Truth.{lies_low, lies_high}
use Rattle.whole.specs.Signed.{P, N, signed, range, fit, add_is, diff_is, times_is, nonneg_of, abs_is, got}
use Rattle.whole.specs.Floor.{quot_p, quot_n}

pub record Within (l h : ℕ) (z : ℤ) : Type 0 where
  pub low : N z ≤ l + P z
  pub high : P z ≤ h + N z

-- ---- where an interval comes from: two literals, as a `requires` has them; a literal; a width; a narrower interval
pub within : {l h : ℕ} {z : ℤ} → negsuc l ≤ℤ z → z ≤ℤ pos h → Within (suc l) h z
within p q = omega signed

pub natural : {h : ℕ} {z : ℤ} → pos 0 ≤ℤ z → z ≤ℤ pos h → Within 0 h z
natural p q = omega signed

pub within_literal : {z : ℤ} → Within (N z) (P z) z
within_literal = omega arith

pub within_32 : {z : ℤ} → SFits w32 z → Within 2147483648 2147483647 z
within_32 f = omega (arith, range f)

pub within_16 : {z : ℤ} → SFits w16 z → Within 32768 32767 z
within_16 f = omega (arith, range f)

-- what fits i16, and only that, lies in its interval
pub i16_within : (z : ℤ) → fits_i16 z ≡ true → Within 32768 32767 z
i16_within z e = let low = lies_low (negsuc 32767) (pos 32767) z e in let high = lies_high (negsuc 32767) (pos 32767) z e in omega signed

pub within_i16 : {z : ℤ} → Within 32768 32767 z → fits_i16 z ≡ true
within_i16 {z} w =
    let low = w.low in
    let high = w.high in
    let a : le_z (negsuc 32767) z ≡ true = omega signed in
    let b : le_z z (pos 32767) ≡ true = omega signed in
    rw (a, b)

pub within_more : {l h l' h' : ℕ} {z : ℤ} → Within l h z → T (leb l l') → T (leb h h') → Within l' h' z
within_more {l} {h} {l'} {h'} p t u = omega (arith, leb→le l l' t, leb→le h h' u)

-- ---- the operations
pub within_add : {l h l' h' : ℕ} {x y : ℤ} → Within l h x → Within l' h' y → Within (l + l') (h + h') (x +ℤ y)
within_add {x = x} {y = y} p q = omega (arith, add_is x y)

pub within_sub : {l h l' h' : ℕ} {x y : ℤ} → Within l h x → Within l' h' y → Within (l + h') (h + l') (x -ℤ y)
within_sub {x = x} {y = y} p q = omega (arith, diff_is x y)

pub within_mul : {l h : ℕ} {x : ℤ} (k : ℕ) → Within l h x → Within (l * k) (h * k) (x *ℤ pos k)
within_mul {x = x} k p = omega (arith, times_is x k, mul-le-mul_right k p.low, mul-le-mul_right k p.high)

pub within_shr : {l h : ℕ} {x : ℤ} (m : ℕ) → Within l h x → Within l h (shr_z x m)
within_shr {x = pos a} m p = omega (arith, div-le_self a m)
within_shr {x = negsuc a} m p = omega (arith, div-le_self a m)

pub within_quot : {l h : ℕ} {x : ℤ} (m : ℕ) → Within l h x → Within l h (quot_z x (pos m))
within_quot {x = pos a} m p = omega (arith, quot_p (pos a) m, quot_n (pos a) m, div-le_self a m, div-le_self 0 m)
within_quot {x = negsuc a} m p = omega (arith, quot_p (negsuc a) m, quot_n (negsuc a) m, div-le_self (suc a) m, div-le_self 0 m)

-- one of two, whichever a test picks: the lesser, the greater
pub within_either : {l h : ℕ} {x y : ℤ} (t : Bool) → Within l h x → Within l h y → Within l h (cond t x y)
within_either true p q = p
within_either false p q = q

-- a product of two, each in an interval about zero
abs_neg : (n : ℕ) → nat_abs (neg_ℤ (pos n)) ≡ n
abs_neg zero = refl
abs_neg (suc n) = refl

abs_times : (x y : ℤ) → nat_abs (x *ℤ y) ≡ nat_abs x * nat_abs y
abs_times (pos a) (pos b) = refl
abs_times (pos a) (negsuc b) = abs_neg (a * suc b)
abs_times (negsuc a) (pos b) = abs_neg (suc a * b)
abs_times (negsuc a) (negsuc b) = refl

abs_below : {b : ℕ} {z : ℤ} → Within b b z → nat_abs z ≤ b
abs_below {z = pos n} p = omega arith
abs_below {z = negsuc n} p = omega arith

of_abs : {b : ℕ} {z : ℤ} → nat_abs z ≤ b → Within b b z
of_abs {z = pos n} h = omega arith
of_abs {z = negsuc n} h = omega arith

pub within_times : {b d : ℕ} {x y : ℤ} → Within b b x → Within d d y → Within (b * d) (b * d) (x *ℤ y)
within_times {b} {d} {x} {y} p q =
    of_abs (subst (λ (n : ℕ). n ≤ b * d) (sym (abs_times x y)) (mul-le-mul (abs_below p) (abs_below q)))

-- ---- an interval of numerals fits a width: `fits tt tt`
pub fits : {w : Width} {l h : ℕ} {z : ℤ} → Within l h z → T (leb l (2 ^ hbits w)) → T (ltb h (2 ^ hbits w)) → SFits w z
fits {w} {l} {h} p t u = fit (omega (arith, ltb→lt h (2 ^ hbits w) u)) (omega (arith, leb→le l (2 ^ hbits w) t))

-- a product of two numbers of 32 bits fits 64
pub fit_product : {x y : ℤ} → SFits w32 x → SFits w32 y → SFits w64 (x *ℤ y)
fit_product {x} {y} f g =
    let p : Within 2147483648 2147483648 x = within_more (within_32 f) tt tt in
    let q : Within 2147483648 2147483648 y = within_more (within_32 g) tt tt in
    fits (within_times p q) tt tt

-- ---- a local's number: what the machine reads, X, is x, which lies in an interval
pub record Is (w : Width) (l h : ℕ) (X x : ℤ) : Type 0 where
  pub same : X ≡ x
  pub lies : Within l h x

-- a parameter, a call's result or an element, whose number fits (`c.fits.x`)
pub is_arg : {w : Width} {l h : ℕ} {x : ℤ} → SFits w x → Within l h x → Is w l h (to_z w (of_z w x)) x
is_arg f p = record { same = to_z-of_z f; lies = p }

-- a call's result, from what the call ensures of it: `is_call w32 c.f.ok c.f.ensures ..`
pub is_call : (w : Width) {l h : ℕ} {z x : ℤ} → mag z < 2 ^ hbits w → z ≡ x → Within l h x → Is w l h (to_z w (of_z w z)) x
is_call w ok e p = record { same = got w ok e; lies = p }

-- what the machine reads lies where the number meant does
pub read_within : {w : Width} {l h : ℕ} {X x : ℤ} → Is w l h X x → Within l h X
read_within {l = l} {h = h} p = subst (Within l h) (sym p.same) p.lies

-- a number whose interval shows that it fits
pub is_within : (w : Width) {l h : ℕ} {x : ℤ} → Within l h x → T (leb l (2 ^ hbits w)) → T (ltb h (2 ^ hbits w)) → Is w l h (to_z w (of_z w x)) x
is_within w p t u = is_arg (fits p t u) p

pub is_wider : {w : Width} {l h l' h' : ℕ} {X x : ℤ} → Is w l h X x → T (leb l l') → T (leb h h') → Is w l' h' X x
is_wider p t u = record { same = p.same; lies = within_more p.lies t u }

pub is_literal : (w : Width) (z : ℤ) → Is w (N z) (P z) z z
is_literal w z = record { same = refl; lies = within_literal }

-- what an operation asks (`ask-`), and what it leaves (`is-`)
module _ {w : Width} {l h l' h' : ℕ} {X x Y y : ℤ} (p : Is w l h X x) (q : Is w l' h' Y y) where
  pub ask_add : T (leb (l + l') (2 ^ hbits w)) → T (ltb (h + h') (2 ^ hbits w)) → SFits w (X +ℤ Y)
  ask_add t u = rw (p.same, q.same) (fits (within_add p.lies q.lies) t u)

  pub ask_sub : T (leb (l + h') (2 ^ hbits w)) → T (ltb (h + l') (2 ^ hbits w)) → SFits w (X -ℤ Y)
  ask_sub t u = rw (p.same, q.same) (fits (within_sub p.lies q.lies) t u)

  pub is_add : T (leb (l + l') (2 ^ hbits w)) → T (ltb (h + h') (2 ^ hbits w)) → Is w (l + l') (h + h') (to_z w (of_z w (X +ℤ Y))) (x +ℤ y)
  is_add t u = record { same = to_z-of_z (ask_add t u) ∙ rw (p.same, q.same); lies = within_add p.lies q.lies }

  pub is_sub : T (leb (l + h') (2 ^ hbits w)) → T (ltb (h + l') (2 ^ hbits w)) → Is w (l + h') (h + l') (to_z w (of_z w (X -ℤ Y))) (x -ℤ y)
  is_sub t u = record { same = to_z-of_z (ask_sub t u) ∙ rw (p.same, q.same); lies = within_sub p.lies q.lies }

module _ {w : Width} {l h : ℕ} {X x : ℤ} (k : ℕ) (p : Is w l h X x) where
  pub ask_mul : T (leb (l * k) (2 ^ hbits w)) → T (ltb (h * k) (2 ^ hbits w)) → SFits w (X *ℤ pos k)
  ask_mul t u = rw p.same (fits (within_mul k p.lies) t u)

  pub is_mul : T (leb (l * k) (2 ^ hbits w)) → T (ltb (h * k) (2 ^ hbits w)) → Is w (l * k) (h * k) (to_z w (of_z w (X *ℤ pos k))) (x *ℤ pos k)
  is_mul t u = record { same = to_z-of_z (ask_mul t u) ∙ rw p.same; lies = within_mul k p.lies }

  pub ask_quot : T (leb l (2 ^ hbits w)) → T (ltb h (2 ^ hbits w)) → SFits w (quot_z X (pos k))
  ask_quot t u = rw p.same (fits (within_quot k p.lies) t u)

  pub is_quot : T (leb l (2 ^ hbits w)) → T (ltb h (2 ^ hbits w)) → Is w l h (to_z w (of_z w (quot_z X (pos k)))) (quot_z x (pos k))
  is_quot t u = record { same = rw p.same (to_z-of_z (fits (within_quot k p.lies) t u)); lies = within_quot k p.lies }

  pub is_shr : T (leb l (2 ^ hbits w)) → T (ltb h (2 ^ hbits w)) → Is w l h (to_z w (of_z w (shr_z X k))) (shr_z x k)
  is_shr t u = record { same = rw p.same (to_z-of_z (fits (within_shr k p.lies) t u)); lies = within_shr k p.lies }

-- a cast to another signed width
module _ {w : Width} {l h : ℕ} {X x : ℤ} (w' : Width) (p : Is w l h X x) where
  pub ask_cast : T (leb l (2 ^ hbits w')) → T (ltb h (2 ^ hbits w')) → SFits w' X
  ask_cast t u = rw p.same (fits p.lies t u)

  pub is_cast : T (leb l (2 ^ hbits w')) → T (ltb h (2 ^ hbits w')) → Is w' l h (to_z w' (of_z w' X)) x
  is_cast t u = record { same = to_z-of_z (ask_cast t u) ∙ p.same; lies = p.lies }

-- a cast to an unsigned width, of a number that is not negative
pub ask_unsigned : {w : Width} {h : ℕ} {X x : ℤ} (w' : Width) → Is w 0 h X x → T (ltb h (2 ^ bits w')) → T (non_neg X) × Fits w' (nat_abs X)
ask_unsigned {h = h} {X = X} {x = x} w' p t =
    let low = p.lies.low in
    let high = p.lies.high in
    rw p.same (nonneg_of x (omega arith), record { fits = omega (arith, abs_is x, ltb→lt h (2 ^ bits w') t) })

-- a number of 32 bits, and the same cast to 64
pub word : {x : ℤ} → SFits w32 x → Is w32 2147483648 2147483647 (to_z w32 (of_z w32 x)) x
word f = is_arg f (within_32 f)

pub widened : {x : ℤ} → SFits w32 x → Is w64 2147483648 2147483648 (to_z w64 (of_z w64 (to_z w32 (of_z w32 x)))) x
widened f = let p = is_cast w64 (word f) tt tt in record { same = p.same; lies = within_more p.lies tt tt }

-- the product of two, each in an interval about zero
module _ {w : Width} {b d : ℕ} {X x Y y : ℤ} (p : Is w b b X x) (q : Is w d d Y y) where
  pub ask_times : T (leb (b * d) (2 ^ hbits w)) → T (ltb (b * d) (2 ^ hbits w)) → SFits w (X *ℤ Y)
  ask_times t u = rw (p.same, q.same) (fits (within_times p.lies q.lies) t u)

  pub is_times : T (leb (b * d) (2 ^ hbits w)) → T (ltb (b * d) (2 ^ hbits w)) → Is w (b * d) (b * d) (to_z w (of_z w (X *ℤ Y))) (x *ℤ y)
  is_times t u = record { same = to_z-of_z (ask_times t u) ∙ rw (p.same, q.same); lies = within_times p.lies q.lies }
