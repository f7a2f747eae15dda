-- Signed numbers for `omega`, which reads only naturals. An integer z is P z - N z, two naturals of which one is 0, so that each fact
-- of ℤ is a linear fact of ℕ. The rule set `signed`, at the end, turns a goal of ℤ into one of ℕ and reads every such fact in reach:
-- `omega signed` then closes what is linear. Assumes nothing.
use Rattle.std.specs.Prelude.{◌≡◌, refl, Bool, true, false, cond, ◌⊎◌, ℕ, zero, suc, ◌+◌, ◌-◌, ◌*◌, ◌^◌, ◌≤◌, ◌<◌, ℤ, pos, negsuc, ◌+ℤ◌, ◌-ℤ◌, ◌*ℤ◌}
use Rattle.std.specs.Prelude.{neg_ℤ, nat_abs, T, ltb, ◌≤ℤ◌, ◌<ℤ◌}
use Rattle.std.proofs.Common.{sym, ap, subst, ◌∙◌, inl, inr, arith, ltb→lt, lt→ltb, leb→le, le→leb, ltb-true, ltb-false, leb-false, to_z-of_z}
use Rattle.std.proofs.Math.IntN.{sub_ℕ}
use Rattle.std.specs.Int.Signed.{mag, lt_z, le_z, non_neg}
use Rattle.std.specs.Int.{Width}
use mir.Val.{SFits, Fits, to_z, of_z, bits, hbits}
use Rattle.whole.specs.Numbers.{lesser_of, greater_of}

-- how far z lies above zero, and how far below
abbrev pub P : ℤ → ℕ
P (pos n) = n
P (negsuc n) = 0

abbrev pub N : ℤ → ℕ
N (pos n) = 0
N (negsuc n) = suc n

-- ---- the operations
by_cases : (b : Bool) (x y : ℤ) (Q : ℤ → Type 0) → (b ≡ true → Q x) → (b ≡ false → Q y) → Q (cond b x y)
by_cases true x y Q f g = f refl
by_cases false x y Q f g = g refl

pub sub_is : (a b : ℕ) → P (sub_ℕ a b) + b ≡ a + N (sub_ℕ a b)
sub_is a b =
    by_cases (ltb a b) (negsuc (b - suc a)) (pos (a - b)) (λ z. P z + b ≡ a + N z)
    (λ e. omega (arith, ltb-true a b e))
    (λ e. omega (arith, ltb-false a b e))

pub add_is : (x y : ℤ) → P (x +ℤ y) + N x + N y ≡ P x + P y + N (x +ℤ y)
add_is (pos a) (pos b) = omega arith
add_is (pos a) (negsuc b) = omega (arith, sub_is a (suc b))
add_is (negsuc a) (pos b) = omega (arith, sub_is b (suc a))
add_is (negsuc a) (negsuc b) = omega arith

pub neg_p : (x : ℤ) → P (neg_ℤ x) ≡ N x
neg_p (pos zero) = refl
neg_p (pos (suc n)) = refl
neg_p (negsuc n) = refl

pub neg_n : (x : ℤ) → N (neg_ℤ x) ≡ P x
neg_n (pos zero) = refl
neg_n (pos (suc n)) = refl
neg_n (negsuc n) = refl

pub diff_is : (x y : ℤ) → P (x -ℤ y) + N x + P y ≡ P x + N y + N (x -ℤ y)
diff_is x y = omega (arith, add_is x (neg_ℤ y), neg_p y, neg_n y)

pub times_is : (x : ℤ) (k : ℕ) → P (x *ℤ pos k) + N x * k ≡ P x * k + N (x *ℤ pos k)
times_is (pos a) k = omega arith
times_is (negsuc a) k = omega (arith, neg_p (pos (suc a * k)), neg_n (pos (suc a * k)))

-- ---- the order, each way
pub le_is : (x y : ℤ) → x ≤ℤ y → P x + N y ≤ P y + N x
le_is (pos a) (pos b) h = omega (arith, leb→le a b h.le)
le_is (pos a) (negsuc b) h = absurd h.le
le_is (negsuc a) (pos b) h = omega arith
le_is (negsuc a) (negsuc b) h = omega (arith, leb→le b a h.le)

pub lt_is : (x y : ℤ) → x <ℤ y → P x + N y < P y + N x
lt_is (pos a) (pos b) h = omega (arith, ltb→lt a b h.lt)
lt_is (pos a) (negsuc b) h = absurd h.lt
lt_is (negsuc a) (pos b) h = omega arith
lt_is (negsuc a) (negsuc b) h = omega (arith, ltb→lt b a h.lt)

pub le_of : (x y : ℤ) → P x + N y ≤ P y + N x → x ≤ℤ y
le_of (pos a) (pos b) h = record { le = le→leb a b (omega arith) }
le_of (pos a) (negsuc b) h = absurd (omega arith)
le_of (negsuc a) (pos b) h = record { le = tt }
le_of (negsuc a) (negsuc b) h = record { le = le→leb b a (omega arith) }

pub lt_of : (x y : ℤ) → P x + N y < P y + N x → x <ℤ y
lt_of (pos a) (pos b) h = record { lt = lt→ltb a b (omega arith) }
lt_of (pos a) (negsuc b) h = absurd (omega arith)
lt_of (negsuc a) (pos b) h = record { lt = tt }
lt_of (negsuc a) (negsuc b) h = record { lt = lt→ltb b a (omega arith) }

-- ---- equality, each way
pub eq_is : (x y : ℤ) → x ≡ y → P x + N y ≡ P y + N x
eq_is x y e = omega (arith, ap P e, ap N e)

pub eq_of : (x y : ℤ) → P x + N y ≡ P y + N x → x ≡ y
eq_of (pos a) (pos b) h = ap pos (omega arith)
eq_of (pos a) (negsuc b) h = absurd (omega arith)
eq_of (negsuc a) (pos b) h = absurd (omega arith)
eq_of (negsuc a) (negsuc b) h = ap negsuc (omega arith)

-- ---- what a test's outcome says, and the outcome from what holds
pub holds : {b : Bool} → b ≡ true → T b
holds e = subst T (sym e) tt

is_true : (b : Bool) → T b → b ≡ true
is_true true t = refl
is_true false t = absurd t

is_false : (b : Bool) → (T b → ⊥) → b ≡ false
is_false true f = absurd (f tt)
is_false false f = refl

pub lt_z_true : (x y : ℤ) → lt_z x y ≡ true → P x + N y < P y + N x
lt_z_true x y e = lt_is x y (record { lt = holds e })

pub lt_z_false : (x y : ℤ) → lt_z x y ≡ false → P y + N x ≤ P x + N y
lt_z_false (pos a) (pos b) e = omega (arith, ltb-false a b e)
lt_z_false (pos a) (negsuc b) e = omega arith
lt_z_false (negsuc a) (pos b) e = absurd (subst T e tt)
lt_z_false (negsuc a) (negsuc b) e = omega (arith, ltb-false b a e)

pub le_z_true : (x y : ℤ) → le_z x y ≡ true → P x + N y ≤ P y + N x
le_z_true x y e = le_is x y (record { le = holds e })

pub le_z_false : (x y : ℤ) → le_z x y ≡ false → P y + N x < P x + N y
le_z_false (pos a) (pos b) e = omega (arith, leb-false a b e)
le_z_false (pos a) (negsuc b) e = omega arith
le_z_false (negsuc a) (pos b) e = absurd (subst T e tt)
le_z_false (negsuc a) (negsuc b) e = omega (arith, leb-false b a e)

pub lt_z_surely : (x y : ℤ) → P x + N y < P y + N x → lt_z x y ≡ true
lt_z_surely x y h = is_true (lt_z x y) (lt_of x y h).lt

pub lt_z_surely_not : (x y : ℤ) → P y + N x ≤ P x + N y → lt_z x y ≡ false
lt_z_surely_not x y h = is_false (lt_z x y) (λ t. omega (arith, lt_is x y (record { lt = t })))

pub le_z_surely : (x y : ℤ) → P x + N y ≤ P y + N x → le_z x y ≡ true
le_z_surely x y h = is_true (le_z x y) (le_of x y h).le

pub le_z_surely_not : (x y : ℤ) → P y + N x < P x + N y → le_z x y ≡ false
le_z_surely_not x y h = is_false (le_z x y) (λ t. omega (arith, le_is x y (record { le = t })))

-- one of the two orders holds
by_test : (a b : ℕ) (t : Bool) → ltb a b ≡ t → (a < b) ⊎ (b ≤ a)
by_test a b true e = inl (ltb-true a b e)
by_test a b false e = inr (ltb-false a b e)

pub lt_or_ge : (a b : ℕ) → (a < b) ⊎ (b ≤ a)
lt_or_ge a b = by_test a b (ltb a b) refl

-- ---- a width's range, each way
pub range : {w : Width} {z : ℤ} → SFits w z → (P z < 2 ^ hbits w + N z) × (N z ≤ 2 ^ hbits w + P z)
range {z = pos n} f = (omega (arith, f.sfits), omega arith)
range {z = negsuc n} f = (omega arith, omega (arith, f.sfits))

pub fit : {w : Width} {z : ℤ} → P z < 2 ^ hbits w + N z → N z ≤ 2 ^ hbits w + P z → SFits w z
fit {z = pos n} h k = record { sfits = omega arith }
fit {z = negsuc n} h k = record { sfits = omega arith }

-- u - v lies in the range of half a width's power h, as one inequality, so that a rule can turn a goal `SFits w (x +ℤ y)` and its like
abbrev pub In : ℕ → ℕ → ℕ → Type 0
In h u v = (u - v) + (v - u - 1) < h

pub fit_any : (w : Width) (z : ℤ) → In (2 ^ hbits w) (P z) (N z) → SFits w z
fit_any w z h = fit (omega arith) (omega arith)

pub fit_add : (w : Width) (x y : ℤ) → In (2 ^ hbits w) (P x + P y) (N x + N y) → SFits w (x +ℤ y)
fit_add w x y h = fit (omega (arith, add_is x y)) (omega (arith, add_is x y))

pub fit_sub : (w : Width) (x y : ℤ) → In (2 ^ hbits w) (P x + N y) (N x + P y) → SFits w (x -ℤ y)
fit_sub w x y h = fit (omega (arith, diff_is x y)) (omega (arith, diff_is x y))

pub fit_mul : (w : Width) (x : ℤ) (k : ℕ) → In (2 ^ hbits w) (P x * k) (N x * k) → SFits w (x *ℤ pos k)
fit_mul w x k h = fit (omega (arith, times_is x k)) (omega (arith, times_is x k))

-- ---- what the machine reads back: a number is kept by its bits, `of_z w z`, and read by `to_z w`
pub back_is : (w : Width) (z : ℤ) → SFits w z → P (to_z w (of_z w z)) + N z ≡ P z + N (to_z w (of_z w z))
back_is w z f = eq_is (to_z w (of_z w z)) z (to_z-of_z f)

-- a call's result, returned or stored: `got w32 c.f.ok c.f.ensures`
pub got : (w : Width) {z y : ℤ} → mag z < 2 ^ hbits w → z ≡ y → to_z w (of_z w z) ≡ y
got w p e = to_z-of_z (record { sfits = p }) ∙ e

-- a test of two numbers that fit is one of what the machine reads
pub test_of : (w : Width) {a b : ℤ} {t : Bool} → SFits w a → SFits w b → lt_z (to_z w (of_z w a)) (to_z w (of_z w b)) ≡ t → lt_z a b ≡ t
test_of w f g e = simp to_z-of_z at e

-- what each branch of such a test returns
pub picked_first : (w : Width) {x : ℤ} (y : ℤ) {t : Bool} → t ≡ true → SFits w x → to_z w (of_z w x) ≡ cond t x y
picked_first w y e f = rw e (to_z-of_z f)

pub picked_second : (w : Width) (x : ℤ) {y : ℤ} {t : Bool} → t ≡ false → SFits w y → to_z w (of_z w y) ≡ cond t x y
picked_second w x e f = rw e (to_z-of_z f)

-- what a call of the lesser or the greater of two gives, of what the machine reads
pub lesser_read : {X x Y y r : ℤ} → r ≡ lesser_of X Y → X ≡ x → Y ≡ y → r ≡ lesser_of x y
lesser_read e p q = cc

pub greater_read : {X x Y y r : ℤ} → r ≡ greater_of X Y → X ≡ x → Y ≡ y → r ≡ greater_of x y
greater_read e p q = cc

-- ---- a signed number as an unsigned one
pub nonneg_of : (z : ℤ) → N z ≤ P z → T (non_neg z)
nonneg_of (pos n) h = tt
nonneg_of (negsuc n) h = absurd (omega arith)

pub abs_is : (z : ℤ) → nat_abs z ≡ (P z - N z) + (N z - P z)
abs_is (pos n) = omega arith
abs_is (negsuc n) = omega arith

pub abs_fits : (w : Width) (z : ℤ) → (P z - N z) + (N z - P z) < 2 ^ bits w → Fits w (nat_abs z)
abs_fits w z h = record { fits = omega (arith, abs_is z) }

-- The rules. A goal of an order, an equation, a test's outcome, a range or a cast to unsigned is turned; a fact of these kinds is read.
-- `omega` takes the first rule that fits a fact, so a range goes in by hand, as `range f`.
pub ruleset signed = (
  arith,
  le_is,
  lt_is,
  le_of,
  lt_of,
  eq_is,
  eq_of,
  lt_z_true,
  lt_z_false,
  le_z_true,
  le_z_false,
  lt_z_surely,
  lt_z_surely_not,
  le_z_surely,
  le_z_surely_not,
  back_is,
  fit_sub,
  fit_add,
  fit_mul,
  fit_any,
  nonneg_of,
  abs_fits,
)
