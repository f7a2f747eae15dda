-- Absolute values of integers: how they bound a sum and a difference, their parity, and their squares. Assumes nothing.
use Rattle.std.specs.Prelude.{◌≡◌, refl, ℕ, zero, suc, ◌+◌, ◌-◌, ◌*◌, ◌%◌, ◌≤◌, ◌<◌, ℤ, pos, negsuc, ◌+ℤ◌, ◌-ℤ◌, neg_ℤ, nat_abs}
use Rattle.std.proofs.Common.{⊎_elim, arith}
use Rattle.whole.specs.Signed.{P, N, add_is, diff_is, abs_is, lt_or_ge}
use Rattle.whole.specs.Interval.{Within}
use Rattle.distance.specs.Distance.{sum, sum_z, gap}

abs_parts : (z : ℤ) → nat_abs z ≡ P z + N z
abs_parts (pos n) = omega arith
abs_parts (negsuc n) = omega arith

pub abs_small : {n : ℕ} {z : ℤ} → Within n n z → nat_abs z ≤ n
abs_small {z = pos m} p = omega arith
abs_small {z = negsuc m} p = omega arith

pub abs_neg : (x : ℤ) → nat_abs (neg_ℤ x) ≡ nat_abs x
abs_neg (pos zero) = refl
abs_neg (pos (suc n)) = refl
abs_neg (negsuc n) = refl

-- ---- samples
pub abs_apart : (a b : ℕ) → nat_abs (pos a -ℤ pos b) ≡ gap a b
abs_apart a b = omega (arith, abs_is (pos a -ℤ pos b), diff_is (pos a) (pos b))

pub byte_less : (a b : ℕ) → a < 256 → b < 256 → Within 255 255 (pos a -ℤ pos b)
byte_less a b l m = omega (arith, diff_is (pos a) (pos b))

-- ---- a sum's absolute value is at most the sum of the absolute values, and odd where that is
pub abs_add : (x y : ℤ) → nat_abs (x +ℤ y) ≤ nat_abs x + nat_abs y
abs_add x y = omega (arith, add_is x y, abs_is (x +ℤ y), abs_parts x, abs_parts y)

odd_add : (x y : ℤ) → nat_abs (x +ℤ y) % 2 ≡ (nat_abs x + nat_abs y) % 2
odd_add x y = omega (arith, add_is x y, abs_parts x, abs_parts y, abs_parts (x +ℤ y))

pub abs_sum : (n : ℕ) (f : ℕ → ℤ) → nat_abs (sum_z n f) ≤ sum n (λ i. nat_abs (f i))
unfolding sum sum_z
abs_sum zero f = omega arith
abs_sum (suc n) f = omega (arith, abs_sum n f, abs_add (sum_z n f) (f n))

pub odd_sum : (n : ℕ) (f : ℕ → ℤ) → nat_abs (sum_z n f) % 2 ≡ sum n (λ i. nat_abs (f i)) % 2
unfolding sum sum_z
odd_sum zero f = refl
odd_sum (suc n) f = omega (arith, odd_sum n f, odd_add (sum_z n f) (f n))

-- ---- a sum and a difference together: one of them is as large as both absolute values, the other as far as these lie apart
pub record Corner (a b s g : ℕ) : Type 0 where
  pub long : s ≡ a + b
  pub short : g ≡ gap a b

pub corner : (x y : ℤ) (R : ℕ → ℕ → Type 0) → ((s g : ℕ) → Corner (nat_abs x) (nat_abs y) s g → R s g) → ((s g : ℕ) → Corner (nat_abs x) (nat_abs y) s g → R g s) →
    R (nat_abs (x +ℤ y)) (nat_abs (x -ℤ y))
corner x y R f g = go x y f g
  where
    split : (x y : ℤ) → nat_abs (x +ℤ y) ≡ (P x + P y - (N x + N y)) + (N x + N y - (P x + P y))
    split x y = omega (arith, abs_is (x +ℤ y), add_is x y)

    less : (x y : ℤ) → nat_abs (x -ℤ y) ≡ (P x + N y - (N x + P y)) + (N x + P y - (P x + N y))
    less x y = omega (arith, abs_is (x -ℤ y), diff_is x y)

    go : (x y : ℤ) → ((s g : ℕ) → Corner (nat_abs x) (nat_abs y) s g → R s g) → ((s g : ℕ) → Corner (nat_abs x) (nat_abs y) s g → R g s) →
        R (nat_abs (x +ℤ y)) (nat_abs (x -ℤ y))
    go (pos a) (pos b) f g = f _ _ (record { long = omega (arith, split (pos a) (pos b)); short = omega (arith, less (pos a) (pos b)) })
    go (pos a) (negsuc b) f g = g _ _ (record { long = omega (arith, less (pos a) (negsuc b)); short = omega (arith, split (pos a) (negsuc b)) })
    go (negsuc a) (pos b) f g = g _ _ (record { long = omega (arith, less (negsuc a) (pos b)); short = omega (arith, split (negsuc a) (pos b)) })
    go (negsuc a) (negsuc b) f g = f _ _ (record { long = omega (arith, split (negsuc a) (negsuc b)); short = omega (arith, less (negsuc a) (negsuc b)) })

-- so the two lose nothing
pub abs_back : (x y : ℤ) → nat_abs x + nat_abs y ≤ nat_abs (x +ℤ y) + nat_abs (x -ℤ y)
abs_back x y = corner x y (λ s g. nat_abs x + nat_abs y ≤ s + g) (λ s g c. omega arith) (λ s g c. omega arith)

-- and the squares of the two are twice the squares of x and y
abbrev pub square : ℕ → ℕ
square n = n * n

squares : {a b s g : ℕ} → Corner a b s g → square s + square g ≡ 2 * square a + 2 * square b
squares {a} {b} {s} {g} c = ⊎_elim (λ l. more a (omega arith) (omega arith)) (λ l. fewer b (omega arith) (omega arith)) (lt_or_ge a b)
  where
    more : (n : ℕ) → b ≡ n + g → s ≡ n + (n + g) → square s + square g ≡ 2 * square n + 2 * square b
    more n e f = rw (e, f) (omega arith)

    fewer : (n : ℕ) → a ≡ n + g → s ≡ n + (n + g) → square s + square g ≡ 2 * square a + 2 * square n
    fewer n e f = rw (e, f) (omega arith)

pub square_back : (x y : ℤ) → square (nat_abs (x +ℤ y)) + square (nat_abs (x -ℤ y)) ≡ 2 * square (nat_abs x) + 2 * square (nat_abs y)
square_back x y =
    corner x y (λ s g. square s + square g ≡ 2 * square (nat_abs x) + 2 * square (nat_abs y))
    (λ s g c. squares c)
    (λ s g c. omega (arith, squares c))
