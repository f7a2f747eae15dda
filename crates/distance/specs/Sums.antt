-- Laws of finite sums, of natural numbers and of integers: terms compared one by one, sums added, exchanged, and taken by fours. Assumes nothing.
use Rattle.std.specs.Prelude.{◌≡◌, refl, ℕ, zero, suc, ◌+◌, ◌*◌, ◌%◌, ◌≤◌, ◌<◌, ℤ, pos, ◌+ℤ◌}
use Rattle.std.proofs.Common.{ap, sym, ◌∙◌, ⊎_elim, le_refl, arith}
use Rattle.whole.specs.Signed.{signed, add_is, lt_or_ge}
use Rattle.distance.specs.Distance.{sum, sum_z}

pub sum_zero : (f : ℕ → ℕ) → sum 0 f ≡ 0
unfolding sum
sum_zero f = refl

pub sum_suc : (n : ℕ) (f : ℕ → ℕ) → sum (suc n) f ≡ sum n f + f n
unfolding sum
sum_suc n f = refl

-- the same as a loop has it
pub sum_next : (n : ℕ) (f : ℕ → ℕ) → sum (n + 1) f ≡ sum n f + f n
sum_next n f = ap (λ (k : ℕ). sum k f) (omega arith) ∙ sum_suc n f

-- the first term apart
pub sum_front : (n : ℕ) (f : ℕ → ℕ) → sum (suc n) f ≡ f 0 + sum n (λ i. f (suc i))
unfolding sum
sum_front zero f = omega arith
sum_front (suc n) f = omega (arith, sum_front n f)

-- ---- term by term
pub sum_le : (n : ℕ) {f g : ℕ → ℕ} → ((i : ℕ) → i < n → f i ≤ g i) → sum n f ≤ sum n g
unfolding sum
sum_le zero h = le_refl 0
sum_le (suc n) h = let t = sum_le n (λ i l. h i (omega arith)) in omega (arith, h n (omega arith))

pub sum_eq : (n : ℕ) {f g : ℕ → ℕ} → ((i : ℕ) → i < n → f i ≡ g i) → sum n f ≡ sum n g
unfolding sum
sum_eq zero h = refl
sum_eq (suc n) h = let t = sum_eq n (λ i l. h i (omega arith)) in omega (arith, h n (omega arith))

pub sum_parity : (n : ℕ) (f g : ℕ → ℕ) → ((i : ℕ) → f i % 2 ≡ g i % 2) → sum n f % 2 ≡ sum n g % 2
unfolding sum
sum_parity zero f g h = refl
sum_parity (suc n) f g h = let t = sum_parity n f g h in omega (arith, h n)

-- terms that are at most k
pub sum_below : (n k : ℕ) {f : ℕ → ℕ} → ((i : ℕ) → i < n → f i ≤ k) → sum n f ≤ k * n
unfolding sum
sum_below zero k h = omega arith
sum_below (suc n) k h = let t = sum_below n k (λ i l. h i (omega arith)) in omega (arith, h n (omega arith))

pub sum_none : (n : ℕ) {f : ℕ → ℕ} → ((i : ℕ) → i < n → f i ≡ 0) → sum n f ≡ 0
sum_none n {f} h = let t : sum n f ≤ 0 * n = sum_below n 0 (λ i l. omega (arith, h i l)) in omega arith

pub sum_even : (n : ℕ) (f : ℕ → ℕ) → ((i : ℕ) → f i % 2 ≡ 0) → sum n f % 2 ≡ 0
sum_even n f h = sum_parity n f (λ i. 0) h ∙ ap (λ (k : ℕ). k % 2) (sum_none n (λ i l. refl))

-- a term is at most the sum
last : (s n i : ℕ) (f : ℕ → ℕ) → i ≡ n → f i ≤ s + f n
last s n i f e = rw e (omega arith)

pub sum_part : (n : ℕ) (f : ℕ → ℕ) (i : ℕ) → i < n → f i ≤ sum n f
unfolding sum
sum_part zero f i l = absurd (omega arith)
sum_part (suc n) f i l =
    ⊎_elim (λ m. omega (arith, sum_part n f i m)) (λ m. last (sum n f) n i f (omega arith)) (lt_or_ge i n)

-- ---- sums of sums
pub sum_add : (n : ℕ) (f g : ℕ → ℕ) → sum n (λ i. f i + g i) ≡ sum n f + sum n g
unfolding sum
sum_add zero f g = refl
sum_add (suc n) f g = omega (arith, sum_add n f g)

pub sum_times : (n k : ℕ) (f : ℕ → ℕ) → sum n (λ i. k * f i) ≡ k * sum n f
unfolding sum
sum_times zero k f = omega arith
sum_times (suc n) k f = omega (arith, sum_times n k f)

pub sum_swap : (m n : ℕ) (f : ℕ → ℕ → ℕ) → sum m (λ i. sum n (λ j. f i j)) ≡ sum n (λ j. sum m (λ i. f i j))
sum_swap zero n f = sum_zero _ ∙ sym (sum_none n (λ j l. sum_zero (λ i. f i j)))
sum_swap (suc m) n f =
    sum_suc m (λ i. sum n (λ j. f i j))
    ∙ ap (λ (k : ℕ). k + sum n (λ j. f m j)) (sum_swap m n f)
    ∙ sym (sum_add n (λ j. sum m (λ i. f i j)) (λ j. f m j))
    ∙ sum_eq n (λ j l. sym (sum_suc m (λ i. f i j)))

-- by fours
step : (m k : ℕ) (f : ℕ → ℕ) → k ≡ m + 1 → sum k f ≡ sum m f + f m
step m k f e = rw e (sum_next m f)

pub sum_four : (n : ℕ) (f : ℕ → ℕ) → sum (4 * n) f ≡ sum n (λ i. sum 4 (λ k. f (4 * i + k)))
unfolding sum
sum_four zero f = refl
sum_four (suc n) f =
    let none : 4 * n + 0 ≡ 4 * n = omega arith in
    let e0 = ap f none in
    let e1 = step (4 * n) (4 * n + 1) f (omega arith) in
    let e2 = step (4 * n + 1) (4 * n + 2) f (omega arith) in
    let e3 = step (4 * n + 2) (4 * n + 3) f (omega arith) in
    let e4 = step (4 * n + 3) (4 * suc n) f (omega arith) in
    omega (arith, sum_four n f)

-- ---- integers
pub sum_z_eq : (n : ℕ) {f g : ℕ → ℤ} → ((i : ℕ) → i < n → f i ≡ g i) → sum_z n f ≡ sum_z n g
unfolding sum_z
sum_z_eq zero h = refl
sum_z_eq (suc n) h = let t = sum_z_eq n (λ i l. h i (omega arith)) in let e = h n (omega arith) in cc

pub swap_add : (a b c d : ℤ) → (a +ℤ b) +ℤ (c +ℤ d) ≡ (a +ℤ c) +ℤ (b +ℤ d)
swap_add a b c d =
    omega (signed, add_is (a +ℤ b) (c +ℤ d), add_is (a +ℤ c) (b +ℤ d), add_is a b, add_is c d, add_is a c, add_is b d)

pub sum_z_add : (n : ℕ) (f g : ℕ → ℤ) → sum_z n (λ i. f i +ℤ g i) ≡ sum_z n f +ℤ sum_z n g
unfolding sum_z
sum_z_add zero f g = refl
sum_z_add (suc n) f g = ap (λ (z : ℤ). z +ℤ (f n +ℤ g n)) (sum_z_add n f g) ∙ swap_add (sum_z n f) (sum_z n g) (f n) (g n)

none : (n : ℕ) → pos 0 ≡ sum_z n (λ j. pos 0)
unfolding sum_z
none zero = refl
none (suc n) = rw (← none n)

pub sum_z_swap : (m n : ℕ) (f : ℕ → ℕ → ℤ) → sum_z m (λ i. sum_z n (λ j. f i j)) ≡ sum_z n (λ j. sum_z m (λ i. f i j))
unfolding sum_z
sum_z_swap zero n f = none n
sum_z_swap (suc m) n f =
    ap (λ (z : ℤ). z +ℤ sum_z n (λ j. f m j)) (sum_z_swap m n f) ∙ sym (sum_z_add n (λ j. sum_z m (λ i. f i j)) (λ j. f m j))
