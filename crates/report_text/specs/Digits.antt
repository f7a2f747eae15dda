-- Digits: the two cases of their definition with no bound on the tenths, how many there are, and that they read back as the number. Assumes nothing.
use Rattle.std.specs.Prelude.{◌≡◌, refl, true, false, List, [], ◌∷◌, ◌++◌, ℕ, zero, suc, ◌+◌, ◌-◌, ◌*◌, ◌/◌, ◌%◌, ◌^◌, ◌≤◌, ◌<◌, ℤ, pos, negsuc}
use Rattle.std.specs.Prelude.{nat_abs, length}
use Rattle.std.proofs.Common.{sym, ap, ◌∙◌, ⊎_elim, div-add-mod', arith, lt-ltb, le-ltb, length-append, SFits}
use Rattle.std.proofs.Math.Nat.{pow-succ'}
use Rattle.std.specs.Fmt as std
use Rattle.std.proofs.lemmas.Fmt.{decimal_by_steps}
use Rattle.std.specs.Int.Signed.{lt_z}
use Rattle.std.specs.Int.{w32}
use Rattle.whole.specs.Signed.{lt_or_ge, range, signed}
use Rattle.report_text.specs.Text.{codes, digit, digits_by, digits, decimal}

-- ---- the two cases
by_small : (k n : ℕ) → n < 10 → digits_by k n ≡ digit n ∷ []
unfolding digits_by
by_small zero n h = refl
by_small (suc k) n h = rw (lt-ltb n 10 h)

by_more : (k n : ℕ) → 10 ≤ n → digits_by (suc k) n ≡ digits_by k (n / 10) ++ (digit (n % 10) ∷ [])
unfolding digits_by
by_more k n h = rw (le-ltb n 10 h)

-- a tenth is smaller
pub tenth : (n : ℕ) → 10 ≤ n → n / 10 < n
tenth n h = omega (arith, div-add-mod' n 10)

enough : (k m n : ℕ) → n ≤ k → n ≤ m → digits_by k n ≡ digits_by m n
enough zero m n h g = by_small zero n (omega arith) ∙ sym (by_small m n (omega arith))
enough (suc k) zero n h g = by_small (suc k) n (omega arith) ∙ sym (by_small zero n (omega arith))
enough (suc k) (suc m) n h g =
    ⊎_elim
    (λ s. by_small (suc k) n s ∙ sym (by_small (suc m) n s))
    (λ s. by_more k n s
    ∙ ap (λ (l : List ℕ). l ++ (digit (n % 10) ∷ [])) (enough k m (n / 10) (omega (arith, tenth n s)) (omega (arith, tenth n s)))
    ∙ sym (by_more m n s))
    (lt_or_ge n 10)

pub digits_small : (n : ℕ) → n < 10 → digits n ≡ digit n ∷ []
unfolding digits
digits_small n h = by_small n n h

pub digits_more : (n : ℕ) → 10 ≤ n → digits n ≡ digits (n / 10) ++ (digit (n % 10) ∷ [])
unfolding digits
digits_more zero h = absurd (omega arith)
digits_more (suc p) h =
    let t = tenth (suc p) h in
    by_more p (suc p) h ∙ ap (λ (l : List ℕ). l ++ (digit (suc p % 10) ∷ [])) (enough p (suc p / 10) (suc p / 10) (omega arith) (omega arith))

-- ---- how many there are: one more digit for each power of ten
pub digits_length : (k n : ℕ) → n < 10 ^ suc k → length (digits n) ≤ suc k
digits_length zero n h = rw (digits_small n h) (omega arith)
digits_length (suc k) n h =
    ⊎_elim
    (λ s. rw (digits_small n s) (omega arith))
    (λ s. rw (digits_more n s, length-append) (let t = digits_length k (n / 10) (omega (arith, div-add-mod' n 10, pow-succ' 10 (suc k))) in omega arith))
    (lt_or_ge n 10)

-- ---- they read back as the number
abbrev pub read_on : ℕ → List ℕ → ℕ
read_on v [] = v
read_on v (d ∷ l) = read_on (v * 10 + (d - 48)) l

read_last : (v : ℕ) (l : List ℕ) (d : ℕ) → read_on v (l ++ (d ∷ [])) ≡ read_on v l * 10 + (d - 48)
read_last v [] d = refl
read_last v (e ∷ l) d = read_last (v * 10 + (e - 48)) l d

read_by : (k n : ℕ) → n ≤ k → read_on 0 (digits n) ≡ n
read_by zero n h = rw (digits_small n (omega arith)) (omega arith)
read_by (suc k) n h =
    ⊎_elim
    (λ s. rw (digits_small n s) (omega arith))
    (λ s. rw (digits_more n s, read_last 0) (omega (arith, tenth n s, div-add-mod' n 10, read_by k (n / 10) (omega (arith, tenth n s)))))
    (lt_or_ge n 10)

pub digits_read : (n : ℕ) → read_on 0 (digits n) ≡ n
digits_read n = read_by n n (omega arith)

-- ---- a number with its sign
pub decimal_below : (z : ℤ) → lt_z z (pos 0) ≡ true → decimal z ≡ codes "-" ++ digits (nat_abs z)
unfolding decimal
decimal_below (pos n) e = absurd (omega signed)
decimal_below (negsuc n) e = refl

pub decimal_above : (z : ℤ) → lt_z z (pos 0) ≡ false → decimal z ≡ digits (nat_abs z)
unfolding decimal
decimal_above (pos n) e = refl
decimal_above (negsuc n) e = absurd (omega signed)

-- ten digits hold the size of every number of 32 bits, and one byte its sign
pub decimal_length : {z : ℤ} → SFits w32 z → length (decimal z) ≤ 11
unfolding decimal
decimal_length {z = pos n} f = let m = digits_length 9 n (omega (arith, range f)) in omega arith
decimal_length {z = negsuc n} f = let m = digits_length 9 (suc n) (omega (arith, range f)) in omega arith

-- ---- the library prints the same
natural_is : (n : ℕ) → n < 2 ^ 64 → digits n ≡ std.decimal n
natural_is = decimal_by_steps (λ n text. digits n ≡ text) digits_small (λ n text h e. digits_more n h ∙ ap (λ (l : List ℕ). l ++ (digit (n % 10) ∷ [])) e)

pub decimal_is : {z : ℤ} → SFits w32 z → decimal z ≡ std.signed_decimal z
unfolding decimal
decimal_is {z = pos n} f = natural_is n (omega (arith, range f))
decimal_is {z = negsuc n} f = ap (λ (l : List ℕ). 45 ∷ l) (natural_is (suc n) (omega (arith, range f)))
