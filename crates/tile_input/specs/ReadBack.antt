-- What is written in decimal is read back as it was, and words with blanks behind them are read one after the other. Assumes nothing.
use Rattle.std.specs.Prelude.{◌≡◌, refl, Bool, true, false, cond, not, ◌&&◌, List, [], ◌∷◌, ◌++◌, ℕ, zero, suc, ◌/◌, ◌%◌, ◌≤◌, ◌<◌, leb, length}
use Rattle.std.specs.Prelude.{ℤ, pos, negsuc, Ok}
use Rattle.std.proofs.Common.{◌∙◌, append_assoc, append-nil, ⊎_elim, arith, leb-true, le-leb, ne_eqb, lt-ltb}
use Rattle.whole.specs.Signed.{lt_or_ge}
use Rattle.whole.specs.Truth.{left_of, right_of}
use Rattle.whole.specs.Interval.{Within}
use Rattle.report_text.specs.Text.{digit, digits, decimal}
use Rattle.report_text.specs.Digits.{read_on, tenth, digits_small, digits_more, digits_read}
use Rattle.tile_input.specs.Given.{unlike}
use Rattle.tile_input.specs.Input.{is_blank, is_digit, all_digits, signed_by, numeral, number_of, ended, words_from}

-- ---- numbers
-- one digit, or more
abbrev is_numeral : List ℕ → Bool
is_numeral [] = false
is_numeral (c ∷ w) = all_digits (c ∷ w)

digit_is : (n : ℕ) → n < 10 → is_digit (digit n) ≡ true
digit_is n h = rw (le-leb 48 (digit n) (omega arith), le-leb (digit n) 57 (omega arith))

last_is : (n : ℕ) → is_digit (digit (n % 10)) ≡ true
last_is n = digit_is (n % 10) (omega arith)

digits_and_one : (w : List ℕ) (d : ℕ) → all_digits w ≡ true → is_digit d ≡ true → all_digits (w ++ (d ∷ [])) ≡ true
digits_and_one [] d e f = rw f
digits_and_one (c ∷ w) d e f = go (is_digit c) (λ g. digits_and_one w d g f) e
  where
    go : (t : Bool) → (all_digits w ≡ true → all_digits (w ++ (d ∷ [])) ≡ true) → (t && all_digits w) ≡ true → (t && all_digits (w ++ (d ∷ []))) ≡ true
    go true on e = on e
    go false on e = e

numeral_and_one : (w : List ℕ) (d : ℕ) → is_numeral w ≡ true → is_digit d ≡ true → is_numeral (w ++ (d ∷ [])) ≡ true
numeral_and_one [] d e f = rw f
numeral_and_one (c ∷ w) d e f = digits_and_one (c ∷ w) d e f

numeral_by : (k n : ℕ) → n ≤ k → is_numeral (digits n) ≡ true
numeral_by zero n h = rw (digits_small n (omega arith), digit_is n (omega arith))
numeral_by (suc k) n h =
    ⊎_elim
    (λ s. rw (digits_small n s, digit_is n s))
    (λ s. rw (digits_more n s) (numeral_and_one (digits (n / 10)) (digit (n % 10)) (numeral_by k (n / 10) (omega (arith, tenth n s))) (last_is n)))
    (lt_or_ge n 10)

digits_numeral : (n : ℕ) → is_numeral (digits n) ≡ true
digits_numeral n = numeral_by n n (omega arith)

numeral_told : (negative : Bool) (w : List ℕ) (n : ℕ) → is_numeral w ≡ true → read_on 0 w ≡ n → n < 256 → numeral negative w ≡ Ok (signed_by negative n)
numeral_told negative [] n e f h = unlike (cc)
numeral_told negative (c ∷ w) n e f h = rw (e, f, lt-ltb n 256 h)

-- a digit is no minus
unsigned_told : (w : List ℕ) → is_numeral w ≡ true → number_of w ≡ numeral false w
unsigned_told [] e = unlike (cc)
unsigned_told (c ∷ w) e =
    let least = leb-true 48 c (left_of (leb 48 c) (leb c 57) (left_of (is_digit c) (all_digits w) e)) in
    rw (ne_eqb c 45 (λ f. omega arith))

pub decimal_read : (z : ℤ) → Within 255 255 z → number_of (decimal z) ≡ Ok z
unfolding decimal
decimal_read (pos n) h =
    let e = digits_numeral n in
    unsigned_told (digits n) e ∙ numeral_told false (digits n) n e (digits_read n) (omega (arith, h.high))
decimal_read (negsuc n) h = numeral_told true (digits (suc n)) (suc n) (digits_numeral (suc n)) (digits_read (suc n)) (omega (arith, h.low))

-- ---- words
abbrev pub no_blank : List ℕ → Bool
no_blank [] = true
no_blank (c ∷ w) = not (is_blank c) && no_blank w

-- the bytes of a word up to a blank, behind those that are begun
word_on : (begun w : List ℕ) (c : ℕ) (rest : List ℕ) → no_blank w ≡ true → is_blank c ≡ true →
    words_from begun (w ++ (c ∷ rest)) ≡ ended (begun ++ w) (words_from [] rest)
word_on begun [] c rest e b = rw (b, append-nil)
word_on begun (d ∷ w) c rest e b = go (is_blank d) e (λ f. word_on (begun ++ (d ∷ [])) w c rest f b)
  where
    go : (t : Bool) → (not t && no_blank w) ≡ true →
        (no_blank w ≡ true → words_from (begun ++ (d ∷ [])) (w ++ (c ∷ rest)) ≡ ended (begun ++ (d ∷ []) ++ w) (words_from [] rest)) →
        cond t (ended begun (words_from [] (w ++ (c ∷ rest)))) (words_from (begun ++ (d ∷ [])) (w ++ (c ∷ rest)))
        ≡ ended (begun ++ (d ∷ w)) (words_from [] rest)
    go true e on = unlike (cc)
    go false e on = rw (← append_assoc begun (d ∷ []) w) (on e)

pub word_read : (w : List ℕ) (c : ℕ) (rest : List ℕ) → no_blank w ≡ true → 0 < length w → is_blank c ≡ true →
    words_from [] (w ++ (c ∷ rest)) ≡ w ∷ words_from [] rest
word_read [] c rest e h b = absurd (omega arith)
word_read (d ∷ w) c rest e h b = word_on [] (d ∷ w) c rest e b

pub blank_skipped : (c : ℕ) (rest : List ℕ) → is_blank c ≡ true → words_from [] (c ∷ rest) ≡ words_from [] rest
blank_skipped c rest b = rw b

-- ---- a number in decimal is such a word
digit_plain : (c : ℕ) → is_digit c ≡ true → is_blank c ≡ false
digit_plain c e =
    let least = leb-true 48 c (left_of (leb 48 c) (leb c 57) e) in
    rw (ne_eqb c 32 (λ f. omega arith), ne_eqb c 9 (λ f. omega arith), ne_eqb c 10 (λ f. omega arith), ne_eqb c 13 (λ f. omega arith))

digits_plain : (w : List ℕ) → all_digits w ≡ true → no_blank w ≡ true
digits_plain [] e = refl
digits_plain (c ∷ w) e =
    rw (digit_plain c (left_of (is_digit c) (all_digits w) e)) (digits_plain w (right_of (is_digit c) (all_digits w) e))

numeral_plain : (w : List ℕ) → is_numeral w ≡ true → (no_blank w ≡ true) × (0 < length w)
numeral_plain [] e = unlike (cc)
numeral_plain (c ∷ w) e = (digits_plain (c ∷ w) e, omega arith)

pub decimal_word : (z : ℤ) → (no_blank (decimal z) ≡ true) × (0 < length (decimal z))
unfolding decimal
decimal_word (pos n) = numeral_plain (digits n) (digits_numeral n)
decimal_word (negsuc n) = ((numeral_plain (digits (suc n)) (digits_numeral (suc n))).0, omega arith)
