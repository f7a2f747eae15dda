-- The number at a place, as the code finds it byte by byte, is the one that Input speaks of. Assumes nothing.
use Rattle.std.specs.Prelude.{◌≡◌, refl, Bool, true, false, cond, ◌&&◌, List, [], ◌∷◌, ◌++◌, ℕ, zero, suc, ◌+◌, ◌-◌, ◌*◌, ◌≤◌, ◌<◌, eqb, ltb, get_or}
use Rattle.std.specs.Prelude.{ℤ, Result, Err}
use Rattle.std.proofs.Common.{sym, ◌∙◌, arith, lt-ltb, le-ltb, ltb-true, ltb-false, ne_eqb}
use Rattle.report_text.specs.Digits.{read_on}
use Rattle.tile_input.specs.declared.NoNumber.{NoNumber}
use Rattle.tile_input.specs.declared.NoNumber.TheVariants as no
use Rattle.tile_input.specs.declared.Word.{Word}
use Rattle.tile_input.specs.declared.Word.TheVariants as word
use Rattle.tile_input.specs.Input.{is_blank, is_digit, all_digits, limited, numeral, number_of, ended, words_from, number_at}
use Rattle.tile_input.specs.Parts.{lengthened, grown, is_begun, told, number_from}

-- what the code holds when it has read some bytes more of a word
abbrev grown_by : Word → List ℕ → Word
grown_by s [] = s
grown_by s (c ∷ w) = grown_by (grown s c) w

abbrev word_of : List ℕ → Word
word_of w = grown_by word.Unbegun w

grown_last : (s : Word) (w : List ℕ) (c : ℕ) → grown_by s (w ++ (c ∷ [])) ≡ grown (grown_by s w) c
grown_last s [] c = refl
grown_last s (d ∷ w) c = grown_last (grown s d) w c

-- ---- what is told of it
wrong_stays : (w : List ℕ) → told (grown_by word.Wrong w) ≡ Err no.Wrong
wrong_stays [] = refl
wrong_stays (c ∷ w) = wrong_stays w

cond_same : {A : Type 0} (t : Bool) (a : A) → cond t a a ≡ a
cond_same true a = refl
cond_same false a = refl

-- a number does not shrink where digits follow
read_grows : (v : ℕ) (w : List ℕ) → v ≤ read_on v w
read_grows v [] = omega arith
read_grows v (c ∷ w) = omega (arith, read_grows (v * 10 + (c - 48)) w)

-- what digits say behind those that make v
abbrev said : Bool → ℕ → List ℕ → Result ℤ NoNumber
said negative v w = cond (all_digits w) (limited negative (read_on v w)) (Err no.Wrong)

past : (negative : Bool) (v : ℕ) (w : List ℕ) → 256 ≤ v → said negative v w ≡ Err no.Wrong
past negative v w h = rw (le-ltb (read_on v w) 256 (omega (arith, read_grows v w))) (cond_same (all_digits w) (Err no.Wrong))

one_told : (negative : Bool) (v : ℕ) (w : List ℕ) (t u : Bool) → ltb v 256 ≡ u → (v < 256 → told (grown_by (word.Digits negative v) w) ≡ said negative v w) →
    told (grown_by (cond t (cond u (word.Digits negative v) word.Wrong) word.Wrong) w)
    ≡ cond (t && all_digits w) (limited negative (read_on v w)) (Err no.Wrong)
one_told negative v w true true e rest = rest (ltb-true v 256 e)
one_told negative v w true false e rest = wrong_stays w ∙ sym (past negative v w (ltb-false v 256 e))
one_told negative v w false u e rest = wrong_stays w

digits_told : (negative : Bool) (v : ℕ) (w : List ℕ) → v < 256 → told (grown_by (word.Digits negative v) w) ≡ said negative v w
digits_told negative v [] h = rw (lt-ltb v 256 h)
digits_told negative v (c ∷ w) h =
    let next = v * 10 + (c - 48) in
    one_told negative next w (is_digit c) (ltb next 256) refl (digits_told negative next w)

first_told : (c : ℕ) (w : List ℕ) (t : Bool) → told (grown_by (cond t word.Minus (lengthened false 0 c)) w) ≡ cond t (numeral true w) (numeral false (c ∷ w))
first_told c [] true = refl
first_told c (d ∷ w) true = digits_told true 0 (d ∷ w) (omega arith)
first_told c w false = digits_told false 0 (c ∷ w) (omega arith)

word_told : (w : List ℕ) → told (word_of w) ≡ number_of w
word_told [] = refl
word_told (c ∷ w) = first_told c w (eqb c 45)

-- ---- whether one is begun
lengthened_begun : (negative : Bool) (v c : ℕ) → is_begun (lengthened negative v c) ≡ true
lengthened_begun negative v c = go (is_digit c) (ltb (v * 10 + (c - 48)) 256)
  where
    go : (t u : Bool) → is_begun (cond t (cond u (word.Digits negative (v * 10 + (c - 48))) word.Wrong) word.Wrong) ≡ true
    go true true = refl
    go true false = refl
    go false u = refl

first_begun : (c : ℕ) (t : Bool) → is_begun (cond t word.Minus (lengthened false 0 c)) ≡ true
first_begun c true = refl
first_begun c false = lengthened_begun false 0 c

grown_begun : (s : Word) (c : ℕ) → is_begun (grown s c) ≡ true
grown_begun word.Unbegun c = first_begun c (eqb c 45)
grown_begun word.Minus c = lengthened_begun true 0 c
grown_begun (word.Digits negative v) c = lengthened_begun negative v c
grown_begun word.Wrong c = refl

begun_stays : (s : Word) (w : List ℕ) → is_begun s ≡ true → is_begun (grown_by s w) ≡ true
begun_stays s [] e = e
begun_stays s (c ∷ w) e = begun_stays (grown s c) w (grown_begun s c)

word_begun : (c : ℕ) (w : List ℕ) → is_begun (word_of (c ∷ w)) ≡ true
word_begun c w = begun_stays (grown word.Unbegun c) w (grown_begun word.Unbegun c)

-- ---- the text from a word on that is begun
-- what the code does at a byte, by whether that is a blank and whether a word is begun
abbrev step : Bool → Bool → ℕ → Word → ℕ → List ℕ → Result ℤ NoNumber
step blank begun left s c text =
    cond (blank && begun) (cond (eqb left 0) (told s) (number_from (left - 1) word.Unbegun text)) (number_from left (cond blank word.Unbegun (grown s c)) text)

some_left : (k : ℕ) → eqb (suc k) 0 ≡ false
some_left k = ne_eqb (suc k) 0 (λ e. omega arith)

one_less : (k : ℕ) → suc k - 1 ≡ k
one_less k = omega arith

past_end : (k : ℕ) (w : List ℕ) → number_from k (word_of w) [] ≡ number_of (get_or (ended w []) k [])
past_end zero [] = refl
past_end (suc k) [] = rw (some_left k)
past_end zero (c ∷ w) = word_told (c ∷ w)
past_end (suc k) (c ∷ w) = rw (some_left k)

from_begun : (k : ℕ) (w text : List ℕ) → number_from k (word_of w) text ≡ number_of (get_or (words_from w text) k [])
from_begun k w [] = past_end k w
from_begun k w (c ∷ text) = go (is_blank c) k w (λ k. from_begun k [] text) (from_begun k (w ++ (c ∷ [])) text)
  where
    go : (t : Bool) (k : ℕ) (w : List ℕ) → ((k : ℕ) → number_from k word.Unbegun text ≡ number_of (get_or (words_from [] text) k [])) →
        number_from k (word_of (w ++ (c ∷ []))) text ≡ number_of (get_or (words_from (w ++ (c ∷ [])) text) k []) →
        step t (is_begun (word_of w)) k (word_of w) c text
        ≡ number_of (get_or (cond t (ended w (words_from [] text)) (words_from (w ++ (c ∷ [])) text)) k [])
    go true k [] anew on = anew k
    go true zero (d ∷ w) anew on = rw (word_begun d w) (word_told (d ∷ w))
    go true (suc k) (d ∷ w) anew on = rw (word_begun d w, some_left k, one_less k) (anew k)
    go false k w anew on = rw (← grown_last word.Unbegun w c) on

pub scanned : (text : List ℕ) (place : ℕ) → number_from place word.Unbegun text ≡ number_at text place
scanned text place = from_begun place [] text
