-- What Word says of each case of an entry's answer. Assumes nothing.
use Rattle.std.specs.Prelude.{◌≡◌, List, ◌++◌, ℕ, ◌≤◌, ◌<◌, ℤ, length, drop, None, Option, Some}
use Rattle.std.proofs.Common.{ap, ◌∙◌, lt-ltb, le-ltb}
use Rattle.little_endian.specs.Bytes.{bytes_of}
use Rattle.answer_bytes.specs.Word.{word_number, word_bytes}

-- a number and lent bytes that are the answer's
pub record Given (refused : ℕ) (answer : Option ℤ) (out : List ℕ) (number : ℕ) (after : List ℕ) : Type 0 where
  pub number_is : number ≡ word_number refused answer (length out)
  pub bytes_are : after ≡ word_bytes answer out

module _ (refused : ℕ) {answer : Option ℤ} (out : List ℕ) where
  pub given_refused : answer ≡ None → Given refused answer out refused out
  given_refused e = record { number_is = rw e; bytes_are = rw e }

  pub given_5 : {word : ℤ} → answer ≡ Some word → length out < 4 → Given refused answer out 5 out
  given_5 e short = let t = lt-ltb (length out) 4 short in record { number_is = rw e (rw t); bytes_are = rw e (rw t) }

  pub given_0 : {word : ℤ} → answer ≡ Some word → 4 ≤ length out → Given refused answer out 0 (bytes_of word ++ drop 4 out)
  given_0 e room = let t = le-ltb (length out) 4 room in record { number_is = rw e (rw t); bytes_are = rw e (rw t) }

  -- what is given of one answer is given of any that is equal to it
  pub given_as : {other : Option ℤ} {number : ℕ} {after : List ℕ} → (number ≡ word_number refused answer (length out)) × (after ≡ word_bytes answer out) →
      answer ≡ other →
      (number ≡ word_number refused other (length out)) × (after ≡ word_bytes other out)
  given_as {other} g e = (g.0 ∙ ap (λ (a : Option ℤ). word_number refused a (length out)) e, g.1 ∙ ap (λ (a : Option ℤ). word_bytes a out) e)
