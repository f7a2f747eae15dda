-- Words read one behind the other: how many there are, and which word stands where. Assumes nothing.
use Rattle.std.specs.Prelude.{◌≡◌, ℤ, pos, drop}
use Rattle.std.proofs.Math.Path.{refl, ap}
use Rattle.std.proofs.Common.{◌∙◌, SFits}
use mathlib.Core.List.{List, [], ◌∷◌, ◌++◌, append-nil}
use Rattle.std.proofs.Math.Logic.{⊎_elim}
use Prim.Native.Nat.{ℕ, zero, suc, ◌+◌, ◌-◌, ◌*◌, ◌<◌}
use Rattle.std.proofs.Math.Numerals.{add-one}
use native.Mathlib.Omega.{arith}
use Rattle.std.proofs.Math.ListN.{length, get_or, set, length-append, get_or-append}
use Rattle.std.proofs.Math.Seq.{drop-length, get_or-append-add}
use Rattle.std.specs.Int.{w32}
use Rattle.whole.specs.Lists.{set_next}
use Rattle.whole.specs.Signed.{lt_or_ge}
use Rattle.little_endian.specs.Bytes.{word_at, words_upto}
use Rattle.little_endian.specs.Undone.{word_fits}

module _ (bytes : List ℕ) where
  pub words_long : (n : ℕ) → length (words_upto bytes n) ≡ n
  unfolding words_upto
  words_long zero = refl
  words_long (suc n) = length-append (words_upto bytes n) (word_at bytes (4 * n) ∷ []) ∙ omega (arith, words_long n)

  pub words_none : (old : List ℤ) → old ≡ words_upto bytes 0 ++ drop 0 old
  unfolding words_upto
  words_none old = refl

  -- one word more, in front of what was there
  pub words_next : (i : ℕ) (old : List ℤ) {filled : List ℤ} → i < length old → filled ≡ words_upto bytes i ++ drop i old →
      set filled i (word_at bytes (4 * i)) ≡ words_upto bytes (i + 1) ++ drop (i + 1) old
  unfolding words_upto
  words_next i old l e =
      ap (λ (m : List ℤ). set m i (word_at bytes (4 * i))) e
      ∙ set_next (pos 0) (words_upto bytes i) old i (word_at bytes (4 * i)) (words_long i) l
      ∙ rw add-one refl

  -- filled to its end, nothing is left of what was there
  pub words_all : (old : List ℤ) → words_upto bytes (length old) ++ drop (length old) old ≡ words_upto bytes (length old)
  words_all old = ap (λ (m : List ℤ). words_upto bytes (length old) ++ m) (drop-length old) ∙ append-nil (words_upto bytes (length old))

  -- every word is one of 32 bits, and so is what stands for a word behind the last
  word_or_none : (n k : ℕ) → SFits w32 (get_or (word_at bytes (4 * n) ∷ []) k (pos 0))
  word_or_none n zero = word_fits bytes (4 * n)
  word_or_none n (suc k) = record { sfits = omega arith }

  pub words_fit : (n k : ℕ) → SFits w32 (get_or (words_upto bytes n) k (pos 0))
  unfolding words_upto
  words_fit zero k = record { sfits = omega arith }
  words_fit (suc n) k =
      let front = words_upto bytes n in
      let last = word_at bytes (4 * n) ∷ [] in
      ⊎_elim
      (λ l. rw (get_or-append front last (pos 0) k (omega (arith, words_long n))) (words_fit n k))
      (λ l.
      let e : k ≡ length front + (k - n) = omega (arith, words_long n) in
      rw (ap (λ (m : ℕ). get_or (front ++ last) m (pos 0)) e ∙ get_or-append-add front last (k - n) (pos 0)) (word_or_none n (k - n)))
      (lt_or_ge k n)
