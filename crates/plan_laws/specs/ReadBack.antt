-- What planning writes is what evaluating reads: of a plan whose records all fit, the i-th record read is the i-th that was planned. Assumes nothing.
use Rattle.std.specs.Prelude.{◌≡◌, true, ℤ, pos, get_or, length}
use Rattle.std.proofs.Common.{sym, ◌∙◌, get_or-append-add}
use Rattle.std.proofs.Math.Path.{ap, subst}
use mathlib.Core.List.{List, ◌++◌, append_assoc}
use Rattle.std.proofs.Math.Logic.{⊎_elim}
use Prim.Native.Nat.{ℕ, zero, suc, ◌+◌, ◌*◌, ◌<◌}
use native.Mathlib.Omega.{arith}
use Rattle.limits.specs.Sizes.{words_per_record}
use Rattle.whole.specs.Signed.{lt_or_ge}
use Rattle.whole.specs.Truth.{left_of, right_of}
use Rattle.records.specs.declared.Record.{Record}
use Rattle.records.specs.declared.Words.{Words}
use Rattle.records.specs.Packing.{record_fits, record_words}
use Rattle.records.specs.Unpacking.{record_of}
use Rattle.records.specs.Alike.{alike_words}
use Rattle.records.specs.RoundTrip.{back}
use Rattle.record_slice.specs.RecordSlice.{words_from, record_at}
use Rattle.block.specs.declared.Settings.{Settings}
use Rattle.block.specs.Steps.{step_of}
use Rattle.passes.specs.Fold.{word_list, block_at, turn_at, slots_at, turn_of, all_fit, words_upto}
use Rattle.passes.specs.FoldLaws.{words_long}

-- ---- 12 words that stand behind others are read as they were written
module _ (front : List ℤ) (w : Words) (tail : List ℤ) (n : ℕ) (long : length front ≡ n) where
  at : (k : ℕ) → get_or (front ++ word_list w ++ tail) (n + k) (pos 0) ≡ get_or (word_list w ++ tail) k (pos 0)
  at k =
      ap (λ (l : List ℤ). get_or l (n + k) (pos 0)) (append_assoc front (word_list w) tail)
      ∙ ap (λ (m : ℕ). get_or (front ++ (word_list w ++ tail)) (m + k) (pos 0)) (sym long)
      ∙ get_or-append-add front (word_list w ++ tail) k (pos 0)

  at_0 : get_or (front ++ word_list w ++ tail) n (pos 0) ≡ w.full
  at_0 = let e : n ≡ n + 0 = omega arith in ap (λ (m : ℕ). get_or (front ++ word_list w ++ tail) m (pos 0)) e ∙ at 0

  pub words_read : words_from (front ++ word_list w ++ tail) n ≡ w
  unfolding words_from
  words_read = alike_words at_0 (at 1) (at 2) (at 3) (at 4) (at 5) (at 6) (at 7) (at 8) (at 9) (at 10) (at 11)

-- ---- the plan: block i's record is read at place i
module _ (s : Settings) (order vectors : List ℤ) where
  abbrev pub planned : ℕ → Record
  planned i = (step_of s (block_at s.grid order vectors i) (slots_at s order vectors i)).made

  last_read : (i : ℕ) (tail : List ℤ) → record_fits (planned i) ≡ true →
      record_at (words_upto s order vectors i ++ word_list (turn_of s order vectors i).words ++ tail) i ≡ planned i
  unfolding record_at turn_at
  last_read i tail fits =
      ap record_of (words_read (words_upto s order vectors i) (record_words (planned i)) tail (words_per_record * i) (words_long s order vectors i))
      ∙ back (planned i) fits

  pub record_read : (n i : ℕ) (tail : List ℤ) → i < n → all_fit s order vectors n ≡ true → record_at (words_upto s order vectors n ++ tail) i ≡ planned i
  unfolding words_upto all_fit turn_at
  record_read zero i tail l e = absurd (omega arith)
  record_read (suc n) i tail l e =
      let words = word_list (turn_of s order vectors n).words in
      let before = left_of (all_fit s order vectors n) (turn_of s order vectors n).fits e in
      let last = right_of (all_fit s order vectors n) (turn_of s order vectors n).fits e in
      ⊎_elim
      (λ h. ap (λ (k : List ℤ). record_at k i) (append_assoc (words_upto s order vectors n) words tail) ∙ record_read n i (words ++ tail) h before)
      (λ h. let same : n ≡ i = omega arith in subst (λ (k : ℕ). record_at (words_upto s order vectors n ++ words ++ tail) k ≡ planned k) same
      (last_read n tail last))
      (lt_or_ge i n)
