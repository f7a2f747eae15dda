-- Counting, over any test: one record more, no more than there are, and that two counts come to a third where each record passes the third test exactly if it
-- passes one of the two, and never both. So the records that are searched and those that are kept come to the BAD ones. Assumes nothing.
use Rattle.std.specs.Prelude.{◌≡◌, Bool, true, false, cond, List, ℤ}
use Rattle.std.proofs.Math.Path.{refl}
use Rattle.std.proofs.Common.{sym}
use Prim.Native.Nat.{ℕ, zero, suc, ◌+◌, ◌≤◌}
use Rattle.std.proofs.Math.Numerals.{add-one}
use native.Mathlib.Omega.{arith}
use Rattle.records.specs.declared.Record.{Record}
use Rattle.window.specs.Windows.{is_bad, is_searched, is_kept}
use Rattle.window.specs.Outcomes.{counts_once}
use Rattle.record_slice.specs.RecordSlice.{record_at}
use Rattle.plan_file.specs.PlanFile.{tally}

module _ (test : Record → Bool) (words : List ℤ) where
  pub none_counted : 0 ≡ tally test words 0
  unfolding tally
  none_counted = refl

  pub one_more_counted : (n : ℕ) → tally test words (n + 1) ≡ tally test words n + cond (test (record_at words n)) 1 0
  unfolding tally
  one_more_counted n = rw add-one

  one_at_most : (t : Bool) → cond t 1 0 ≤ 1
  one_at_most true = omega arith
  one_at_most false = omega arith

  pub counted_most : (n : ℕ) → tally test words n ≤ n
  unfolding tally
  counted_most zero = omega arith
  counted_most (suc n) = omega (arith, counted_most n, one_at_most (test (record_at words n)))

  -- as a loop counts: with what was found so far and the one that the next record adds
  pub record Next (n found one : ℕ) : Type 0 where
    pub counted : found + one ≡ tally test words (n + 1)
    pub few : found + one ≤ n + 1

  pub counted_next : (n : ℕ) {found one : ℕ} {given : Record} {passes : Bool} → found ≡ tally test words n →
      given ≡ record_at words n → passes ≡ test given → one ≡ cond passes 1 0 → Next n found one
  counted_next n {found} {one} so_far read asked added =
      let counted : found + one ≡ tally test words (n + 1) = rw (so_far, added, asked, read) (sym (one_more_counted n)) in
      record { counted = counted; few = omega (arith, counted, counted_most (n + 1)) }

-- ---- two tests, and a third: each record counts once in the third where it counts once in one of the two
module _ (a b all : Record → Bool) (once : (r : Record) → cond (a r) 1 0 + cond (b r) 1 0 ≡ cond (all r) 1 0) (words : List ℤ) where
  pub counted_together : (n : ℕ) → tally a words n + tally b words n ≡ tally all words n
  unfolding tally
  counted_together zero = refl
  counted_together (suc n) = omega (arith, counted_together n, once (record_at words n))

-- ---- 02, Three: the two counts add up to the BAD records
pub both_are : (words : List ℤ) (n : ℕ) → tally is_searched words n + tally is_kept words n ≡ tally is_bad words n
both_are = counted_together is_searched is_kept is_bad counts_once

pub both_most : (words : List ℤ) (n : ℕ) → tally is_searched words n + tally is_kept words n ≤ n
both_most words n = omega (arith, both_are words n, counted_most is_bad words n)
