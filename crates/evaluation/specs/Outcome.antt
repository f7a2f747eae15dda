-- The outcome of evaluating as a whole: a refusal changes nothing lent. Assumes nothing.
use Rattle.std.specs.Prelude.{◌≡◌, List, ℕ, ◌<◌, ℤ, length, ⊤, Result, Err}
use Rattle.std.proofs.Math.Path.{sym}
use Rattle.refusals.specs.declared.Refusal.{Refusal}
use Rattle.refusals.specs.Numbers.{outcome}
use Rattle.limits.specs.Refused.{kept_refused, kept_err}
use Rattle.evaluation.specs.declared.Request.{Request}
use Rattle.evaluation.specs.Evaluated.{evaluate_answer, evaluate_bests}

module _ (q : Request) (records : List ℤ) (luma u v referenceLuma referenceU referenceV : List ℕ) (bests : List ℤ) where
  -- what the entry's contract admits
  pub record Answered (answer : Result ⊤ Refusal) (written : List ℤ) : Type 0 where
    pub answer_is : answer ≡ outcome (evaluate_answer q records luma u v referenceLuma referenceU referenceV (length bests))
    pub found : written ≡ evaluate_bests q records luma u v referenceLuma referenceU referenceV bests

  -- a refusal changes nothing lent
  pub answered_alone : {refusal : Refusal} → Err refusal ≡ outcome (evaluate_answer q records luma u v referenceLuma referenceU referenceV (length bests)) →
      Answered (Err refusal) bests
  unfolding evaluate_bests
  answered_alone e = record { answer_is = e; found = sym (kept_err _ _ _ tt e) }

  -- the same by the number: what the export's contract admits
  pub record Outcome (number : ℕ) (written : List ℤ) : Type 0 where
    pub number_is : number ≡ evaluate_answer q records luma u v referenceLuma referenceU referenceV (length bests)
    pub bests_are : written ≡ evaluate_bests q records luma u v referenceLuma referenceU referenceV bests

  pub refused : {n : ℕ} → n ≡ evaluate_answer q records luma u v referenceLuma referenceU referenceV (length bests) →
      0 < evaluate_answer q records luma u v referenceLuma referenceU referenceV (length bests) → Outcome n bests
  unfolding evaluate_bests
  refused e some = record { number_is = e; bests_are = sym (kept_refused _ _ bests some) }
