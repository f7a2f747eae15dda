-- The outcome of finishing as a whole: what the two lent buffers hold where it is done and where it is refused. Assumes nothing.
use Rattle.std.specs.Prelude.{◌≡◌, Bool, true, false, List, ℕ, ◌<◌, ℤ, length, ⊤, Result, Ok, Err}
use Rattle.std.proofs.Math.Path.{sym}
use Rattle.std.proofs.Common.{ap, ◌∙◌}
use native.Mathlib.Omega.{arith}
use Rattle.refusals.specs.declared.Refusal.{Refusal}
use Rattle.refusals.specs.Numbers.{outcome}
use Rattle.limits.specs.Refused.{kept_done, kept_refused, kept_err}
use Rattle.finishing.specs.Finish.{written_upto, storing, putting, finish_answer, finish_vectors, finish_output}

module _ (nx ny : ℤ) (indices bests : List ℤ) (diagonal : ℤ) (asked : Bool) (vectors output : List ℤ) where
  -- what the entry's contract admits
  pub record Answered (answer : Result ⊤ Refusal) (stored written : List ℤ) : Type 0 where
    pub answer_is : answer ≡ outcome (finish_answer nx ny indices bests diagonal asked (length vectors) (length output))
    pub vectors_hold : stored ≡ finish_vectors nx ny indices bests diagonal asked vectors (length output)
    pub output_holds : written ≡ finish_output nx ny indices bests diagonal asked (length vectors) output

  -- a refusal changes nothing lent
  pub answered_alone : {refusal : Refusal} → Err refusal ≡ outcome (finish_answer nx ny indices bests diagonal asked (length vectors) (length output)) →
      Answered (Err refusal) vectors output
  unfolding finish_vectors finish_output
  answered_alone e = record { answer_is = e; vectors_hold = sym (kept_err _ _ _ tt e); output_holds = sym (kept_err _ _ _ tt e) }

  -- the same by the number: what the export's contract admits
  pub record Outcome (number : ℕ) (stored written : List ℤ) : Type 0 where
    pub number_is : number ≡ finish_answer nx ny indices bests diagonal asked (length vectors) (length output)
    pub vectors_are : stored ≡ finish_vectors nx ny indices bests diagonal asked vectors (length output)
    pub output_is : written ≡ finish_output nx ny indices bests diagonal asked (length vectors) output

  pub refused : (number : ℕ) → number ≡ finish_answer nx ny indices bests diagonal asked (length vectors) (length output) → 0 < number →
      Outcome number vectors output
  unfolding finish_vectors finish_output
  refused number e h =
      let given : 0 < finish_answer nx ny indices bests diagonal asked (length vectors) (length output) = omega arith in
      record { number_is = e; vectors_are = sym (kept_refused _ _ vectors given); output_is = sym (kept_refused _ _ output given) }

  module _ (done : finish_answer nx ny indices bests diagonal asked (length vectors) (length output) ≡ 0) where
    pub answered_without_output : asked ≡ false → Answered (Ok tt) (written_upto (storing indices bests) vectors (length indices)) output
    unfolding finish_vectors finish_output
    answered_without_output e =
        record { answer_is = sym (ap outcome done); vectors_hold = sym (kept_done _ _ vectors done); output_holds = sym (kept_done _ _ output done ∙ rw e) }

    pub answered_with_output : asked ≡ true → Answered (Ok tt) (written_upto (storing indices bests) vectors (length indices))
        (written_upto (putting indices bests diagonal) output (length indices))
    unfolding finish_vectors finish_output
    answered_with_output e =
        record { answer_is = sym (ap outcome done); vectors_hold = sym (kept_done _ _ vectors done); output_holds = sym (kept_done _ _ output done ∙ rw e) }

    pub done_alone : asked ≡ false → Outcome 0 (written_upto (storing indices bests) vectors (length indices)) output
    unfolding finish_vectors finish_output
    done_alone e = record { number_is = sym done; vectors_are = sym (kept_done _ _ vectors done); output_is = sym (kept_done _ _ output done ∙ rw e) }

    pub done_with_output : asked ≡ true → Outcome 0 (written_upto (storing indices bests) vectors (length indices))
        (written_upto (putting indices bests diagonal) output (length indices))
    unfolding finish_vectors finish_output
    done_with_output e = record { number_is = sym done; vectors_are = sym (kept_done _ _ vectors done); output_is = sym (kept_done _ _ output done ∙ rw e) }
