-- The outcome of planning as a whole: a refusal changes nothing lent. Assumes nothing.
use Rattle.refusals.specs.declared.Refusal.{Refusal}
use Rattle.refusals.specs.Numbers.{line_of}
use Rattle.std.specs.Prelude.{◌≡◌, List, ℕ, ◌<◌, ℤ, length, Err, Result}
use Rattle.std.proofs.Math.Path.{sym}
use Rattle.std.proofs.Common.{arith}
use Rattle.limits.specs.Refused.{kept_refused}
use Rattle.block.specs.declared.Settings.{Settings}
use Rattle.planning.specs.Refusals.{refusal_of}
use Rattle.planning.specs.declared.Made.{Made}
use Rattle.planning.specs.Planned.{made_of, plan_answer, plan_records, plan_indices}
use Rattle.planning.specs.Accepted.{answered_refused}

module _ (s : Settings) (order vectors : List ℤ) (luma u v : ℕ) (records indices : List ℤ) where
  -- what the entry's contract admits
  pub record Outcome (answer : Result Made Refusal) (written listed : List ℤ) : Type 0 where
    pub answer_is : answer ≡ plan_answer s order vectors luma u v (length records) (length indices)
    pub records_are : written ≡ plan_records s order vectors luma u v records (length indices)
    pub indices_are : listed ≡ plan_indices s order vectors luma u v (length records) indices

  -- a refusal gives its line of the table alone, and changes nothing lent
  pub refused : 0 < refusal_of s order vectors luma u v (length records) (length indices) →
      Outcome (Err (line_of (refusal_of s order vectors luma u v (length records) (length indices)))) records indices
  unfolding plan_answer plan_records plan_indices
  refused some =
      record {
        answer_is = answered_refused _ (made_of s) (λ e. omega arith);
        records_are = sym (kept_refused _ _ records some);
        indices_are = sym (kept_refused _ _ indices some);
      }
