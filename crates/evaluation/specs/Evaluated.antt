-- What evaluating answers, and what the lent bests hold afterwards, for every input. Definitions alone.
use Rattle.std.specs.Prelude.{List, [], ◌∷◌, ◌++◌, ℕ, zero, suc, ◌*◌, ◌/◌, ℤ}
use Rattle.std.proofs.Math.ListN.{length, drop}
use Rattle.limits.specs.Sizes.{words_per_record, numbers_per_best}
use Rattle.limits.specs.Refusals.{kept}
use Rattle.best.specs.declared.Task.{Task}
use Rattle.best.specs.declared.Best.{Best}
use Rattle.best.specs.Best.{best_of}
use Rattle.five_numbers.specs.declared.Five.{Five}
use Rattle.five_numbers.specs.Five.{number_of, five_of}
use Rattle.record_slice.specs.RecordSlice.{record_at}
use Rattle.evaluation.specs.declared.Request.{Request}
use Rattle.evaluation.specs.Refusals.{refusal_of}

-- chroma "uses the horizontal shift on both axes"
abbrev pub task_of : Request → Task
task_of q =
    record { measure = q.measure; block = q.block; shift = q.shift.x; pnew = q.pnew; pel = q.pel; source = q.source; reference = q.reference }

-- a record's five numbers in a row
abbrev pub best_list : Five → List ℤ
best_list f = f.best.x ∷ f.best.y ∷ f.best.sad ∷ f.best.average ∷ number_of f.outside ∷ []

-- the bests of the first so many records, one behind the other
module _ (task : Task) (records : List ℤ) (luma u v referenceLuma referenceU referenceV : List ℕ) where
  abbrev pub best_at : ℕ → Best
  best_at i = best_of task (record_at records i) luma u v referenceLuma referenceU referenceV

  abbrev pub five_at : ℕ → Five
  five_at i = five_of task (record_at records i) luma u v referenceLuma referenceU referenceV

  abbrev pub fifth_at : ℕ → ℤ
  fifth_at i = number_of (five_at i).outside

  unfoldable pub bests_upto : ℕ → List ℤ
  bests_upto zero = []
  bests_upto (suc i) = bests_upto i ++ best_list (five_at i)

module _ (q : Request) (records : List ℤ) (luma u v referenceLuma referenceU referenceV : List ℕ) where
  unfoldable pub evaluate_answer : ℕ → ℕ
  evaluate_answer bests = refusal_of q records (length luma) (length u) (length v) (length referenceLuma) (length referenceU) (length referenceV) bests

  -- "A refusal returns the number and changes nothing lent .. a longer buffer keeps its tail."
  unfoldable pub evaluate_bests : List ℤ → List ℤ
  unfolding evaluate_answer
  evaluate_bests bests =
      let n = length records / words_per_record in
      kept (evaluate_answer (length bests))
      (bests_upto (task_of q) records luma u v referenceLuma referenceU referenceV n ++ drop (numbers_per_best * n) bests)
      bests
