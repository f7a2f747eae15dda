-- What planning answers, and what the lent buffers hold afterwards, for every input. Definitions alone.
use Rattle.refusals.specs.declared.Refusal.{Refusal}
use Rattle.refusals.specs.Numbers.{answered, answer_number}
use Rattle.std.specs.Prelude.{List, ◌++◌, ℕ, ◌*◌, ℤ, length, drop, Result}
use Rattle.limits.specs.Sizes.{words_per_record}
use Rattle.limits.specs.Limits.{radius_of}
use Rattle.limits.specs.Refusals.{kept}
use Rattle.window.specs.Windows.{slots_of}
use Rattle.score.specs.Diagonal.{diagonal_of}
use Rattle.block.specs.declared.Settings.{Settings}
use Rattle.passes.specs.Fold.{words_upto, indices_upto}
use Rattle.planning.specs.declared.Made.{Made}
use Rattle.planning.specs.Refusals.{block_count, refusal_of}

-- "Slots are 1 + (2 x radius + 1) squared. Diagonal is pel x the largest whole number whose square is at most width squared + height squared."
unfoldable pub made_of : Settings → Made
made_of s =
    record { slots = slots_of (radius_of s.search.search_param); diagonal = diagonal_of s.planes.luma.width s.planes.luma.height s.level.pel }

-- 01's number for each answer
abbrev pub plan_number : Result Made Refusal → ℕ
plan_number = answer_number

-- On 0 what was made. "A refusal returns the number and changes nothing lent .. a longer buffer keeps its tail."
module _ (s : Settings) (order vectors : List ℤ) (luma u v : ℕ) where
  unfoldable pub plan_answer : ℕ → ℕ → Result Made Refusal
  plan_answer words indices = answered (refusal_of s order vectors luma u v words indices) (made_of s)

  -- 12 words a block of the order
  unfoldable pub plan_records : List ℤ → ℕ → List ℤ
  plan_records records indices =
      let n = block_count s.grid in
      kept (refusal_of s order vectors luma u v (length records) indices) (words_upto s order vectors n ++ drop (words_per_record * n) records) records

  -- an index a block of the order
  unfoldable pub plan_indices : ℕ → List ℤ → List ℤ
  plan_indices words indices =
      let n = block_count s.grid in
      kept (refusal_of s order vectors luma u v words (length indices)) (indices_upto s order vectors n ++ drop n indices) indices
