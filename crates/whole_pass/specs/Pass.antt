-- The whole pass, from 01: block by block in the given order, a record is planned, its best found, and the best's vector and SAD stored at the block's index,
-- with its two output words where output is asked for. Definitions alone.
use Rattle.std.specs.Prelude.{Bool, List, ℕ, ℤ}
use Rattle.score.specs.Score.{output_word, packed_score}
use Rattle.planes.specs.declared.Planes.{Planes}
use Rattle.block.specs.declared.Settings.{Settings}
use Rattle.best.specs.declared.Best.{Best}
use Rattle.best.specs.Best.{best_of}
use Rattle.passes.specs.Fold.{index_at}
use Rattle.planning.specs.Refusals.{block_count}
use Rattle.planning.specs.Planned.{made_of}
use Rattle.evaluation.specs.declared.Request.{Request}
use Rattle.evaluation.specs.Evaluated.{task_of}
use Rattle.finishing.specs.Finish.{written_upto, stored, words_put}
use Rattle.plan_laws.specs.ReadBack.{planned}

-- the request that goes with a plan: the plan's own block, shifts, search_param, pel and source planes. What a plan does not have is the measure, pnew and the
-- reference planes.
abbrev pub request_of : Settings → Bool → ℤ → Planes → Request
request_of s measure pnew reference =
    record {
      measure = measure;
      block = s.block;
      shift = s.shift;
      search_param = s.search.search_param;
      pnew = pnew;
      pel = s.level.pel;
      source = s.planes;
      reference = reference;
    }

module _ (s : Settings) (q : Request) (order vectors : List ℤ) (luma u v referenceLuma referenceU referenceV : List ℕ) where
  -- the best of the i-th block of the order
  abbrev pub pass_best : ℕ → Best
  pass_best i = best_of (task_of q) (planned s order vectors i) luma u v referenceLuma referenceU referenceV

  abbrev pub storing : ℕ → List ℤ → List ℤ
  storing i held = stored held (index_at s.grid order i) (pass_best i).x (pass_best i).y (pass_best i).sad

  -- the vectors after the pass
  unfoldable pub pass_vectors : List ℤ
  pass_vectors = written_upto storing vectors (block_count s.grid)

  abbrev pub putting : ℕ → List ℤ → List ℤ
  putting i held =
      words_put held (index_at s.grid order i) (output_word (pass_best i).x (pass_best i).y)
      (packed_score (pass_best i).x (pass_best i).y (pass_best i).sad (made_of s).diagonal (pass_best i).average)

  -- the output words after it
  unfoldable pub pass_output : List ℤ → List ℤ
  pass_output output = written_upto putting output (block_count s.grid)
