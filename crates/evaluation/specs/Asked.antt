-- What the functions of evaluating ask of their callers. Definitions alone.
use Rattle.std.specs.Prelude.{List, ℕ, ◌/◌, ◌<◌, ℤ, length, ◌≡◌, true}
use Rattle.limits.specs.Sizes.{words_per_record}
use Rattle.whole.specs.Interval.{Within}
use Rattle.records.specs.Packing.{pairs_fit}
use Rattle.best.specs.declared.Task.{Task}
use Rattle.best.specs.Fair.{Fair}
use Rattle.record_slice.specs.RecordSlice.{record_at}
use Rattle.evaluation.specs.declared.Request.{Request}

pub record Searched (q : Request) : Type 0 where
  pub search : Within 3 3 q.search_param

-- every record can be evaluated. That its pairs fit is told by reading it.
abbrev pub FairAll : Task → List ℤ → Type 0
FairAll task records = (i : ℕ) → i < length records / words_per_record → pairs_fit (record_at records i) ≡ true → Fair task (record_at records i)
