-- What a bad record whose window is empty answers: its predictor's plain cost. Definitions alone. That it does is in proofs/Kept.
use Rattle.std.specs.Prelude.{List, ℕ}
use Rattle.records.specs.declared.Record.{Record}
use Rattle.best.specs.declared.Task.{Task}
use Rattle.best.specs.VectorCosts.{cost_at}

module _ (task : Task) (given : Record) (luma u v referenceLuma referenceU referenceV : List ℕ) where
  -- the cost of the predictor, in all planes that count
  abbrev pub predictor_cost : ℕ
  predictor_cost = cost_at task given luma u v referenceLuma referenceU referenceV given.predictor.first given.predictor.second
