-- The cost of a vector in all planes that count. Definitions alone. That the tables hold it is in proofs/VectorCosts.
use Rattle.std.specs.Prelude.{cond, List, ℕ, ◌+◌, ◌*◌, ℤ}
use Rattle.records.specs.declared.Record.{Record}
use Rattle.window.specs.Windows.{is_negative}
use Rattle.best.specs.declared.Task.{Task}
use Rattle.best.specs.Best.{luma_cost, u_cost, v_cost, scale_of}

module _ (task : Task) (given : Record) (luma u v referenceLuma referenceU referenceV : List ℕ) where
  -- ---- the cost of a vector, in all planes that count
  abbrev pub cost_at : ℤ → ℤ → ℕ
  cost_at x y =
      luma_cost task given luma referenceLuma x y
      + cond (is_negative given) 0 ((u_cost task given u referenceU x y + v_cost task given v referenceV x y) * scale_of task given)
