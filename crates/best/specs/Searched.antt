-- What `searched` means (02, Three): every candidate stands in the tables, in a slot of its own with the cost of its own vector, and there is at least one.
-- Definitions alone. That it is so of every searched record is in proofs/SearchedLaws.
use Rattle.std.specs.Prelude.{◌≡◌, true, List, ℕ, ◌<◌, ℤ, pos, ◌+ℤ◌}
use Rattle.std.specs.Int.Signed.{lt_z}
use Rattle.records.specs.declared.Record.{Record}
use Rattle.choosing.specs.declared.Choice.{Choice}
use Rattle.choosing.specs.Choosing.{columns_of, rows_of, slot_of}
use Rattle.choosing.specs.Entries.{held_at}
use Rattle.best.specs.declared.Task.{Task}
use Rattle.best.specs.Best.{choice_of, luma_table, chromas_of}
use Rattle.best.specs.VectorCosts.{cost_at}

module _ (task : Task) (given : Record) (luma u v referenceLuma referenceU referenceV : List ℕ) where
  abbrev k : Choice
  k = choice_of task given

  -- ---- the candidate in column i of row j, in the tables
  pub record InTable (slots : ℤ) (j i : ℕ) : Type 0 where
    pub in_rows : j < rows_of k
    pub in_columns : i < columns_of k
    pub slot_in : lt_z (pos (slot_of k j i)) slots ≡ true
    pub cost_held :
        held_at k (luma_table task given luma referenceLuma) (chromas_of task given u v referenceU referenceV) (slot_of k j i)
        ≡ pos (cost_at task given luma u v referenceLuma referenceU referenceV (given.window_x.first +ℤ pos i) (given.window_y.first +ℤ pos j))

  -- at least one, and all of them
  pub record Candidates (slots : ℤ) : Type 0 where
    pub some : InTable slots 0 0
    pub each : (j i : ℕ) → j < rows_of k → i < columns_of k → InTable slots j i
