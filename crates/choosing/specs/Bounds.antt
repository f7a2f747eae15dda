-- What `choose` and `select` ask of their callers. A record that refusal 7 lets through is served. Assumes nothing.
use Rattle.std.specs.Prelude.{List, ℕ, ◌<◌, ◌≤◌, get_or}
use Rattle.whole.specs.Interval.{Within}
use Rattle.choosing.specs.declared.Choice.{Choice}
use Rattle.choosing.specs.Choosing.{columns_of, rows_of}

-- a table of costs: each below 2^20
pub record Small (table : List ℕ) : Type 0 where
  pub below : (slot : ℕ) → get_or table slot 0 < 1048576

-- 01, "Numbers accepted": "Vector components fit i16"
pub record Ranged (k : Choice) : Type 0 where
  pub x : Within 32768 32767 k.x
  pub y : Within 32768 32767 k.y
  pub least_x : Within 32768 32767 k.least_x
  pub greatest_x : Within 32768 32767 k.greatest_x
  pub least_y : Within 32768 32767 k.least_y
  pub greatest_y : Within 32768 32767 k.greatest_y

-- of a window with both sides non-empty neither is over 7, which is 2 x radius + 1 at the greatest radius
pub record Narrow (k : Choice) : Type 0 where
  pub across : 0 < columns_of k → 0 < rows_of k → columns_of k ≤ 7
  pub down : 0 < columns_of k → 0 < rows_of k → rows_of k ≤ 7

pub record Served (k : Choice) : Type 0 where
  pub ranged : Ranged k
  pub narrow : Narrow k
