-- What `best_of` asks of its callers: what refusals 1, 2, 3 and 7 leave; and the part of it that a block's costs hang on. Definitions alone.
use Rattle.std.specs.Prelude.{◌≡◌, true}
use Rattle.whole.specs.Interval.{Within}
use Rattle.limits.specs.Limits.{is_block}
use Rattle.records.specs.declared.Record.{Record}
use Rattle.records.specs.Packing.{pairs_fit}
use Rattle.window.specs.Windows.{is_bad}
use Rattle.plane.specs.Places.{Placed}
use Rattle.choosing.specs.Bounds.{Narrow, Served}
use Rattle.best.specs.declared.Task.{Task}
use Rattle.best.specs.Best.{choice_of}

pub record Fair (task : Task) (given : Record) : Type 0 where
  pub block_in : is_block task.block.x task.block.y ≡ true
  pub shift_in : Within 0 1 task.shift
  pub source_luma : Placed task.source.luma
  pub source_u : Placed task.source.u
  pub source_v : Placed task.source.v
  pub reference_luma : Placed task.reference.luma
  pub reference_u : Placed task.reference.u
  pub reference_v : Placed task.reference.v
  pub pairs : pairs_fit given ≡ true
  pub served : is_bad given ≡ true → Served (choice_of task given)

-- a block of one of the three sizes, and a window that 7 lets through
pub record Comparable (task : Task) (given : Record) : Type 0 where
  pub block_in : is_block task.block.x task.block.y ≡ true
  pub narrow : is_bad given ≡ true → Narrow (choice_of task given)
