-- The array stays a table of costs, entry by entry.
use Rattle.std.proofs.Common.{◌≡◌, length}
use Rattle.choosing.specs.Bounds.{Small}
use Rattle.replay_choosing.proofs.table.Given as goal

abbrev pub invariant-loop-slot : goal.invariant-loop-slot
invariant-loop-slot l = record { long : length l.table ≡ 50; small : Small l.table }
