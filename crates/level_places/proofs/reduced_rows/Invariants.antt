-- The rows of as many levels have been counted as lie above.
use Rattle.std.proofs.Common.{◌≡◌, ◌*◌, ◌≤◌}
use Rattle.level_places.specs.Levels.{reduced_rows}
use Rattle.level_places.proofs.reduced_rows.Given as goal

abbrev pub invariant-loop-above : goal.invariant-loop-above
invariant-loop-above l = record { counted : l.rows ≡ reduced_rows l.height l.shift l.above; few : l.rows ≤ 2147483648 * l.above }
