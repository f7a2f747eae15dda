-- Each number has had a place.
use Rattle.std.proofs.Common.{length, ◌≤◌}
use Rattle.cases.proofs.put.Given as goal

abbrev pub invariant-loop-digits : goal.invariant-loop-digits
invariant-loop-digits l =
    (goal.iterator-loop-digits).can_next l.digits-iterator × (goal.iterator-loop-digits).is_finite l.digits-iterator × (l.count ≤ length l.room)
