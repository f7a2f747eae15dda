-- After so many turns the number is the size after as many levels.
use Rattle.std.proofs.Common.{◌≡◌}
use Rattle.level_places.specs.Levels.{size_after}
use Rattle.level_places.proofs.size_after.Given as goal

abbrev pub invariant-loop : goal.invariant-loop
invariant-loop l = l.s ≡ size_after l.counter l.size
