-- Each turn stores one block more of the walk. Assumes nothing.
use Rattle.std.proofs.Common.{◌≡◌}
use Rattle.serpentine.specs.Filling.{begun}
use Rattle.serpentine.proofs.Grid.fill.Given as goal

abbrev pub invariant-loop-position : goal.invariant-loop-position
invariant-loop-position l = l.order ≡ begun l.self.nx l.self.ny l.initial.order l.position
