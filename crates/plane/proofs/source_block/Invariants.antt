-- The array is the one that the definition has gathered so far.
use Rattle.std.proofs.Common.{◌≡◌}
use Rattle.plane.specs.Samples.{source_at, gathered}
use Rattle.plane.proofs.source_block.Given as goal

abbrev pub invariant-loop-b : goal.invariant-loop-b
invariant-loop-b l = l.out ≡ gathered l.b (source_at l.samples.bytes.now l.samples.pitch l.full l.overlay l.w l.h)
