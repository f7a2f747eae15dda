-- The array is the one that the definition has gathered so far. Assumes nothing.
use Rattle.std.proofs.Common.{sym}
use Rattle.plane.specs.Reads.{gathered_none, gathered_next}
use Rattle.plane.proofs.source_block.Goals as goal

pub loop-b-init : goal.loop-b-init
loop-b-init c = sym (gathered_none _)

pub loop-b-preserved : goal.loop-b-preserved
loop-b-preserved c = gathered_next _ _ c.source.ensures c.loop-b.invariant
