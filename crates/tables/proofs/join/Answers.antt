-- Each slot is written once. Assumes nothing.
use Rattle.std.proofs.Common.{sym}
use Rattle.tables.specs.Laws.{joined_none, joined_next}
use Rattle.tables.proofs.join.Goals as goal

pub loop-n-init : goal.loop-n-init
loop-n-init c = sym (joined_none _ _ _)

pub loop-n-preserved : goal.loop-n-preserved
loop-n-preserved c = rw c.loop-n.invariant (sym (joined_next _ _ _ _))
