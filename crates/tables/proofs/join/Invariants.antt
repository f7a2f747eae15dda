-- The slots passed are written.
use Rattle.std.proofs.Common.{◌≡◌}
use Rattle.tables.specs.Tables.{joined_upto}
use Rattle.tables.proofs.join.Given as goal

abbrev pub invariant-loop-n : goal.invariant-loop-n
invariant-loop-n l = l.out ≡ joined_upto l.scale l.u l.v l.n
