-- After y rows their absent samples are counted.
use Rattle.std.proofs.Common.{◌≡◌, ◌*◌, ◌≤◌}
use Rattle.absent_reads.specs.Absent.{absent_in}
use Rattle.absent_reads.proofs.absent_in.Given as goal

abbrev pub invariant-loop-y : goal.invariant-loop-y
invariant-loop-y l = record { counted : l.total ≡ absent_in l.samples.bytes.now l.at l.samples.pitch l.w l.y; few : l.total ≤ 16 * l.y }
