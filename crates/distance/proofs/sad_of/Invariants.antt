-- The total is SAD over the rows passed, at most 4,080 each.
use Rattle.std.proofs.Common.{◌≡◌, ◌*◌, ◌≤◌}
use Rattle.distance.specs.Distance.{sad, block_of}
use Rattle.distance.proofs.sad_of.Given as goal

abbrev pub invariant-loop-y : goal.invariant-loop-y
invariant-loop-y l =
    record { same : l.total ≡ sad l.w l.y (block_of l.a.bytes.now l.a.pitch) (block_of l.b.bytes.now l.b.pitch); below : l.total ≤ 4080 * l.y }
