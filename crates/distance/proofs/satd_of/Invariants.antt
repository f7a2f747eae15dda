-- The total is that of the rows of tiles passed, of at most four tiles each.
use Rattle.std.proofs.Common.{◌≡◌, ◌*◌, ◌/◌, ◌≤◌}
use Rattle.distance.specs.Distance.{tiles, block_of}
use Rattle.distance.proofs.satd_of.Given as goal

abbrev pub invariant-loop-i : goal.invariant-loop-i
invariant-loop-i l =
    record { same : l.total ≡ tiles (l.w / 4) l.i (block_of l.a.bytes.now l.a.pitch) (block_of l.b.bytes.now l.b.pitch); below : l.total ≤ 262144 * l.i }
