-- The total is that of the tiles passed, each of which fits 16 bits.
use Rattle.std.proofs.Common.{◌≡◌, ◌*◌, ◌≤◌}
use Rattle.distance.specs.Parts.{tiles_less}
use Rattle.distance.proofs.tiles_at.Given as goal

abbrev pub invariant-loop-j : goal.invariant-loop-j
invariant-loop-j l =
    record { same : l.total ≡ tiles_less l.j l.a.bytes.now 0 l.a.pitch l.b.bytes.now 0 l.b.pitch; below : l.total ≤ 65535 * l.j }
