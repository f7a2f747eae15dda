-- Of both loops: the array is the one that the definition has gathered so far.
use Rattle.std.proofs.Common.{◌≡◌, ◌+◌, ◌*◌}
use Rattle.plane.specs.Samples.{placed_at, nth, gathered}
use Rattle.plane.proofs.gather.Given as goal

abbrev pub invariant-loop-x : goal.invariant-loop-x
invariant-loop-x l = l.out ≡ gathered (l.y * l.w + l.x) (nth l.w (placed_at l.samples.bytes.now l.at l.samples.pitch))

abbrev pub invariant-loop-y : goal.invariant-loop-y
invariant-loop-y l = l.out ≡ gathered (l.y * l.w) (nth l.w (placed_at l.samples.bytes.now l.at l.samples.pitch))
