-- The array that no entry has been put into holds zeros.
use Rattle.std.proofs.Common.{refl}
use Rattle.choosing.specs.Tables.{zeros_small}
use Rattle.replay_choosing.proofs.table.Goals as goal

pub loop-slot-init : goal.loop-slot-init
loop-slot-init c = record { long = refl; small = zeros_small }
