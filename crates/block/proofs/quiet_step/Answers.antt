-- The slots stay as they are. Assumes nothing.
use Rattle.std.proofs.Common.{refl, to_z-of_z}
use Rattle.block.specs.Steps.{quiet_step}
use Rattle.block.specs.Alike.{alike_steps}
use Rattle.block.proofs.quiet_step.Goals as goal

pub returns : goal.returns
unfolding quiet_step
returns c =
    let f = c.ranges.lambda in
    alike_steps (simp to_z-of_z at c.quiet_record-made.ensures) refl
