-- A record of the block's own numbers. Assumes nothing.
use Rattle.std.proofs.Common.{rules, refl, to_z-of_z, FitsSigned}
use Rattle.std.specs.Int.{w32}
use Rattle.whole.specs.Signed.{got}
use Rattle.records.specs.Alike.{alike_pairs, alike_records}
use Rattle.block.specs.Steps.{quiet_record}
use Rattle.block.proofs.quiet_record.Goals as goal

pub returns : goal.returns
unfolding quiet_record
returns c =
    let px : FitsSigned w32 c.args.block.px = search rules in
    let py : FitsSigned w32 c.args.block.py = search rules in
    let sad : FitsSigned w32 c.args.block.sad = search rules in
    alike_records refl refl refl refl refl refl refl (alike_pairs (to_z-of_z px) (to_z-of_z py)) refl refl (to_z-of_z sad) (to_z-of_z c.ranges.lambda)
    (got w32 c.flags_of.type_inv c.flags_of.ensures)
