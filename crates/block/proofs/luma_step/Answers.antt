-- Luma into the active slot, and the quiet record. Assumes nothing.
use Rattle.std.specs.Prelude.{ℤ, Some}
use Rattle.std.proofs.Common.{rules, ap, ◌∙◌, to_z-of_z, FitsSigned}
use Rattle.std.specs.Int.{w32}
use mir.Val.{to_z, of_z}
use Rattle.whole.specs.Signed.{got}
use Rattle.block.specs.Steps.{quiet_record}
use Rattle.block.proofs.Stages.{luma_stages}
use Rattle.block.proofs.luma_step.Goals as goal

pub returns : goal.returns
returns c =
    let f : FitsSigned w32 c.args.shape.across.origin = search rules in
    let g : FitsSigned w32 c.args.shape.down.origin = search rules in
    luma_stages c.args.place c.args.block c.args.shape c.args.lambda c.args.slots
    (got w32 c.offset_at-at.type_inv (simp to_z-of_z at c.offset_at-at.ensures))
    c.after_luma-slots.ensures
    (c.quiet_record-made.ensures
    ∙ ap (λ (l : ℤ). quiet_record c.args.block c.args.shape.negative l (Some (to_z w32 (of_z w32 c.offset_at-at.result)))) (to_z-of_z c.ranges.lambda))
