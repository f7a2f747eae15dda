-- The stages of the definition, one call each. Assumes nothing.
use Rattle.std.specs.Prelude.{ℤ, Some}
use Rattle.std.proofs.Common.{rules, ap, ◌∙◌, to_z-of_z, FitsSigned}
use Rattle.std.specs.Int.{w32}
use mir.Val.{to_z, of_z}
use Rattle.whole.specs.Signed.{got}
use Rattle.block.specs.Steps.{bad_record}
use Rattle.block.specs.Bounds.{spot_within}
use Rattle.block.proofs.Stages.{bad_stages}
use Rattle.block.proofs.bad_step.Goals as goal

pub offset_at-requires : goal.offset_at-requires
offset_at-requires c =
    let f : FitsSigned w32 c.spot_of-own.result.x = search rules in
    let g : FitsSigned w32 c.spot_of-own.result.y = search rules in
    simp to_z-of_z (rw c.spot_of-own.ensures (c.requires.spot_held _).luma)

pub bad_record-made-requires : goal.bad_record-made-requires
bad_record-made-requires c =
    rw c.spot_of-spot.ensures (spot_within c.requires.bounded.0 c.requires.bounded.1 c.args.shift _)

pub returns : goal.returns
returns c =
    let f : FitsSigned w32 c.spot_of-own.result.x = search rules in
    let g : FitsSigned w32 c.spot_of-own.result.y = search rules in
    bad_stages c.args.planes c.args.shift c.args.block c.args.shape c.args.lambda c.args.slots
    c.spot_of-own.ensures
    c.filled-written.ensures
    c.is_moved-moves.ensures
    c.spot_of-spot.ensures
    c.settled-slots.ensures
    c.active-source.ensures
    (got w32 c.offset_at.type_inv (simp to_z-of_z at c.offset_at.ensures))
    (c.bad_record-made.ensures
    ∙ ap (λ (l : ℤ). bad_record c.args.block c.args.shape c.spot_of-spot.result l c.active-source.result (Some (to_z w32 (of_z w32 c.offset_at.result)))) (to_z-of_z c.ranges.lambda))
