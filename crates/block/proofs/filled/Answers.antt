-- Luma first, and then a plain block's chroma. Assumes nothing.
use Rattle.std.specs.Prelude.{◌≡◌}
use Rattle.std.proofs.Common.{rules, to_z-of_z, FitsSigned}
use Rattle.std.specs.Int.{w32}
use mir.Val.{to_z, of_z}
use Rattle.whole.specs.Signed.{got}
use Rattle.plane.specs.Places.{pel1_of}
use Rattle.block.proofs.Stages.{negative_filled, plain_filled}
use Rattle.block.proofs.filled.Goals as goal
use Rattle.block.proofs.filled.Goals.{After-offset_at}

luma_is : (c : After-offset_at) → to_z w32 (of_z w32 c.offset_at.result) ≡ pel1_of c.args.planes.luma c.args.spot.x c.args.spot.y
luma_is c =
    let f : FitsSigned w32 c.args.spot.x = search rules in
    let g : FitsSigned w32 c.args.spot.y = search rules in
    got w32 c.offset_at.type_inv (simp to_z-of_z at c.offset_at.ensures)

pub returns-then-negative : goal.returns-then-negative
returns-then-negative c =
    negative_filled c.args.planes c.args.spot c.args.slots c.args.negative c.if-negative.true (luma_is (goal.at.returns-then-negative c).After-offset_at)
    c.after_luma-written.ensures

pub offset_at-requires-2 : goal.offset_at-requires-2
offset_at-requires-2 c =
    let f : FitsSigned w32 c.args.spot.cx = search rules in
    let g : FitsSigned w32 c.args.spot.cy = search rules in
    simp to_z-of_z (c.requires.u c.if-negative.false)

pub offset_at-requires-3 : goal.offset_at-requires-3
offset_at-requires-3 c =
    let f : FitsSigned w32 c.args.spot.cx = search rules in
    let g : FitsSigned w32 c.args.spot.cy = search rules in
    simp to_z-of_z (c.requires.v c.if-negative.false)

pub returns : goal.returns
returns c =
    let f : FitsSigned w32 c.args.spot.cx = search rules in
    let g : FitsSigned w32 c.args.spot.cy = search rules in
    plain_filled c.args.planes c.args.spot c.args.slots c.args.negative c.if-negative.false
    (luma_is (goal.at.returns c).After-offset_at)
    (got w32 c.offset_at-2.type_inv (simp to_z-of_z at c.offset_at-2.ensures))
    (got w32 c.offset_at-3.type_inv (simp to_z-of_z at c.offset_at-3.ensures))
    c.after_luma-written.ensures
    c.after_chroma.ensures
