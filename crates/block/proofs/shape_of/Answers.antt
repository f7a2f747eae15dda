-- The two axes, each of the same block. Assumes nothing.
use Rattle.std.proofs.Common.{rules, ap, ◌∙◌, to_z-of_z, FitsSigned}
use Rattle.std.specs.Int.{w32}
use Rattle.limits.specs.Limits.{radius_of}
use Rattle.whole.specs.Signed.{got}
use Rattle.whole.specs.Interval.{fits}
use Rattle.block.specs.Shapes.{shape_of}
use Rattle.block.specs.Alike.{alike_shapes, axis_read}
use Rattle.block.proofs.shape_of.Goals as goal

pub returns : goal.returns
unfolding shape_of
returns c =
    let p = c.requires in
    let a = c.args.s in
    let b = c.args.block in
    let pel : FitsSigned w32 c.args.s.level.pel = search rules in
    let width : FitsSigned w32 c.args.s.planes.luma.width = search rules in
    let height : FitsSigned w32 c.args.s.planes.luma.height = search rules in
    let px : FitsSigned w32 c.args.block.px = search rules in
    let py : FitsSigned w32 c.args.block.py = search rules in
    let radius = got w32 c.radius_of-radius.type_inv (c.radius_of-radius.ensures ∙ ap radius_of (to_z-of_z (fits {w = w32} p.search tt tt))) in
    let negative = c.is_negative-negative.ensures in
    alike_shapes
    (axis_read c.axis_of.ensures (to_z-of_z pel) (to_z-of_z width) (to_z-of_z (fits {w = w32} p.step_x tt tt)) (to_z-of_z (fits {w = w32} p.side_x tt tt)) (to_z-of_z (fits {w = w32} p.x tt tt)) (to_z-of_z px) radius negative)
    (axis_read c.axis_of-2.ensures (to_z-of_z pel) (to_z-of_z height) (to_z-of_z (fits {w = w32} p.step_y tt tt)) (to_z-of_z (fits {w = w32} p.side_y tt tt)) (to_z-of_z (fits {w = w32} p.y tt tt)) (to_z-of_z py) radius negative)
    negative
