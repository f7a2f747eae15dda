-- The record's parts, each as the definition has it. Assumes nothing.
use Rattle.std.proofs.Common.{rules, refl, to_z-of_z, FitsSigned}
use Rattle.std.specs.Int.{w32}
use Rattle.whole.specs.Signed.{got}
use Rattle.whole.specs.Interval.{fits}
use Rattle.records.specs.Alike.{alike_pairs, alike_records}
use Rattle.block.specs.Steps.{bad_record}
use Rattle.block.proofs.bad_record.Goals as goal

pub returns : goal.returns
unfolding bad_record
returns c =
    let p = c.requires in
    let pel : FitsSigned w32 c.args.shape.across.pel = fits p.across.pel tt tt in
    let x : FitsSigned w32 c.args.spot.x = fits p.x tt tt in
    let y : FitsSigned w32 c.args.spot.y = fits p.y tt tt in
    let cx : FitsSigned w32 c.args.spot.cx = fits p.cx tt tt in
    let cy : FitsSigned w32 c.args.spot.cy = fits p.cy tt tt in
    let px : FitsSigned w32 c.args.block.px = search rules in
    let py : FitsSigned w32 c.args.block.py = search rules in
    let sad : FitsSigned w32 c.args.block.sad = search rules in
    alike_records refl refl refl refl refl
    (simp to_z-of_z at c.scaled.ensures)
    (simp to_z-of_z at c.scaled-2.ensures)
    (alike_pairs (to_z-of_z px) (to_z-of_z py))
    (simp to_z-of_z at c.window.ensures)
    (simp to_z-of_z at c.window-2.ensures)
    (to_z-of_z sad) (to_z-of_z c.ranges.lambda)
    (got w32 c.flags_of.type_inv c.flags_of.ensures)
