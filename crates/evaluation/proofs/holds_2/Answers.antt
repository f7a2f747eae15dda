-- Six tests, each as the definition has it. Assumes nothing.
use borrow.Author.Rules.{rules}
use mir.Facts.{to_z-of_z}
use mir.Syntax.{w32}
use mir.Val.{SFits}
use Rattle.whole.specs.Truth.{six_alike}
use Rattle.evaluation.specs.Refusals.{holds2}
use Rattle.evaluation.proofs.holds_2.Goals as goal

pub returns : goal.returns
unfolding holds2
returns c =
    let q = c.args.request in
    let pel : SFits w32 q.pel = search rules in
    let x : SFits w32 q.shift.x = search rules in
    let y : SFits w32 q.shift.y = search rules in
    let width : SFits w32 q.source.luma.width = search rules in
    let height : SFits w32 q.source.luma.height = search rules in
    six_alike
    (simp to_z-of_z at c.is_pel.ensures)
    (simp to_z-of_z at c.are_shifts.ensures)
    (simp to_z-of_z at c.is_frame_side.ensures)
    (simp to_z-of_z at c.is_frame_side-2.ensures)
    c.planes_hold.ensures
    (simp to_z-of_z at c.references_hold.ensures)
