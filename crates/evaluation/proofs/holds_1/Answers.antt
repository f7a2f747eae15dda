-- The block's size, and the radius. Assumes nothing.
use borrow.Author.Rules.{rules}
use mir.Facts.{to_z-of_z}
use mir.Syntax.{w32}
use mir.Val.{SFits}
use Rattle.whole.specs.Truth.{both_alike}
use Rattle.evaluation.specs.Refusals.{holds1}
use Rattle.evaluation.proofs.holds_1.Goals as goal

pub returns : goal.returns
unfolding holds1
returns c =
    let q = c.args.request in
    let w : SFits w32 q.block.x = search rules in
    let h : SFits w32 q.block.y = search rules in
    let param : SFits w32 q.search_param = search rules in
    both_alike (simp to_z-of_z at c.is_block.ensures) (simp to_z-of_z at c.within.ensures)
