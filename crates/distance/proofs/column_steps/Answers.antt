-- Each pass writes the column step of one more column; its four differences are of bytes, so that they may be turned. Assumes nothing.
use Rattle.std.proofs.Common.{◌∙◌, ◌<◌, arith, rules, to_z-of_z}
use Rattle.std.specs.Int.{w16}
use mir.Val.{SFits}
use Rattle.whole.specs.Signed.{got}
use Rattle.distance.proofs.SideBySide.{column_less, next_column}
use Rattle.distance.proofs.Slices.{rows_same}
use Rattle.distance.proofs.Tiles.{quads_alike}
use Rattle.distance.proofs.column_steps.Goals as goal

pub loop-x-preserved : goal.loop-x-preserved
loop-x-preserved c =
    let a = c.args.a in
    let b = c.args.b in
    let x = c.loop-x.x in
    let q = c.turned-turned.result in
    let fa : SFits w16 q.a = search rules in
    let fb : SFits w16 q.b = search rules in
    let fc : SFits w16 q.c = search rules in
    let fd : SFits w16 q.d = search rules in
    let column = column_less a.bytes.now b.bytes.now a.pitch b.pitch c.args.n x c.loop-x-test.true
    (got w16 c.less.type_inv c.less.ensures.value ∙ rows_same x c.row-a0.ensures c.row-b0.ensures)
    (got w16 c.less-in-loop-x.type_inv c.less-in-loop-x.ensures.value ∙ rows_same x c.row-a1.ensures c.row-b1.ensures)
    (got w16 c.less-in-loop-x-2.type_inv c.less-in-loop-x-2.ensures.value ∙ rows_same x c.row-a2.ensures c.row-b2.ensures)
    (got w16 c.less-in-loop-x-3.type_inv c.less-in-loop-x-3.ensures.value ∙ rows_same x c.row-a3.ensures c.row-b3.ensures) in
    let inside : x < 16 = omega arith in
    next_column a.bytes.now b.bytes.now a.pitch b.pitch x c.loop-x.invariant inside
    (quads_alike (to_z-of_z fa) (to_z-of_z fb) (to_z-of_z fc) (to_z-of_z fd) ∙ c.turned-turned.ensures)
    column
    (search rules)
