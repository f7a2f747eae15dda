-- The four differences, as the machine has them. Assumes nothing.
use Rattle.std.proofs.Common.{◌≡◌, ◌-ℤ◌, ◌+◌, ◌*◌, ◌<◌, ◌∙◌, ℕ, pos, get_or, arith}
use Rattle.std.specs.Int.{w16}
use Rattle.whole.specs.Signed.{got}
use Rattle.distance.proofs.Tiles.{quads_alike}
use Rattle.distance.proofs.Slices.{part_less, less_at, rows_same}
use Rattle.distance.proofs.row_less.Goals as goal

pub returns-clause-value : goal.returns-clause-value
returns-clause-value c =
    let a = c.args.a in
    let b = c.args.b in
    let at : (x : ℕ) → x < 4 → pos (get_or c.row-p.result.now x 0) -ℤ pos (get_or c.row-q.result.now x 0) ≡ pos (get_or a.bytes.now (c.args.y * a.pitch + x) 0) -ℤ pos (get_or b.bytes.now (c.args.y * b.pitch + x) 0) =
    λ x l. rows_same x c.row-p.ensures c.row-q.ensures ∙ part_less a.bytes.now b.bytes.now _ _ 4 x l in
    quads_alike
    (got w16 c.less.type_inv c.less.ensures.value ∙ at 0 (omega arith) ∙ less_at a.bytes.now b.bytes.now (omega arith) (omega arith))
    (got w16 c.less-2.type_inv c.less-2.ensures.value ∙ at 1 (omega arith))
    (got w16 c.less-3.type_inv c.less-3.ensures.value ∙ at 2 (omega arith))
    (got w16 c.less-4.type_inv c.less-4.ensures.value ∙ at 3 (omega arith))
