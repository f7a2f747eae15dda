-- Of columns side by side each four are a tile's. Assumes nothing.
use Rattle.std.proofs.Common.{◌+◌, ◌*◌, ℕ, sym, arith}
use Rattle.distance.specs.Distance.{tile_sum}
use Rattle.distance.specs.Sums.{sum_zero, sum_next}
use Rattle.distance.specs.Parts.{tile_less}
use Rattle.distance.proofs.Tiles.{values_are, total_is, rows_turned_lem}
use Rattle.distance.proofs.Slices.{tile_alone}
use Rattle.distance.proofs.SideBySide.{tile_stepped, stepped_small}
use Rattle.distance.proofs.tiles_at.Goals as goal

-- ---- one tile
pub returns-then-m-eq1-clause-value : goal.returns-then-m-eq1-clause-value
returns-then-m-eq1-clause-value c =
    let a = c.args.a in
    let b = c.args.b in
    rw c.if-m-eq1.true (tile_alone a.bytes.now b.bytes.now a.pitch b.pitch c.tile_at.ensures.value)

-- ---- more
pub loop-j-init : goal.loop-j-init
loop-j-init c = record { same = sym (sum_zero _); below = omega arith }

-- the tile that is read is small
pub turn_rows-requires : goal.turn_rows-requires
turn_rows-requires c =
    let a = c.args.a in
    let b = c.args.b in
    stepped_small a.bytes.now b.bytes.now a.pitch b.pitch _ c.column_steps-columns.ensures c.tile_in-stepped.ensures (omega arith)

pub weight-requires : goal.weight-requires
weight-requires c =
    let a = c.args.a in
    let b = c.args.b in
    rw c.turn_rows.ensures
    (rows_turned_lem (stepped_small a.bytes.now b.bytes.now a.pitch b.pitch _ c.column_steps-columns.ensures c.tile_in-stepped.ensures (omega arith)))

pub loop-j-preserved : goal.loop-j-preserved
loop-j-preserved c =
    let a = c.args.a in
    let b = c.args.b in
    let j = c.loop-j.j in
    let columns = tile_stepped a.bytes.now b.bytes.now a.pitch b.pitch j _ c.column_steps-columns.ensures c.tile_in-stepped.ensures (omega arith) (omega arith) in
    let d = tile_less a.bytes.now (0 + 4 * j) a.pitch b.bytes.now (0 + 4 * j) b.pitch in
    let here = total_is d (values_are d columns c.turn_rows.ensures) c.weight.ensures in
    record {
      same = omega (arith, c.from-total.ensures, sum_next j (λ (j : ℕ). tile_sum (tile_less a.bytes.now (0 + 4 * j) a.pitch b.bytes.now (0 + 4 * j) b.pitch)));
      below = omega (arith, c.from-total.ensures);
    }
