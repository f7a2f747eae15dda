-- A candidate's slot lies in the table, and takes the candidate's offset. Assumes nothing.
use Rattle.std.proofs.Common.{◌≡◌, ◌+◌, ◌*◌, pos, sym, ◌∙◌, arith}
use Rattle.std.specs.Int.{w32, w64}
use Rattle.whole.specs.Signed.{got}
use Rattle.whole.specs.Interval.{is_within, read_within}
use Rattle.choosing.specs.Choosing.{columns_of, rows_of, slot_of}
use Rattle.tables.specs.Tables.{vector_offset}
use Rattle.tables.specs.Laws.{inside, row_none, row_next, predictor_first, rows_next, all_rows, nearby_none, nearby_next}
use Rattle.tables.proofs.Reference.offsets.Goals as goal

pub loop-j-init : goal.loop-j-init
loop-j-init c =
    let s = c.args in
    let r = c.requires.1.ranged in
    let e = rw ((is_within w32 r.x tt tt).same, (is_within w32 r.y tt tt).same) at c.vector_offset.ensures.value in
    record {
      same = predictor_first (pos 0) s.choice (vector_offset s.self) (got w64 c.vector_offset.type_inv e);
      near = nearby_next 0 nearby_none (read_within (is_within w64 c.vector_offset.ensures.near tt tt));
    }

pub loop-i-init : goal.loop-i-init
loop-i-init c = let inv = c.loop-j.invariant in record { same = inv.same ∙ sym (row_none _ _ _ _ _); near = inv.near }

pub window_offset-requires-clause-served : goal.window_offset-requires-clause-served
window_offset-requires-clause-served c =
    let here = inside {j = c.loop-j.j} {i = c.loop-i.i} c.requires.1.narrow (omega (arith, c.row_count-rows.ensures)) (omega (arith, c.column_count-columns.ensures)) in
    (c.requires.1, (here.row, here.column))

pub loop-i-preserved : goal.loop-i-preserved
unfolding slot_of
loop-i-preserved c =
    let inv = c.loop-i.invariant in
    let e = got w64 c.window_offset.type_inv c.window_offset.ensures.value in
    let slot : 1 + c.loop-j.j * c.column_count-columns.result + c.loop-i.i ≡ slot_of c.args.choice c.loop-j.j c.loop-i.i = rw c.column_count-columns.ensures in
    record {
      same = rw (e, inv.same, slot) (sym (row_next _ _ _ _ _ _));
      near = nearby_next _ inv.near (read_within (is_within w64 c.window_offset.ensures.near tt tt));
    }

pub loop-j-preserved : goal.loop-j-preserved
loop-j-preserved c =
    let inv = c.loop-i.invariant in
    let all : c.loop-i.i ≡ columns_of c.args.choice = omega (arith, c.column_count-columns.ensures) in
    record { same = inv.same ∙ rw all (sym (rows_next _ _ _ _ _)); near = inv.near }

pub returns-clause-value : goal.returns-clause-value
returns-clause-value c =
    let all : c.loop-j.j ≡ rows_of c.args.choice = omega (arith, c.row_count-rows.ensures) in
    rw all at c.loop-j.invariant.same ∙ all_rows _ _ _
