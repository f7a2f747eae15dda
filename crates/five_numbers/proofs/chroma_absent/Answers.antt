-- Counted twice from the offset that was worked out for U. Assumes nothing.
use Rattle.std.proofs.Common.{◌≡◌, refl, ℕ, ◌≤◌, ℤ, ◌∙◌, List, arith}
use Rattle.std.specs.Int.{w32}
use Rattle.whole.specs.Interval.{is_within, read_within}
use Rattle.records.specs.declared.Record.{Record}
use Rattle.plane.specs.declared.Place.{Place}
use Rattle.absent_reads.specs.Absent.{place_absent}
use Rattle.tables.specs.Tables.{vector_offset}
use Rattle.best.specs.declared.Task.{Task}
use Rattle.best.specs.Best.{chroma_width, chroma_height, chroma_reference}
use Rattle.best.specs.Fair.{Fair}
use Rattle.best.specs.Laws.{width_in, height_in, chroma_reached, chroma_sized}
use Rattle.five_numbers.specs.Five.{plane_absent, chroma_absent}
use Rattle.five_numbers.specs.Laws.{plane_few}
use Rattle.five_numbers.proofs.Vector.{offset_is, same_count}
use Rattle.five_numbers.proofs.chroma_absent.Goals as goal

module _ {task : Task} {given : Record} (fair : Fair task given) where
  few : {w h : ℕ} → w ≡ chroma_width task given → h ≡ chroma_height task given → (w ≤ 16) × (h ≤ 16)
  few e f = let size = chroma_sized fair in rw (e, f) (size.wide, size.high)

-- a plane's count
counted : (task : Task) (given : Record) (samples : List ℕ) (own : Place) (x y : ℤ) {at : ℤ} {w h count : ℕ} → at ≡ vector_offset (chroma_reference task given) x y →
    w ≡ chroma_width task given → h ≡ chroma_height task given → count ≡ place_absent samples own at w h → count ≡ plane_absent task given own samples x y
unfolding plane_absent
counted task given samples own x y at e f told = told ∙ same_count samples {p = own} refl at e f

pub vector_offset-at-requires-clause-reached : goal.vector_offset-at-requires-clause-reached
vector_offset-at-requires-clause-reached c = rw c.chroma_reference.ensures (chroma_reached c.requires.0)

pub chroma_side-w-requires : goal.chroma_side-w-requires
chroma_side-w-requires c = read_within (is_within w32 (width_in c.requires.0) tt tt)

pub chroma_side-h-requires : goal.chroma_side-h-requires
chroma_side-h-requires c = read_within (is_within w32 (height_in c.requires.0) tt tt)

pub absent-in_u-requires-clause-w_bound : goal.absent-in_u-requires-clause-w_bound
absent-in_u-requires-clause-w_bound c =
    let fair = c.requires.0 in
    let w = rw ((is_within w32 (width_in fair) tt tt).same, (is_within w32 fair.shift_in tt tt).same) at c.chroma_side-w.ensures in
    let h = rw ((is_within w32 (height_in fair) tt tt).same, (is_within w32 fair.shift_in tt tt).same) at c.chroma_side-h.ensures in
    few fair w h

pub absent-in_v-requires-clause-w_bound : goal.absent-in_v-requires-clause-w_bound
absent-in_v-requires-clause-w_bound c =
    let fair = c.requires.0 in
    let w = rw ((is_within w32 (width_in fair) tt tt).same, (is_within w32 fair.shift_in tt tt).same) at c.chroma_side-w.ensures in
    let h = rw ((is_within w32 (height_in fair) tt tt).same, (is_within w32 fair.shift_in tt tt).same) at c.chroma_side-h.ensures in
    few fair w h

pub overflow_add-result : goal.overflow_add-result
overflow_add-result c =
    let s = c.args in
    let fair = c.requires.0 in
    let own = s.task.reference in
    let w = rw ((is_within w32 (width_in fair) tt tt).same, (is_within w32 fair.shift_in tt tt).same) at c.chroma_side-w.ensures in
    let h = rw ((is_within w32 (height_in fair) tt tt).same, (is_within w32 fair.shift_in tt tt).same) at c.chroma_side-h.ensures in
    let at = offset_is c.requires.1 c.chroma_reference.ensures c.vector_offset-at.type_inv c.vector_offset-at.ensures.value in
    let u = counted s.task s.given s.reference.u.now own.u s.x s.y at w h (rw (c.new.ensures.0, c.new.ensures.1) at c.absent-in_u.ensures) in
    let v = counted s.task s.given s.reference.v.now own.v s.x s.y at w h (rw (c.new-2.ensures.0, c.new-2.ensures.1) at c.absent-in_v.ensures) in
    omega (arith, plane_few fair own.u s.reference.u.now s.x s.y, plane_few fair own.v s.reference.v.now s.x s.y)

pub returns : goal.returns
unfolding chroma_absent
returns c =
    let s = c.args in
    let fair = c.requires.0 in
    let own = s.task.reference in
    let w = rw ((is_within w32 (width_in fair) tt tt).same, (is_within w32 fair.shift_in tt tt).same) at c.chroma_side-w.ensures in
    let h = rw ((is_within w32 (height_in fair) tt tt).same, (is_within w32 fair.shift_in tt tt).same) at c.chroma_side-h.ensures in
    let at = offset_is c.requires.1 c.chroma_reference.ensures c.vector_offset-at.type_inv c.vector_offset-at.ensures.value in
    let u = counted s.task s.given s.reference.u.now own.u s.x s.y at w h (rw (c.new.ensures.0, c.new.ensures.1) at c.absent-in_u.ensures) in
    let v = counted s.task s.given s.reference.v.now own.v s.x s.y at w h (rw (c.new-2.ensures.0, c.new-2.ensures.1) at c.absent-in_v.ensures) in
    omega arith
