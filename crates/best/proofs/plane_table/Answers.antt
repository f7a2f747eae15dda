-- The source's samples are gathered once, and the table is that of the block that they are. Assumes nothing.
use Rattle.std.proofs.Common.{◌≡◌, ◌*◌, ◌∙◌, ℕ, ℤ, nat_abs, arith}
use Rattle.std.specs.Int.{w32}
use mir.Val.{to_z, of_z}
use Rattle.whole.specs.Interval.{is_within, read_within}
use Rattle.plane.specs.Samples.{placed_from, nth, gathered}
use Rattle.plane.specs.Reads.{area_small}
use Rattle.records.specs.declared.Record.{Record}
use Rattle.tables.specs.Laws.{natural_most}
use Rattle.limits.specs.Limits.{shifted_by}
use Rattle.best.specs.declared.Task.{Task}
use Rattle.best.specs.Best.{chroma_width, chroma_height, chroma_reference, chroma_offsets, plane_table}
use Rattle.best.specs.Fair.{Fair}
use Rattle.best.specs.Laws.{natural_read, width_in, height_in, chroma_sized, plane_most, table_of_block}
use Rattle.best.proofs.plane_table.Goals as goal
use Rattle.best.proofs.plane_table.Goals.{After-costs}

-- the sides that the machine works out
abbrev read : ℤ → ℤ
read z = to_z w32 (of_z w32 z)

module _ {task : Task} {given : Record} (fair : Fair task given) where
  w_is : {n : ℕ} → n ≡ nat_abs (shifted_by (read task.block.x) (read task.shift)) → n ≡ chroma_width task given
  w_is e = rw ((is_within w32 (width_in fair) tt tt).same, (is_within w32 fair.shift_in tt tt).same) at e

  h_is : {n : ℕ} → n ≡ nat_abs (shifted_by (read task.block.y) (read task.shift)) → n ≡ chroma_height task given
  h_is e = rw ((is_within w32 (height_in fair) tt tt).same, (is_within w32 fair.shift_in tt tt).same) at e

pub chroma_side-w-requires : goal.chroma_side-w-requires
chroma_side-w-requires c = read_within (is_within w32 (width_in c.requires.fair.0) tt tt)

pub chroma_side-h-requires : goal.chroma_side-h-requires
chroma_side-h-requires c = read_within (is_within w32 (height_in c.requires.fair.0) tt tt)

pub gather_from-block-requires : goal.gather_from-block-requires
gather_from-block-requires c =
    let fair = c.requires.fair.0 in
    let size = chroma_sized fair in
    let pitch = c.requires.placed.0.pitch_in in
    rw (natural_read c.natural.ensures pitch, w_is fair c.chroma_side-w.ensures, h_is fair c.chroma_side-h.ensures) (natural_most pitch, (size.wide, size.high))

pub costs-requires-clause-packed_block : goal.costs-requires-clause-packed_block
costs-requires-clause-packed_block c =
    let fair = c.requires.fair.0 in
    let size = chroma_sized fair in
    let small = area_small _ _ size.wide size.high in
    let w = w_is fair c.chroma_side-w.ensures in
    let h = h_is fair c.chroma_side-h.ensures in (
      record {
        wide = rw w size.wide;
        some = rw h (omega (arith, size.tall));
        high = rw h size.high;
        held = rw (w, h) (omega (arith, small, c.gather_from-block.type_inv));
      },
      (rw c.new-view.ensures.1 c.requires.placed.1, c.requires.offsets_value.1),
    )

found : (c : After-costs) → let s = c.args in c.costs.result ≡ plane_table s.task s.given s.origin s.source s.own s.samples.now s.reference.now
unfolding plane_table chroma_offsets
found c =
    let s = c.args in
    let fair = c.requires.fair.0 in
    let size = chroma_sized fair in
    let w = w_is fair c.chroma_side-w.ensures in
    let h = h_is fair c.chroma_side-h.ensures in
    let source : c.gather_from-block.result ≡ gathered (chroma_height s.task s.given * chroma_width s.task s.given) (nth (chroma_width s.task s.given) (placed_from s.samples.now s.origin (nat_abs s.source.pitch))) =
    rw (natural_read c.natural.ensures c.requires.placed.0.pitch_in, w, h) at c.gather_from-block.ensures in
    rw (w, h, c.new-view.ensures.0, c.new-view.ensures.1, c.requires.offsets_value.0, c.choice_of-choice.ensures) at c.costs.ensures
    ∙ table_of_block (fair.served c.requires.fair.1) s.task.measure _ _ s.reference.now s.own (chroma_reference s.task s.given) _ size.wide size.high source

pub returns-clause-value : goal.returns-clause-value
returns-clause-value c = found (goal.at.returns-clause-value c).After-costs

-- Costs are small, of bytes.
pub returns-clause-most : goal.returns-clause-most
returns-clause-most c =
    let s = c.args in
    rw (found (goal.at.returns-clause-most c).After-costs)
    (plane_most c.requires.fair.0 s.origin s.source s.own s.samples.now s.reference.now (λ n. omega (arith, c.type_inv.samples n)) (λ n. omega (arith, c.type_inv.reference n)))
