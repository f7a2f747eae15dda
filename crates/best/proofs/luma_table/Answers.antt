-- The source's samples are gathered once, and the table is that of the block that they are. Assumes nothing.
use Rattle.std.proofs.Common.{◌≡◌, ◌*◌, ◌≤◌, ◌∙◌, ℕ, nat_abs, arith}
use Rattle.records.specs.declared.Record.{Record}
use Rattle.plane.specs.Samples.{source_at, gathered}
use Rattle.plane.specs.Reads.{area_small}
use Rattle.tables.specs.Laws.{natural_most, most_small}
use Rattle.best.specs.declared.Task.{Task}
use Rattle.best.specs.Best.{width_of, height_of, luma_reference, luma_table}
use Rattle.best.specs.Fair.{Fair}
use Rattle.best.specs.Laws.{counts_read, natural_read, width_counts, height_counts, full_sized, searched_sized, luma_reached, luma_most, table_of_samples}
use Rattle.best.proofs.luma_table.Goals as goal
use Rattle.best.proofs.luma_table.Goals.{After-costs}

area : {task : Task} {given : Record} {w h : ℕ} → Fair task given → w ≡ width_of task given → h ≡ height_of task given → h * w ≤ 256
area fair e f = let size = searched_sized fair in rw (e, f) (area_small _ _ size.wide size.high)

pub natural-requires-2 : goal.natural-requires-2
natural-requires-2 c = counts_read (width_counts c.requires.0)

pub natural-requires-3 : goal.natural-requires-3
natural-requires-3 c = counts_read (height_counts c.requires.0)

pub overflow_mul-h : goal.overflow_mul-h
overflow_mul-h c = omega (arith, area c.requires.0 c.width_of-w.ensures c.height_of-h.ensures)

pub source_block-block-requires-clause-pitch_bound : goal.source_block-block-requires-clause-pitch_bound
source_block-block-requires-clause-pitch_bound c =
    let pitch = c.requires.0.source_luma.pitch_in in
    rw (natural_read c.natural.ensures pitch) (natural_most pitch, area c.requires.0 c.width_of-w.ensures c.height_of-h.ensures)

pub source_block-block-requires-clause-le_w : goal.source_block-block-requires-clause-le_w
source_block-block-requires-clause-le_w c =
    let fair = c.requires.0 in
    let size = full_sized fair in
    rw (natural_read c.natural-2.ensures (width_counts fair), natural_read c.natural-3.ensures (height_counts fair)) ((omega (arith, size.some), size.wide), size.high)

pub offsets-offsets-requires : goal.offsets-offsets-requires
offsets-offsets-requires c =
    let fair = c.requires.0 in
    (rw c.luma_reference-reference.ensures (luma_reached fair), rw c.choice_of-choice.ensures (fair.served c.requires.1))

pub costs-requires-clause-packed_block : goal.costs-requires-clause-packed_block
costs-requires-clause-packed_block c =
    let fair = c.requires.0 in
    let size = searched_sized fair in
    let small = area fair c.width_of-w.ensures c.height_of-h.ensures in (
      record {
        wide = rw c.width_of-w.ensures size.wide;
        some = rw c.height_of-h.ensures (omega (arith, size.tall));
        high = rw c.height_of-h.ensures size.high;
        held = omega (arith, c.source_block-block.type_inv);
      },
      (rw (c.new-view.ensures.1, c.luma_reference-reference.ensures) fair.reference_luma, c.offsets-offsets.ensures.nearby),
    )

found : (c : After-costs) → let s = c.args in c.costs.result ≡ luma_table s.task s.given s.luma.now s.reference_luma.now
unfolding luma_table
found c =
    let s = c.args in
    let fair = c.requires.0 in
    let size = searched_sized fair in
    let w = c.width_of-w.ensures in
    let h = c.height_of-h.ensures in
    let source : c.source_block-block.result ≡ gathered (height_of s.task s.given * width_of s.task s.given) (source_at s.luma.now (nat_abs s.task.source.luma.pitch) s.given.full s.given.overlay (nat_abs s.task.block.x) (nat_abs s.task.block.y)) =
    rw (natural_read c.natural.ensures fair.source_luma.pitch_in, natural_read c.natural-2.ensures (width_counts fair), natural_read c.natural-3.ensures (height_counts fair), w, h) at c.source_block-block.ensures in
    rw (w, h, c.new-view.ensures.0, c.new-view.ensures.1, c.offsets-offsets.ensures.value, c.luma_reference-reference.ensures, c.choice_of-choice.ensures) at c.costs.ensures
    ∙ table_of_samples (fair.served c.requires.1) s.task.measure _ _ s.reference_luma.now s.task.reference.luma (luma_reference s.task s.given) _ size.wide size.high source

pub returns-clause-value : goal.returns-clause-value
returns-clause-value c = found (goal.at.returns-clause-value c).After-costs

-- Costs are small, of bytes.
pub returns-clause-small : goal.returns-clause-small
returns-clause-small c =
    let s = c.args in
    rw (found (goal.at.returns-clause-small c).After-costs)
    (most_small (luma_most c.requires.0 s.luma.now s.reference_luma.now (λ n. omega (arith, c.type_inv.luma n)) (λ n. omega (arith, c.type_inv.reference_luma n))) (omega arith))
