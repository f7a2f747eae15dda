-- Counted from the offset at which the vector's luma was compared. Assumes nothing.
use Rattle.std.proofs.Common.{ap, ◌∙◌}
use Rattle.tables.specs.declared.Reference.{Reference}
use Rattle.best.specs.Laws.{searched_sized}
use Rattle.five_numbers.specs.Five.{luma_absent}
use Rattle.five_numbers.proofs.Vector.{offset_is, same_count}
use Rattle.five_numbers.proofs.luma_absent.Goals as goal

pub absent-requires-clause-w_bound : goal.absent-requires-clause-w_bound
absent-requires-clause-w_bound c =
    let size = searched_sized c.requires.0 in
    rw (c.width_of-w.ensures, c.height_of-h.ensures) (size.wide, size.high)

pub returns : goal.returns
unfolding luma_absent
returns c =
    let at = offset_is c.requires.1 c.luma_reference-reference.ensures c.vector_offset-at.type_inv c.vector_offset-at.ensures.value in
    (rw (c.new-view.ensures.0, c.new-view.ensures.1) at c.absent.ensures)
    ∙ same_count c.args.reference_luma.now (ap (λ (r : Reference). r.place) c.luma_reference-reference.ensures) at c.width_of-w.ensures c.height_of-h.ensures
