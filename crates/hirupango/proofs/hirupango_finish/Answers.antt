-- The number of the answer is the one that it was refused by, which is at most 9. Assumes nothing.
use Rattle.std.proofs.Common.{ap, ◌∙◌, to_z-of_z}
use Rattle.refusals.specs.Numbers.{answer_number}
use Rattle.refusals.specs.Laws.{number_back}
use Rattle.hirupango.proofs.Bounds.{finish_small}
use Rattle.hirupango.proofs.hirupango_finish.Goals as goal

pub returns-clause-number : goal.returns-clause-number
returns-clause-number c =
    let f = c.ranges.nx in
    let g = c.ranges.ny in
    let h = c.ranges.diagonal in
    let answer = simp to_z-of_z at c.finish.ensures.answer in
    c.number.ensures ∙ ap answer_number answer ∙ number_back tt _ (finish_small _ _ _ _ _ _ _ _)
