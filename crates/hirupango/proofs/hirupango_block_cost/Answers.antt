-- The number of what is given is the cost's, which is at most 9. Assumes nothing.
use Rattle.std.proofs.Common.{ap, ◌∙◌, to_z-of_z}
use Rattle.refusals.specs.Numbers.{answer_number}
use Rattle.refusals.specs.Laws.{number_back}
use Rattle.answer_bytes.specs.BlockCostLaws.{cost_small}
use Rattle.hirupango.proofs.hirupango_block_cost.Goals as goal

pub returns-clause-number : goal.returns-clause-number
returns-clause-number c =
    let f = c.ranges.measure in
    let g = c.ranges.width in
    let h = c.ranges.height in
    let i = c.ranges.a_pitch in
    let j = c.ranges.b_pitch in
    let answer = simp to_z-of_z at c.block_cost-outcome.ensures.answer in
    c.number.ensures ∙ ap answer_number answer ∙ number_back tt _ (cost_small _ _ _ _ _ _ _ _)
