-- The number of the answer is the one that it was refused by, which is at most 9. Assumes nothing.
use Rattle.std.proofs.Common.{ap, ◌∙◌}
use Rattle.refusals.specs.Numbers.{answer_number}
use Rattle.refusals.specs.Laws.{number_back}
use Rattle.hirupango.proofs.Bounds.{evaluate_small}
use Rattle.hirupango.proofs.hirupango_evaluate.Goals as goal

pub returns-clause-number : goal.returns-clause-number
returns-clause-number c = c.number.ensures ∙ ap answer_number c.evaluate.ensures.value ∙ number_back tt _ (evaluate_small _ _ _ _ _ _ _ _ _)
