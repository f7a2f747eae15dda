-- The number of what is given is the level's, which is at most 9. Assumes nothing.
use Rattle.std.proofs.Common.{ap, ◌∙◌, length}
use Rattle.refusals.specs.Numbers.{answer_number}
use Rattle.refusals.specs.Laws.{number_back}
use Rattle.levels.specs.Refusals.{level_answer}
use Rattle.hirupango.proofs.Bounds.{given_small}
use Rattle.hirupango.proofs.hirupango_level.Goals as goal

pub returns-clause-number : goal.returns-clause-number
returns-clause-number c =
    let a = c.args in
    let answer = level_answer a.frame (length a.luma.now) (length a.u.now) (length a.v.now) (length a.source_luma.now) (length a.source_u.now) (length a.source_v.now) in
    c.number.ensures ∙ ap answer_number c.level_numbers.ensures.value ∙ number_back tt _ (given_small answer (length a.planes.now))
