-- Refused, and nothing lent is touched; or every record's best is written. Assumes nothing.
use Rattle.std.specs.Prelude.{◌≡◌, ◌*◌, ◌/◌, ◌++◌, length, drop}
use Rattle.std.proofs.Common.{sym, ap, subst, ◌∙◌}
use Rattle.std.proofs.lemmas.Result.{err_from_is_err_and}
use Rattle.refusals.specs.Numbers.{outcome}
use Rattle.refusals.specs.Laws.{done_on_0, refused_above_0}
use Rattle.limits.specs.Sizes.{words_per_record, numbers_per_best}
use Rattle.limits.specs.Refused.{kept_refused, kept_done}
use Rattle.best.specs.declared.Task.{Task}
use Rattle.evaluation.specs.Refusals.{refusal_of}
use Rattle.evaluation.specs.Evaluated.{bests_upto, evaluate_answer, evaluate_bests}
use Rattle.evaluation.specs.Asked.{FairAll}
use Rattle.evaluation.specs.Accepted.{accepted}
use Rattle.evaluation.proofs.evaluate.Goals as goal
use Rattle.evaluation.proofs.evaluate.Goals.{In_ok-accepted}

-- ---- refused
pub returns-in_err-accepted-clause-value : goal.returns-in_err-accepted-clause-value
unfolding evaluate_answer
returns-in_err-accepted-clause-value c =
    let p = err_from_is_err_and c.from_residual.result c.from_residual.ensures.1 in
    rw (p.1, p.2) c.in_err-accepted.ensures

pub returns-in_err-accepted-clause-bests_after : goal.returns-in_err-accepted-clause-bests_after
unfolding evaluate_bests
returns-in_err-accepted-clause-bests_after c = sym (kept_refused _ _ c.args.bests.now (refused_above_0 _ _ _ c.in_err-accepted.ensures))

-- ---- accepted
done : (c : In_ok-accepted) → let a = c.args in
    refusal_of a.request a.records.now (length a.source.luma.now) (length a.source.u.now) (length a.source.v.now) (length a.reference.luma.now) (length a.reference.u.now) (length a.reference.v.now) (length a.bests.now) ≡ 0
done c = done_on_0 _ _ _ c.in_ok-accepted.ensures

pub write_all-requires : goal.write_all-requires
write_all-requires c =
    let a = c.args in
    let k = accepted a.request a.records.now (length a.source.luma.now) (length a.source.u.now) (length a.source.v.now) (length a.reference.luma.now) (length a.reference.u.now) (length a.reference.v.now) (length a.bests.now) (done (goal.at.write_all-requires c).In_ok-accepted) in
    record { fair_all = subst (λ (t : Task). FairAll t a.records.now) (sym c.task_of.ensures) k.fair_all; words_per_record_in_bounds = k.room }

pub returns-clause-value : goal.returns-clause-value
unfolding evaluate_answer
returns-clause-value c = ap outcome (sym (done (goal.at.returns-clause-value c).In_ok-accepted))

pub returns-clause-bests_after : goal.returns-clause-bests_after
unfolding evaluate_bests
returns-clause-bests_after c =
    let a = c.args in
    let k = length a.records.now / words_per_record in
    c.write_all.ensures
    ∙ ap (λ (t : Task). bests_upto t a.records.now a.source.luma.now a.source.u.now a.source.v.now a.reference.luma.now a.reference.u.now a.reference.v.now k ++ drop (numbers_per_best * k) a.bests.now) c.task_of.ensures
    ∙ sym (kept_done _ _ a.bests.now (done (goal.at.returns-clause-bests_after c).In_ok-accepted))
