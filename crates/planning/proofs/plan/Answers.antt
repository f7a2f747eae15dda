-- Refused, and nothing lent is touched; or written by the second pass. Assumes nothing.
use Rattle.std.specs.Prelude.{◌≡◌, ℕ, ◌*◌, ◌++◌, length, drop, Ok}
use Rattle.std.proofs.Common.{sym, ap, ◌∙◌}
use Rattle.std.proofs.lemmas.Result.{err_from_is_err_and}
use Rattle.refusals.specs.Laws.{done_on_0, refused_above_0, passed_on}
use Rattle.limits.specs.Sizes.{words_per_record}
use Rattle.limits.specs.Refused.{kept_refused, kept_done}
use Rattle.passes.specs.Fold.{words_upto, indices_upto}
use Rattle.planning.specs.Refusals.{refusal_of}
use Rattle.planning.specs.Planned.{made_of, plan_answer, plan_records, plan_indices}
use Rattle.planning.specs.Accepted.{Accepted, accepted, answered_done}
use Rattle.planning.proofs.plan.Goals as goal
use Rattle.planning.proofs.plan.Goals.{In_err-accepted, In_ok-accepted}

-- ---- refused
pub returns-in_err-accepted-clause-value : goal.returns-in_err-accepted-clause-value
unfolding plan_answer
returns-in_err-accepted-clause-value c =
    let p = err_from_is_err_and c.from_residual.result c.from_residual.ensures.1 in
    rw (p.1, p.2) (passed_on _ (made_of c.args.s) _ _ c.in_err-accepted.ensures)

pub returns-in_err-accepted-clause-records_after : goal.returns-in_err-accepted-clause-records_after
unfolding plan_records
returns-in_err-accepted-clause-records_after c = sym (kept_refused _ _ c.args.records.now (refused_above_0 _ _ _ c.in_err-accepted.ensures))

pub returns-in_err-accepted-clause-indices_after : goal.returns-in_err-accepted-clause-indices_after
unfolding plan_indices
returns-in_err-accepted-clause-indices_after c = sym (kept_refused _ _ c.args.indices.now (refused_above_0 _ _ _ c.in_err-accepted.ensures))

-- ---- accepted
done : (c : In_ok-accepted) →
    refusal_of c.args.s c.args.order.now c.args.vectors.now (length c.args.samples.luma.now) (length c.args.samples.u.now) (length c.args.samples.v.now) (length c.args.records.now) (length c.args.indices.now) ≡ 0
done c = done_on_0 _ _ _ c.in_ok-accepted.ensures

taken : (c : In_ok-accepted) → Accepted c.args.s c.args.order.now c.args.vectors.now (length c.args.records.now) (length c.args.indices.now)
taken c =
    accepted c.args.s c.args.order.now c.args.vectors.now (length c.args.samples.luma.now) (length c.args.samples.u.now) (length c.args.samples.v.now) (length c.args.records.now) (length c.args.indices.now)
    (done c)

pub write_all-requires-clause-served : goal.write_all-requires-clause-served
write_all-requires-clause-served c =
    rw c.count_of-n.ensures.value (taken (goal.at.write_all-requires-clause-served c).In_ok-accepted).serves

pub write_all-requires-clause-n_in_bounds : goal.write_all-requires-clause-n_in_bounds
write_all-requires-clause-n_in_bounds c =
    let k = taken (goal.at.write_all-requires-clause-n_in_bounds c).In_ok-accepted in
    rw c.count_of-n.ensures.value (k.room, k.rows)

pub made_of-requires : goal.made_of-requires
made_of-requires c = (taken (goal.at.made_of-requires c).In_ok-accepted).framed

pub returns-clause-value : goal.returns-clause-value
unfolding plan_answer
returns-clause-value c = ap Ok c.made_of.ensures ∙ sym (answered_done (made_of c.args.s) (done (goal.at.returns-clause-value c).In_ok-accepted))

pub returns-clause-records_after : goal.returns-clause-records_after
unfolding plan_records
returns-clause-records_after c =
    c.write_all.ensures.records_after
    ∙ ap (λ (k : ℕ). words_upto c.args.s c.args.order.now c.args.vectors.now k ++ drop (words_per_record * k) c.args.records.now) c.count_of-n.ensures.value
    ∙ sym (kept_done _ _ c.args.records.now (done (goal.at.returns-clause-records_after c).In_ok-accepted))

pub returns-clause-indices_after : goal.returns-clause-indices_after
unfolding plan_indices
returns-clause-indices_after c =
    c.write_all.ensures.indices_after
    ∙ ap (λ (k : ℕ). indices_upto c.args.s c.args.order.now c.args.vectors.now k ++ drop k c.args.indices.now) c.count_of-n.ensures.value
    ∙ sym (kept_done _ _ c.args.indices.now (done (goal.at.returns-clause-indices_after c).In_ok-accepted))
