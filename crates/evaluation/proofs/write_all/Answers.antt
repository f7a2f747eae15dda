-- After i turns the five numbers of i records stand in front of the old tail. Assumes nothing.
use mathlib.Core.Path.{◌≡◌, refl, sym, ap, subst, ◌∙◌}
use mathlib.Core.Bool.{true}
use mathlib.Core.List.{◌++◌}
use Prim.Native.Nat.{ℕ, ◌*◌, ◌/◌}
use native.Mathlib.Omega.{arith}
use lib.ListN.{length, drop}
use Rattle.limits.specs.Sizes.{words_per_record, numbers_per_best}
use Rattle.records.specs.declared.Record.{Record}
use Rattle.records.specs.Packing.{pairs_fit}
use Rattle.five_numbers.specs.Five.{five_of}
use Rattle.best.specs.Fair.{Fair}
use Rattle.evaluation.specs.Evaluated.{bests_upto}
use Rattle.evaluation.specs.BestsLaws.{written_long, written_next}
use Rattle.evaluation.proofs.write_all.Goals as goal

pub loop-i-init : goal.loop-i-init
unfolding bests_upto
loop-i-init c = refl

pub record_at-given-requires : goal.record_at-given-requires
record_at-given-requires c = let l = c.loop-i-test.true in omega arith

pub five_of-five-requires : goal.five_of-five-requires
five_of-five-requires c =
    let a = c.args in
    let e = c.record_at-given.ensures.value in
    subst (Fair a.task) (sym e)
    (c.requires.fair_all c.loop-i.i c.loop-i-test.true (subst (λ (r : Record). pairs_fit r ≡ true) e c.record_at-given.ensures.result_value))

pub overflow_mul-i : goal.overflow_mul-i
overflow_mul-i c = omega (arith, c.well_formed)

long : (c : goal.After-put-arg-1) → length c.loop-i.bests ≡ length c.args.bests.now
long c =
    let a = c.args in
    let room = c.requires.words_per_record_in_bounds in
    written_long a.task a.records.now a.source.luma.now a.source.u.now a.source.v.now a.reference.luma.now a.reference.u.now a.reference.v.now c.loop-i.i a.bests.now c.loop-i.invariant (omega arith)

pub put-requires : goal.put-requires
put-requires c =
    let a = c.args in
    let e = long c in
    let l = c.loop-i-test.true in
    let room = c.requires.words_per_record_in_bounds in
    omega arith

pub loop-i-preserved : goal.loop-i-preserved
loop-i-preserved c =
    let a = c.args in
    let q = c.loop-i in
    let found = c.five_of-five.ensures ∙ ap (λ (r : Record). five_of a.task r a.source.luma.now a.source.u.now a.source.v.now a.reference.luma.now a.reference.u.now a.reference.v.now) c.record_at-given.ensures.value in
    rw c.put.ensures (written_next a.task a.records.now a.source.luma.now a.source.u.now a.source.v.now a.reference.luma.now a.reference.u.now a.reference.v.now q.i a.bests.now q.invariant found)

pub returns : goal.returns
returns c =
    let a = c.args in
    let e : c.loop-i.i ≡ length a.records.now / words_per_record = omega arith in
    c.loop-i.invariant
    ∙ ap (λ (k : ℕ). bests_upto a.task a.records.now a.source.luma.now a.source.u.now a.source.v.now a.reference.luma.now a.reference.u.now a.reference.v.now k ++ drop (numbers_per_best * k) a.bests.now) e
