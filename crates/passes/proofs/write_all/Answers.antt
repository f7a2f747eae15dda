-- After i turns the words and indices of i blocks stand in front of the old tails. Assumes nothing.
use Rattle.std.specs.Prelude.{◌≡◌, refl, ◌*◌, ◌<◌, List, ◌++◌, ℕ, ℤ, pos, drop}
use Rattle.std.proofs.Common.{arith, ap, ◌∙◌, FitsSigned, to_z-of_z}
use Rattle.std.specs.Int.{w32}
use Rattle.std.proofs.Math.Seq.{paste}
use Rattle.limits.specs.Sizes.{words_per_record}
use Rattle.passes.specs.Fold.{word_list, slots_at, words_upto, indices_upto}
use Rattle.passes.specs.FoldLaws.{Turned, index_is, index_small, passed_more}
use Rattle.passes.proofs.write_all.Goals as goal
use Rattle.passes.proofs.write_all.Goals.{After-turn_at-turn}

pub loop-i-init : goal.loop-i-init
unfolding slots_at words_upto indices_upto
loop-i-init c = record { here = c.at_start-slots.ensures; words_are = refl; indices_are = refl }

index_below : (c : After-turn_at-turn) → c.turn_at-turn.result.index < 4194304
index_below c =
    let t : Turned c.args.s c.args.order.now c.args.vectors.now c.loop-i.i c.loop-i.slots c.turn_at-turn.result =
    record { here = c.loop-i.invariant.here; did = c.turn_at-turn.ensures }
    in
    let e = index_is t in
    let l = index_small (c.requires.served c.loop-i.i c.loop-i-test.true).listed in
    omega arith

index_fits : (c : After-turn_at-turn) → FitsSigned w32 (pos c.turn_at-turn.result.index)
index_fits c = let l = index_below c in record { sfits = omega arith }

pub overflow_cast-indices : goal.overflow_cast-indices
overflow_cast-indices c = index_fits (goal.at.overflow_cast-indices c).After-turn_at-turn

pub loop-i-preserved : goal.loop-i-preserved
loop-i-preserved c =
    let r = c.turn_at-turn.result in
    let written : c.put.new.list ≡ paste c.loop-i.records (words_per_record * c.loop-i.i) (word_list c.turn_at-turn.result.words) words_per_record =
    c.put.ensures ∙ ap (λ (l : List ℤ). paste c.loop-i.records (words_per_record * c.loop-i.i) l words_per_record) c.listed.ensures in
    rw (written, to_z-of_z (index_fits (goal.at.loop-i-preserved c).After-turn_at-turn))
    (passed_more c.loop-i.invariant (omega (arith, c.requires.n_in_bounds.1, c.loop-i-test.true)) c.turn_at-turn.ensures)

pub returns-clause-records_after : goal.returns-clause-records_after
returns-clause-records_after c =
    let e : c.loop-i.i ≡ c.args.n = omega arith in
    c.loop-i.invariant.words_are
    ∙ ap (λ (k : ℕ). words_upto c.args.s c.args.order.now c.args.vectors.now k ++ drop (words_per_record * k) c.args.records.now) e

pub returns-clause-indices_after : goal.returns-clause-indices_after
returns-clause-indices_after c =
    let e : c.loop-i.i ≡ c.args.n = omega arith in
    c.loop-i.invariant.indices_are ∙ ap (λ (k : ℕ). indices_upto c.args.s c.args.order.now c.args.vectors.now k ++ drop k c.args.indices.now) e
