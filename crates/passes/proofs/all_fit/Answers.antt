-- So far every record fits; the first that doesn't ends the walk. Assumes nothing.
use Rattle.std.specs.Prelude.{refl}
use Rattle.std.proofs.Common.{sym}
use Rattle.std.proofs.lemmas.Bool.{not-true, not-false}
use Rattle.passes.specs.Fold.{slots_at, all_fit}
use Rattle.passes.specs.FoldLaws.{Turned, slots_next}
use Rattle.passes.proofs.FitLaws.{fit_next, misfit_at}
use Rattle.passes.proofs.all_fit.Goals as goal
use Rattle.passes.proofs.all_fit.Goals.{After-turn_at-turn}

pub loop-i-init : goal.loop-i-init
unfolding slots_at all_fit
loop-i-init c = (c.at_start-slots.ensures, refl)

turned : (c : After-turn_at-turn) → Turned c.args.s c.args.order.now c.args.vectors.now c.loop-i.i c.loop-i.slots c.turn_at-turn.result
turned c = record { here = c.loop-i.invariant.0; did = c.turn_at-turn.ensures }

pub returns-then-not-turn : goal.returns-then-not-turn
returns-then-not-turn c =
    sym (misfit_at (turned (goal.at.returns-then-not-turn c).After-turn_at-turn) c.args.n c.loop-i-test.true c.loop-i.invariant.1 (not-true _ c.if-not-turn.true))

pub loop-i-preserved : goal.loop-i-preserved
loop-i-preserved c =
    let k = turned (goal.at.loop-i-preserved c).After-turn_at-turn in
    (slots_next k, fit_next k c.loop-i.invariant.1 (not-false _ c.if-not-turn.false))
