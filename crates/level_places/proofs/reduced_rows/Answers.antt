-- One level more has been counted. Assumes nothing.
use Rattle.std.proofs.Common.{◌≡◌, sym, ◌∙◌, ℕ, ◌+◌, arith}
use Rattle.level_places.specs.Counted.{none_reduced, one_more}
use Rattle.level_places.proofs.reduced_rows.Goals as goal

together : {a b A B : ℕ} → a ≡ A → b ≡ B → a + b ≡ A + B
together p q = cc

pub loop-above-init : goal.loop-above-init
loop-above-init c = record { counted = none_reduced _ _; few = omega arith }

pub loop-above-preserved : goal.loop-above-preserved
loop-above-preserved c =
    let most = c.level_rows-rows.ensures.upper_bound in
    record {
      counted = together c.loop-above.invariant.counted c.level_rows-rows.ensures.value ∙ sym (one_more _ _ _);
      few = omega arith;
    }
