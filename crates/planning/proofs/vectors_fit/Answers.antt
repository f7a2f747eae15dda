-- Each of the first n is asked. Assumes nothing.
use Rattle.std.proofs.Common.{refl, rules}
use Rattle.limits.proofs.Chains.{all_over}
use Rattle.planning.specs.Refusals.{vector_fits}
use Rattle.planning.proofs.vectors_fit.Goals as goal

pub returns : goal.returns
returns c = all_over (vector_fits c.args.vectors.now) c.args.n c.all.ensures.ran refl (λ x b q k. search rules)
