-- Each of the first n is asked. Assumes nothing.
use Rattle.std.proofs.Common.{refl, rules}
use Rattle.limits.proofs.Chains.{all_over}
use Rattle.planning.specs.Refusals.{entry_holds}
use Rattle.planning.proofs.order_holds.Goals as goal

pub returns : goal.returns
returns c = all_over (entry_holds c.args.grid c.args.order.now) c.args.n c.all.ensures.ran refl (λ x b q k. search rules)
