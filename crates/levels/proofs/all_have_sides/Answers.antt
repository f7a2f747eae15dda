-- Three planes, each as the definition has it. Assumes nothing.
use Rattle.whole.specs.Truth.{three_alike}
use Rattle.levels.specs.Refusals.{all_have_sides}
use Rattle.levels.proofs.all_have_sides.Goals as goal

pub returns : goal.returns
unfolding all_have_sides
returns c = three_alike c.has_sides.ensures c.has_sides-2.ensures c.has_sides-3.ensures
