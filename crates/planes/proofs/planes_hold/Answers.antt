-- Five tests, each as the definition has it. Assumes nothing.
use Rattle.whole.specs.Truth.{five_alike}
use Rattle.planes.specs.Planes.{planes_hold}
use Rattle.planes.proofs.planes_hold.Goals as goal

pub returns : goal.returns
unfolding planes_hold
returns c = five_alike c.within_limits.ensures c.within_limits-2.ensures c.within_limits-3.ensures c.chroma_holds.ensures c.chroma_holds-2.ensures
