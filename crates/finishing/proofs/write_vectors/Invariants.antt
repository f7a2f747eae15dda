-- Each turn stores one entry more. Assumes nothing.
use Rattle.std.proofs.Common.{◌≡◌, length}
use Rattle.finishing.specs.Finish.{written_upto, storing}
use Rattle.finishing.proofs.write_vectors.Given as goal

abbrev pub invariant-loop-index : goal.invariant-loop-index
invariant-loop-index l = l.vectors ≡ written_upto (storing l.indices l.bests) l.initial.vectors (length l.yielded)
