-- Each turn puts the words of one entry more. Assumes nothing.
use Rattle.std.proofs.Common.{◌≡◌, length}
use Rattle.finishing.specs.Finish.{written_upto, putting}
use Rattle.finishing.proofs.write_output.Given as goal

abbrev pub invariant-loop-index : goal.invariant-loop-index
invariant-loop-index l = l.output ≡ written_upto (putting l.indices l.bests l.diagonal) l.initial.output (length l.yielded)
