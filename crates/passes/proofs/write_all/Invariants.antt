-- After i turns the words and indices of i blocks stand in front of the old tails.
use Rattle.passes.specs.FoldLaws.{Passed}
use Rattle.passes.proofs.write_all.Given as goal

abbrev pub invariant-loop-i : goal.invariant-loop-i
invariant-loop-i l = Passed l.s l.order l.vectors l.i l.fn.records l.records l.fn.indices l.indices l.slots
