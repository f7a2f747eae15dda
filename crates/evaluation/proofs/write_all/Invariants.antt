-- After i turns the five numbers of i records stand in front of the old tail. Assumes nothing.
use Rattle.evaluation.specs.BestsLaws.{Written}
use Rattle.evaluation.proofs.write_all.Given as goal

abbrev pub invariant-loop-i : goal.invariant-loop-i
invariant-loop-i l =
    Written l.task l.records l.source.luma.now l.source.u.now l.source.v.now l.reference.luma.now l.reference.u.now l.reference.v.now l.i l.initial.bests l.bests
