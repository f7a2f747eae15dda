-- The columns passed are stepped.
use Rattle.distance.specs.Parts.{Stepped}
use Rattle.distance.proofs.column_steps.Given as goal

abbrev pub invariant-loop-x : goal.invariant-loop-x
invariant-loop-x l = Stepped l.x l.fn.a.bytes.now 0 l.fn.a.pitch l.fn.b.bytes.now 0 l.fn.b.pitch l.out
