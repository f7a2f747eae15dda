-- Each turn stores the entry that it comes to. Assumes nothing.
use Rattle.std.proofs.Common.{length, arith, to_z-of_z}
use Rattle.std.proofs.lemmas.Grind.{common_steps}
use Rattle.finishing.specs.Finish.{storing}
use Rattle.finishing.specs.Written.{none_written, one_more}
use Rattle.finishing.proofs.Fives.{turn}
use Rattle.finishing.proofs.write_vectors.Goals as goal

pub loop-index-init : goal.loop-index-init
loop-index-init c = none_written _ _

pub loop-index-preserved : goal.loop-index-preserved
loop-index-preserved c =
    let entry = turn c.args.bests.now c.loop-index.yielded c.into_iter-index-iterator.result c.loop-index.index-iterator c.next.new.self (cc) (cc) c.loop-index.yielded_by c.requires.five_each c.in-Some.index c.in-Some.field-0-1 c.in-Some.is c.next.ensures.steps in
    let more = one_more (storing c.args.indices.now c.args.bests.now) c.args.vectors.now (length c.loop-index.yielded) in
    grind (arith, common_steps, to_z-of_z)
