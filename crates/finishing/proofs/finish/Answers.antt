-- Who is let through by every test is served: its entries can be written, and scored. Assumes nothing.
use Rattle.std.proofs.Common.{◌≡◌, length, arith, to_z-of_z}
use Rattle.finishing.specs.Finish.{finish_answer, finish_vectors, finish_output}
use Rattle.finishing.specs.Served.{passed, placed, scored}
use Rattle.finishing.proofs.Casts.{casts}
use Rattle.finishing.proofs.finish.Goals as goal

pub write_vectors-requires : goal.write_vectors-requires
unfolding finish_answer
write_vectors-requires c =
    let s = c.args in
    let none : finish_answer s.nx s.ny s.indices.now s.bests.now s.diagonal s.output_asked (length s.vectors.now) (length s.output.now) ≡ 0 = grind (arith, casts) in
    let p = passed s.nx s.ny s.indices.now s.bests.now s.diagonal s.output_asked (length s.vectors.now) (length s.output.now) none in
    placed p 3 s.vectors.now (λ n h. let held = p.held_is in omega arith)

pub write_output-requires-clause-placed : goal.write_output-requires-clause-placed
unfolding finish_answer
write_output-requires-clause-placed c =
    let s = c.args in
    let none : finish_answer s.nx s.ny s.indices.now s.bests.now s.diagonal s.output_asked (length s.vectors.now) (length s.output.now) ≡ 0 = grind (arith, casts) in
    let p = passed s.nx s.ny s.indices.now s.bests.now s.diagonal s.output_asked (length s.vectors.now) (length s.output.now) none in
    placed p 2 s.output.now (λ n h. let room = p.room_is c.if-output_asked-2.true in omega arith)

pub write_output-requires-clause-scored : goal.write_output-requires-clause-scored
unfolding finish_answer
write_output-requires-clause-scored c =
    let s = c.args in
    let none : finish_answer s.nx s.ny s.indices.now s.bests.now s.diagonal s.output_asked (length s.vectors.now) (length s.output.now) ≡ 0 = grind (arith, casts) in
    let p = passed s.nx s.ny s.indices.now s.bests.now s.diagonal s.output_asked (length s.vectors.now) (length s.output.now) none in
    let d = c.ranges.diagonal in simp to_z-of_z (scored p)

pub returns-then-any_stray-clause-answer : goal.returns-then-any_stray-clause-answer
unfolding finish_answer finish_vectors finish_output
returns-then-any_stray-clause-answer c = grind (arith, casts)

pub returns-then-any_stray-clause-stored : goal.returns-then-any_stray-clause-stored
unfolding finish_answer finish_vectors finish_output
returns-then-any_stray-clause-stored c = grind (arith, casts)

pub returns-then-any_stray-clause-written : goal.returns-then-any_stray-clause-written
unfolding finish_answer finish_vectors finish_output
returns-then-any_stray-clause-written c = grind (arith, casts)

pub returns-then-any_wild-clause-answer : goal.returns-then-any_wild-clause-answer
unfolding finish_answer finish_vectors finish_output
returns-then-any_wild-clause-answer c = grind (arith, casts)

pub returns-then-output-blocks-clause-answer : goal.returns-then-output-blocks-clause-answer
unfolding finish_answer finish_vectors finish_output
returns-then-output-blocks-clause-answer c = grind (arith, casts)

pub returns-then-output-blocks-clause-stored : goal.returns-then-output-blocks-clause-stored
unfolding finish_answer finish_vectors finish_output
returns-then-output-blocks-clause-stored c = grind (arith, casts)

pub returns-then-output-blocks-clause-written : goal.returns-then-output-blocks-clause-written
unfolding finish_answer finish_vectors finish_output
returns-then-output-blocks-clause-written c = grind (arith, casts)

pub returns-then-output_asked-2-clause-answer : goal.returns-then-output_asked-2-clause-answer
unfolding finish_answer finish_vectors finish_output
returns-then-output_asked-2-clause-answer c = grind (arith, casts)

pub returns-then-output_asked-2-clause-stored : goal.returns-then-output_asked-2-clause-stored
unfolding finish_answer finish_vectors finish_output
returns-then-output_asked-2-clause-stored c = grind (arith, casts)

pub returns-then-output_asked-2-clause-written : goal.returns-then-output_asked-2-clause-written
unfolding finish_answer finish_vectors finish_output
returns-then-output_asked-2-clause-written c = grind (arith, casts)

pub returns-else-output_asked-2-clause-answer : goal.returns-else-output_asked-2-clause-answer
unfolding finish_answer finish_vectors finish_output
returns-else-output_asked-2-clause-answer c = grind (arith, casts)

pub returns-else-output_asked-2-clause-stored : goal.returns-else-output_asked-2-clause-stored
unfolding finish_answer finish_vectors finish_output
returns-else-output_asked-2-clause-stored c = grind (arith, casts)
