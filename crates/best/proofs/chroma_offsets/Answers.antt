-- The offsets are U's. Assumes nothing.
use Rattle.best.specs.Best.{chroma_offsets}
use Rattle.best.specs.Laws.{chroma_reached}
use Rattle.best.proofs.chroma_offsets.Goals as goal

pub offsets-requires : goal.offsets-requires
offsets-requires c =
    let fair = c.requires.0 in
    (rw c.chroma_reference-reference.ensures (chroma_reached fair), rw c.choice_of-choice.ensures (fair.served c.requires.1))

pub returns-clause-value : goal.returns-clause-value
unfolding chroma_offsets
returns-clause-value c = rw (c.chroma_reference-reference.ensures, c.choice_of-choice.ensures) at c.offsets.ensures.value
