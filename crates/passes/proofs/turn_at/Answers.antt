-- The stages of a turn, one call each. Assumes nothing.
use Rattle.passes.specs.FoldLaws.{turn_made}
use Rattle.passes.proofs.turn_at.Goals as goal

pub returns : goal.returns
returns c =
    turn_made c.args.s c.args.order.now c.args.vectors.now c.args.i c.args.slots
    c.index_at.ensures
    c.block_at-block.ensures
    c.plan_block-step.ensures
    c.record_fits.ensures
    c.words_of.ensures
