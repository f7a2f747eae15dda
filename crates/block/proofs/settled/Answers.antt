-- Slot 1 made active and written, or slot 0 made active. Assumes nothing.
use Rattle.block.proofs.Stages.{moved_settled, inside_settled}
use Rattle.block.proofs.settled.Goals as goal

pub returns-then-moves : goal.returns-then-moves
returns-then-moves c =
    moved_settled c.args.planes c.args.negative c.args.spot c.args.slots c.args.moves c.if-moves.true c.moved-switched.ensures c.filled.ensures

pub returns-else-moves : goal.returns-else-moves
returns-else-moves c = inside_settled c.args.planes c.args.negative c.args.spot c.args.slots c.args.moves c.if-moves.false c.inside.ensures
