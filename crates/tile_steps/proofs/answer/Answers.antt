-- A tile that is given has numbers from -255 to 255 alone, which is what the steps ask. Assumes nothing.
use Rattle.std.proofs.Common.{sym}
use Rattle.tile_input.specs.Given.{given_small}
use Rattle.tile_steps.proofs.answer.Goals as goal

pub show-requires : goal.show-requires
show-requires c = given_small c.args.text.now c.in-Ok.tile (sym c.in-Ok.ensures)
