-- A side is from 0 to 16. Assumes nothing.
use Rattle.std.specs.Int.{w32}
use Rattle.whole.specs.Interval.{is_within, read_within}
use Rattle.best.specs.Laws.{width_in}
use Rattle.best.proofs.width_of.Goals as goal

pub searched-requires : goal.searched-requires
searched-requires c = read_within (is_within w32 (width_in c.requires) tt tt)

pub returns : goal.returns
returns c = rw (c.is_negative.ensures, (is_within w32 (width_in c.requires) tt tt).same) at c.searched.ensures
