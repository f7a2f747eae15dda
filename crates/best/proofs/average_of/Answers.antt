-- The sides are of one of the five sizes, whose areas are powers of two. Assumes nothing.
use Rattle.std.specs.Int.{w32}
use Rattle.whole.specs.Signed.{got}
use Rattle.tables.specs.Laws.{natural_most}
use Rattle.best.specs.Laws.{natural_read, searched_sized}
use Rattle.best.proofs.average_of.Goals as goal

pub average-requires-clause-pitch_bound : goal.average-requires-clause-pitch_bound
average-requires-clause-pitch_bound c =
    let size = searched_sized c.requires in
    let pitch = c.requires.source_luma.pitch_in in
    rw (c.width_of-w.ensures, c.height_of-h.ensures, natural_read c.natural.ensures pitch) (natural_most pitch, (size.wide, size.high))

pub average-requires-clause-power : goal.average-requires-clause-power
average-requires-clause-power c = rw (c.width_of-w.ensures, c.height_of-h.ensures) (searched_sized c.requires).power

pub returns : goal.returns
returns c =
    got w32 c.average.type_inv
    (rw (c.width_of-w.ensures, c.height_of-h.ensures, natural_read c.natural.ensures c.requires.source_luma.pitch_in) at c.average.ensures)
