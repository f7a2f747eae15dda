-- Each plane's length rule. Assumes nothing.
use Rattle.whole.specs.Truth.{three_alike}
use Rattle.planes.specs.Planes.{holds3}
use Rattle.planes.proofs.holds_3.Goals as goal

pub returns : goal.returns
unfolding holds3
returns c =
    three_alike
    (rw (c.new.ensures.0, c.new.ensures.1) at c.keeps_length.ensures)
    (rw (c.new-2.ensures.0, c.new-2.ensures.1) at c.keeps_length-2.ensures)
    (rw (c.new-3.ensures.0, c.new-3.ensures.1) at c.keeps_length-3.ensures)
