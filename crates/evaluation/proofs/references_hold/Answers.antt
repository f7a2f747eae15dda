-- Each plane against its own. Assumes nothing.
use mir.Facts.{to_z-of_z}
use Rattle.whole.specs.Truth.{three_alike}
use Rattle.evaluation.specs.Refusals.{references_hold}
use Rattle.evaluation.proofs.references_hold.Goals as goal

pub returns : goal.returns
unfolding references_hold
returns c =
    let f = c.ranges.pel in
    three_alike
    (simp to_z-of_z at c.reference_holds.ensures)
    (simp to_z-of_z at c.reference_holds-2.ensures)
    (simp to_z-of_z at c.reference_holds-3.ensures)
