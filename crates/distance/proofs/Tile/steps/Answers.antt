-- Columns, then rows; how large the numbers get goes along with them. Assumes nothing.
use Rattle.distance.specs.Parts.{entry}
use Rattle.distance.proofs.Tiles.{values_are, total_is, steps_alike, columns_small, rows_turned_lem}
use Rattle.distance.proofs.Tile.steps.Goals as goal

pub turn_rows-values-requires : goal.turn_rows-values-requires
turn_rows-values-requires c = columns_small (entry c.args.self) c.column_step-columns.ensures c.requires

pub weight-requires : goal.weight-requires
weight-requires c =
    rw c.turn_rows-values.ensures
    (rows_turned_lem (columns_small (entry c.args.self) c.column_step-columns.ensures c.requires))

pub returns : goal.returns
returns c =
    let d = entry c.args.self in
    let values = values_are d c.column_step-columns.ensures c.turn_rows-values.ensures in
    steps_alike d c.column_step-columns.ensures values (total_is d values c.weight.ensures)
