-- The butterflies of rows are the column step. Assumes nothing.
use Rattle.std.proofs.Common.{◌∙◌}
use Rattle.distance.specs.Parts.{entry}
use Rattle.distance.proofs.Butterflies.{column_step_lem}
use Rattle.distance.proofs.Tile.column_step.Goals as goal

pub returns : goal.returns
returns c = c.turned.ensures ∙ column_step_lem (entry c.args.self)
