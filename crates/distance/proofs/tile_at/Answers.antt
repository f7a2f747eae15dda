-- Four rows of differences, and then the tile's code. Assumes nothing.
use Rattle.std.proofs.Common.{◌∙◌, ap}
use Rattle.distance.specs.declared.Steps.{Steps}
use Rattle.distance.proofs.Slices.{rows_tile}
use Rattle.distance.proofs.tile_at.Goals as goal

pub returns-clause-value : goal.returns-clause-value
returns-clause-value c =
    c.from.ensures
    ∙ ap (λ (s : Steps). s.total) c.steps.ensures
    ∙ rows_tile c.args.a.bytes.now c.args.b.bytes.now c.args.a.pitch c.args.b.pitch c.row_less.ensures.value c.row_less-2.ensures.value c.row_less-3.ensures.value c.row_less-4.ensures.value
