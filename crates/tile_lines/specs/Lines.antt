-- A tile's steps as text (docs/TILE.md): the differences, the tile after its column step and after its row step, rows as rows, and the sum of the
-- absolute values. Definitions alone.
use Rattle.std.specs.Prelude.{List, ◌++◌, ℕ, ◌-◌, ℤ, pos, length, take}
use Rattle.distance.specs.Fours.{Quad, Tile}
use Rattle.distance.specs.declared.Steps.{Steps}
use Rattle.distance.specs.Parts.{entry}
use Rattle.distance.specs.Steps.{steps_of}
use Rattle.report_text.specs.Text.{codes, decimal}

-- a number at the right end of seven columns
abbrev pub entry_text : ℤ → List ℕ
entry_text z = take (7 - length (decimal z)) (codes "       ") ++ decimal z

abbrev pub row_text : Quad → List ℕ
row_text q = entry_text q.a ++ entry_text q.b ++ entry_text q.c ++ entry_text q.d ++ codes "\n"

-- a tile behind its title
abbrev pub tile_text : List ℕ → Tile → List ℕ
tile_text title t = title ++ row_text t.a ++ row_text t.b ++ row_text t.c ++ row_text t.d

-- a tile of differences and its steps
abbrev pub shown : Tile → Steps → List ℕ
shown t steps =
    tile_text (codes "differences\n") t
    ++ tile_text (codes "after the column step\n") steps.columns
    ++ tile_text (codes "after the row step\n") steps.values
    ++ (codes "sum " ++ decimal (pos steps.total))
    ++ codes "\n"

abbrev pub steps_text : Tile → List ℕ
steps_text t = shown t (steps_of (entry t))
