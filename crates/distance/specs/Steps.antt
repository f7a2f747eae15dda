-- A tile's two steps (02, Nine): its columns first, and then the rows that these leave. Definitions alone. That the second step leaves the Hadamard
-- values is in Butterflies, and one tile is worked in Examples.
use Rattle.std.specs.Prelude.{ℕ, ℤ, ◌*ℤ◌}
use Rattle.distance.specs.declared.Steps.{Steps}
use Rattle.distance.specs.Distance.{sum_z, sign, hadamard_at, tile_sum}
use Rattle.distance.specs.Fours.{Quad, Tile}

-- After the column step value (i, x) is the sum over y of sign(i, y) x d(y, x): what the bench dumps.
abbrev pub column_step : (ℕ → ℕ → ℤ) → ℕ → ℕ → ℤ
column_step d i x = sum_z 4 (λ y. sign i y *ℤ d y x)

-- After the row step of such values value (i, j) is the sum over x of sign(j, x) x e(i, x).
abbrev pub row_step : (ℕ → ℕ → ℤ) → ℕ → ℕ → ℤ
row_step e i j = sum_z 4 (λ x. sign j x *ℤ e i x)

-- four rows of four numbers, rows as rows
abbrev pub quad_of : (ℕ → ℤ) → Quad
quad_of v = record { a = v 0; b = v 1; c = v 2; d = v 3 }

abbrev pub tile_of : (ℕ → ℕ → ℤ) → Tile
tile_of d = record { a = quad_of (d 0); b = quad_of (d 1); c = quad_of (d 2); d = quad_of (d 3) }

-- What is shown of a tile of differences d: the tile after its column step, the Hadamard values that the row step leaves, their absolute sum.
abbrev pub steps_of : (ℕ → ℕ → ℤ) → Steps
steps_of d = record { columns = tile_of (column_step d); values = tile_of (hadamard_at d); total = tile_sum d }
