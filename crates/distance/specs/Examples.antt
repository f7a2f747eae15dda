-- 01, "Numbers to hold on to": one difference of 1 in a tile, and sixteen. 02, Nine: two tiles, step by step. Each is computed from the definitions.
-- Assumes nothing.
use Rattle.std.specs.Prelude.{◌≡◌, refl, ℕ, zero, suc, ℤ, pos, neg_ℤ}
use Rattle.distance.specs.Distance.{Block, sum, sum_z, hadamard_at, tile_sum, sad, satd}
use Rattle.distance.specs.Fours.{Quad, Tile}
use Rattle.distance.specs.Parts.{entry}
use Rattle.distance.specs.Steps.{steps_of}

-- a block of one value, and one that is 1 in its first sample and 0 elsewhere
abbrev flat : ℕ → Block
flat v y x = v

abbrev dot : Block
dot zero zero = 1
dot zero (suc x) = 0
dot (suc y) x = 0

-- P "one difference of 1 in a tile: SAD 1, SATD 8"
pub one_difference : (sad 4 4 dot (flat 0) ≡ 1) × (satd 4 4 dot (flat 0) ≡ 8)
unfolding sum sum_z hadamard_at tile_sum
one_difference = (refl, refl)

-- P "All sixteen 1: SAD 16, SATD 8"
pub sixteen_differences : (sad 4 4 (flat 1) (flat 0) ≡ 16) × (satd 4 4 (flat 1) (flat 0) ≡ 8)
unfolding sum sum_z hadamard_at tile_sum
sixteen_differences = (refl, refl)

-- ---- two tiles, step by step
abbrev neg : ℕ → ℤ
neg n = neg_ℤ (pos n)

abbrev quad : ℤ → ℤ → ℤ → ℤ → Quad
quad a b c d = record { a = a; b = b; c = c; d = d }

abbrev tile : Quad → Quad → Quad → Quad → Tile
tile a b c d = record { a = a; b = b; c = c; d = d }

-- One difference of 1, at the top left: after the column step it has gone down its column, after the row step it is everywhere.
abbrev nothing : Quad
nothing = quad (pos 0) (pos 0) (pos 0) (pos 0)

abbrev first : Quad
first = quad (pos 1) (pos 0) (pos 0) (pos 0)

abbrev ones : Quad
ones = quad (pos 1) (pos 1) (pos 1) (pos 1)

abbrev corner : Tile
corner = tile first nothing nothing nothing

pub corner_worked : steps_of (entry corner) ≡ record { columns = tile first first first first; values = tile ones ones ones ones; total = 16 }
unfolding sum sum_z hadamard_at tile_sum
corner_worked = refl

-- the tile of docs/TILE.md
abbrev shown : Tile
shown =
    tile (quad (pos 9) (neg 2) (pos 1) (pos 0)) (quad (pos 7) (neg 1) (pos 0) (pos 3)) (quad (pos 4) (pos 0) (neg 5) (pos 0))
    (quad (pos 1) (pos 3) (pos 0) (neg 8))

abbrev stepped : Tile
stepped =
    tile (quad (pos 21) (pos 0) (neg 4) (neg 5)) (quad (pos 11) (neg 6) (pos 6) (pos 11)) (quad (pos 5) (neg 4) (neg 4) (pos 5))
    (quad (neg 1) (pos 2) (pos 6) (neg 11))

abbrev left : Tile
left =
    tile (quad (pos 12) (pos 30) (pos 22) (pos 20)) (quad (pos 22) (neg 12) (pos 12) (pos 22)) (quad (pos 2) (pos 0) (pos 0) (pos 18))
    (quad (neg 4) (pos 6) (pos 14) (neg 20))

pub shown_worked : steps_of (entry shown) ≡ record { columns = stepped; values = left; total = 216 }
unfolding sum sum_z hadamard_at tile_sum
shown_worked = refl
