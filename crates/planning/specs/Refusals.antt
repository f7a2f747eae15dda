-- When planning refuses: 01, "Numbers accepted", its limits and its table. Each `holds` says that a number of the table does not apply. Definitions alone.
use Rattle.std.specs.Prelude.{Bool, ◌&&◌, not, List, ℕ, ◌+◌, ◌*◌, eqb, leb, ℤ, pos, negsuc, ◌+ℤ◌, ◌-ℤ◌, ◌*ℤ◌, length, get_or}
use Rattle.std.specs.Int.Signed.{lt_z, le_z}
use Rattle.whole.specs.Numbers.{lies_in, fits_i16}
use Rattle.limits.specs.Sizes.{words_per_record}
use Rattle.limits.specs.Limits.{is_block, blocks_of, is_grid_side, is_step, is_frame_side, is_pel, are_shifts}
use Rattle.limits.specs.Refusals.{first, any_upto}
use Rattle.planes.specs.declared.Sides.{Sides}
use Rattle.block.specs.declared.Settings.{Settings}
use Rattle.planes.specs.Planes.{planes_hold, holds3}
use Rattle.passes.specs.Fold.{all_fit}

-- the blocks of a grid
abbrev pub block_count : Sides → ℕ
block_count grid = blocks_of grid.x grid.y

-- ---- "1: search not exhaustive, another block size, a grid side below 2, order length not the block count, or radius over 3"
-- The order is flat, two numbers a block.
unfoldable pub holds1 : Settings → ℕ → Bool
holds1 s listed =
    s.search.exhaustive
    && is_block s.block.x s.block.y
    && le_z (pos 2) s.grid.x
    && le_z (pos 2) s.grid.y
    && eqb listed (2 * block_count s.grid)
    && lies_in (negsuc 2) (pos 3) s.search.search_param

-- ---- "2: another number outside the limits above .., vector count not the block count"
-- "Grid sides 2 to 2,048. Steps 1 up to the block's side. Frame sides 2 to 16,384, and the last block of each row and column ends inside the frame."
unfoldable pub axis_holds : ℤ → ℤ → ℤ → ℤ → Bool
axis_holds count step side frame =
    is_grid_side count && is_step side step && is_frame_side frame && le_z ((count -ℤ pos 1) *ℤ step +ℤ side) frame

abbrev pub sides_hold : Settings → Bool
sides_hold s =
    axis_holds s.grid.x s.step.x s.block.x s.planes.luma.width
    && axis_holds s.grid.y s.step.y s.block.y s.planes.luma.height

-- "Pel 1, 2 or 4. Chroma shifts (0,0), (1,0) or (1,1)". The vectors are flat, three numbers a block.
unfoldable pub holds2 : Settings → ℕ → Bool
holds2 s held =
    sides_hold s && is_pel s.level.pel && are_shifts s.shift.x s.shift.y && planes_hold s.planes s.shift && eqb held (3 * block_count s.grid)

-- "Vector components fit i16." None is outside, also of blocks that the order never names.
unfoldable pub vector_fits : List ℤ → ℕ → Bool
vector_fits vectors i = fits_i16 (get_or vectors (3 * i) (pos 0)) && fits_i16 (get_or vectors (3 * i + 1) (pos 0))

abbrev pub vectors_fit : List ℤ → ℕ → Bool
vectors_fit vectors n = not (any_upto (λ i. not (vector_fits vectors i)) n)

-- ---- "4: an order entry .. outside the grid given": none is
unfoldable pub entry_holds : Sides → List ℤ → ℕ → Bool
entry_holds grid order i =
    le_z (pos 0) (get_or order (2 * i) (pos 0))
    && lt_z (get_or order (2 * i) (pos 0)) grid.x
    && le_z (pos 0) (get_or order (2 * i + 1) (pos 0))
    && lt_z (get_or order (2 * i + 1) (pos 0)) grid.y

abbrev pub order_holds : Sides → List ℤ → ℕ → Bool
order_holds grid order n = not (any_upto (λ i. not (entry_holds grid order i)) n)

-- ---- "5: a lent output is too short": 12 words and an index a block
abbrev pub has_room : ℕ → ℕ → ℕ → Bool
has_room n words indices = leb (words_per_record * n) words && leb n indices

-- ---- "If several apply, the lowest is given". 6: "in planning .., a record doesn't fit"
unfoldable pub refusal_of : Settings → List ℤ → List ℤ → ℕ → ℕ → ℕ → ℕ → ℕ → ℕ
refusal_of s order vectors luma u v words indices =
    let n = block_count s.grid in
    first (not (holds1 s (length order))) 1
    (first (not (holds2 s (length vectors) && vectors_fit vectors n)) 2
    (first (not (holds3 s.planes luma u v)) 3
    (first (not (order_holds s.grid order n)) 4
    (first (not (has_room n words indices)) 5
    (first (not (all_fit s order vectors n)) 6 0)))))
