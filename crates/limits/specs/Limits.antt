-- 01, "Numbers accepted", one definition for each kind of number. Definitions alone.
use Rattle.std.specs.Prelude.{Bool, ◌&&◌, ◌||◌, cond, ℕ, ◌*◌, leb, ℤ, pos, nat_abs}
use Rattle.std.specs.Int.Signed.{lt_z, shr_z}
use Rattle.whole.specs.Numbers.{lies_in}

-- the same number
abbrev pub same : ℤ → ℤ → Bool
same x y = lies_in x x y

-- "Block 8x8, 16x8 or 16x16"
abbrev pub is_block : ℤ → ℤ → Bool
is_block width height = same (pos 8) width && same (pos 8) height || same (pos 16) width && (same (pos 8) height || same (pos 16) height)

-- the blocks of a grid: the product of its sides. One with a side below 2 is refused with 1, whatever its count.
abbrev pub blocks_of : ℤ → ℤ → ℕ
blocks_of nx ny = nat_abs nx * nat_abs ny

-- "Grid sides 2 to 2,048"
abbrev pub is_grid_side : ℤ → Bool
is_grid_side side = lies_in (pos 2) (pos 2048) side

-- "Steps 1 up to the block's side"
abbrev pub is_step : ℤ → ℤ → Bool
is_step side step = lies_in (pos 1) side step

-- "Frame sides 2 to 16,384"
abbrev pub is_frame_side : ℤ → Bool
is_frame_side side = lies_in (pos 2) (pos 16384) side

-- "Pel 1, 2 or 4"
abbrev pub is_pel : ℤ → Bool
is_pel pel = same (pos 1) pel || same (pos 2) pel || same (pos 4) pel

-- "Chroma shifts (0,0), (1,0) or (1,1)"
abbrev pub are_shifts : ℤ → ℤ → Bool
are_shifts x y = same (pos 0) x && same (pos 0) y || same (pos 1) x && same (pos 0) y || same (pos 1) x && same (pos 1) y

-- "chroma sides are the luma sides shifted right": z >> s, where s is 0 or 1
abbrev pub shifted_by : ℤ → ℤ → ℤ
shifted_by z s = cond (lt_z s (pos 1)) z (shr_z z 2)

-- "Pitch from the plane's width to 65,536"
abbrev pub is_pitch : ℤ → ℤ → Bool
is_pitch width pitch = lies_in width (pos 65536) pitch

-- "Radius is the absolute value of `search_param`."
abbrev pub radius_of : ℤ → ℤ
radius_of param = pos (nat_abs param)

-- "A plane's data are at most 1,073,741,823 bytes"
abbrev pub greatest_length : ℕ
greatest_length = 1073741823

abbrev pub is_length : ℕ → Bool
is_length length = leb length greatest_length
