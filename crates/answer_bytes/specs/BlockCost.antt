-- The cost of two blocks as a host gets it. 01, "Port order and what changes shape": "Block cost answers 2 for a size that isn't one of the five, a measure
-- other than 0 or 1, or either block's pitch not from the width to 65,536, and 3 for either slice shorter than (rows - 1) x pitch + width",
-- 5 where fewer than 4 bytes are lent, and "on 0 writes its value as 4 little-endian bytes". Definitions alone.
use Rattle.std.specs.Prelude.{Bool, cond, ◌&&◌, ◌||◌, List, ◌++◌, ℕ, ◌+◌, ◌-◌, ◌*◌, eqb, ltb, leb, ℤ, pos, nat_abs, length, drop}
use Rattle.std.specs.Int.Signed.{lt_z}
use Rattle.whole.specs.Numbers.{lies_in}
use Rattle.distance.specs.Distance.{block_of, cost_of}
use Rattle.little_endian.specs.Bytes.{bytes_of}

-- a side of just so many samples
abbrev pub is : ℕ → ℤ → Bool
is n side = lies_in (pos n) (pos n) side

-- 16x16, 16x8, 8x8, 8x4, 4x4
abbrev pub is_size : ℤ → ℤ → Bool
is_size width height = is 16 width && (is 16 height || is 8 height) || is 8 width && (is 8 height || is 4 height) || is 4 width && is 4 height

abbrev pub is_pitch : ℤ → ℤ → Bool
is_pitch width pitch = lies_in width (pos 65536) pitch

-- the two measures: 0 is SAD, 1 is SATD
abbrev pub numbers_fit : ℤ → ℤ → ℤ → ℤ → ℤ → Bool
numbers_fit measure width height pitch-a pitch-b =
    lies_in (pos 0) (pos 1) measure && is_size width height && is_pitch width pitch-a && is_pitch width pitch-b

abbrev pub is_held : List ℕ → ℕ → ℕ → ℕ → Bool
is_held s pitch width height = leb ((height - 1) * pitch + width) (length s)

-- the lowest number that applies, where so many bytes are lent
unfoldable pub cost_number : ℤ → ℤ → ℤ → List ℕ → ℤ → List ℕ → ℤ → ℕ → ℕ
cost_number measure width height a pitch-a b pitch-b room =
    cond (numbers_fit measure width height pitch-a pitch-b)
    (cond (is_held a (nat_abs pitch-a) (nat_abs width) (nat_abs height) && is_held b (nat_abs pitch-b) (nat_abs width) (nat_abs height))
    (cond (ltb room 4) 5 0)
    3)
    2

unfoldable pub block_cost : ℤ → ℤ → ℤ → List ℕ → ℤ → List ℕ → ℤ → ℕ
block_cost measure width height a pitch-a b pitch-b =
    cost_of (lt_z (pos 0) measure) (nat_abs width) (nat_abs height) (block_of a (nat_abs pitch-a)) (block_of b (nat_abs pitch-b))

-- the lent bytes afterwards: a refusal leaves them as they were
unfoldable pub cost_bytes : ℤ → ℤ → ℤ → List ℕ → ℤ → List ℕ → ℤ → List ℕ → List ℕ
cost_bytes measure width height a pitch-a b pitch-b out =
    cond (eqb (cost_number measure width height a pitch-a b pitch-b (length out)) 0)
    (bytes_of (pos (block_cost measure width height a pitch-a b pitch-b)) ++ drop 4 out)
    out
