-- What is read at an offset, and the blocks that are gathered from there: 01, "Evaluating and choosing", its first two paragraphs. Definitions alone.
use Rattle.std.specs.Prelude.{Bool, true, false, cond, List, ℕ, zero, suc, ◌+◌, ◌*◌, ◌/◌, ◌%◌, ◌^◌, ltb, ℤ, pos, negsuc, ◌+ℤ◌, get_or, length, set, replicate}
use Rattle.std.specs.Prelude.{None, Option, Some}
use Rattle.distance.specs.Distance.{Block, sum}

-- ---- a read: the byte there, or that the place is outside the data
abbrev within : Bool → ℕ → Option ℕ
within true byte = Some byte
within false byte = None

unfoldable pub read_at : List ℕ → ℤ → Option ℕ
read_at s (pos n) = within (ltb n (length s)) (get_or s n 0)
read_at s (negsuc n) = None

-- "A read outside the data counts 0."
unfoldable pub weight : Option ℕ → ℕ
weight (Some byte) = byte
weight None = 0

unfoldable pub sample_at : List ℕ → ℤ → ℕ
sample_at s at = weight (read_at s at)

-- ---- blocks
-- the block whose first sample is at `at`, with rows that start `pitch` samples apart
abbrev pub placed_at : List ℕ → ℤ → ℕ → Block
placed_at s at pitch y x = sample_at s (at +ℤ pos (y * pitch + x))

-- the same from an origin that may be absent: then there are no samples, and each counts 0
unfoldable pub placed_from : List ℕ → Option ℤ → ℕ → Block
placed_from s (Some origin) pitch = placed_at s origin pitch
placed_from s None pitch = λ y x. 0

-- sample b of a block with rows of w samples
abbrev pub nth : ℕ → Block → ℕ → ℕ
nth w block b = block (b / w) (b % w)

-- ---- "Source sample b comes from overlay while overlay is present and b is under a quarter of the full block, with half the row length;
-- else from full; else 0." w and h are the full block's sides.
abbrev pub overlaid : ℕ → ℕ → ℕ
overlaid w h = (w / 2) * (h / 2)

unfoldable pub source_at : List ℕ → ℕ → Option ℤ → Option ℤ → ℕ → ℕ → ℕ → ℕ
source_at s pitch full (Some overlay) w h b =
    cond (ltb b (overlaid w h)) (nth (w / 2) (placed_at s overlay pitch) b) (nth w (placed_from s full pitch) b)
source_at s pitch full None w h b = nth w (placed_from s full pitch) b

-- ---- an array of 256 bytes that holds f 0, f 1 .. f (n - 1), and then zeros
unfoldable pub gathered : ℕ → (ℕ → ℕ) → List ℕ
gathered zero f = replicate 256 0
gathered (suc n) f = set (gathered n f) n (f n)

-- ---- "The average is the sum shifted by log2 of the area; a block under 4 rows gives 0; an absent origin gives 0."
-- log2 of n: how often n can be halved before it is under 2
abbrev halvings : ℕ → ℕ → ℕ
halvings zero n = 0
halvings (suc more) n = cond (ltb n 2) 0 (suc (halvings more (n / 2)))

abbrev pub log2 : ℕ → ℕ
log2 n = halvings n n

abbrev pub total : ℕ → ℕ → Block → ℕ
total w h block = sum h (λ y. sum w (λ x. block y x))

unfoldable pub average_of : List ℕ → ℕ → Option ℤ → ℕ → ℕ → ℕ
average_of s pitch (Some origin) w h = cond (ltb h 4) 0 (total w h (placed_at s origin pitch) / 2 ^ log2 (w * h))
average_of s pitch None w h = 0
