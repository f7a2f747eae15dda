-- SAD and SATD of two blocks of samples, over any width and height: 01, "Evaluating and choosing". Definitions alone.
-- What holds of them is in Laws, and 01's two numbers for them in Examples.
use Rattle.std.specs.Prelude.{Bool, true, false, List, [], ◌∷◌, ℕ, zero, suc, ◌+◌, ◌-◌, ◌*◌, ◌/◌, ◌≤◌}
use Rattle.std.specs.Prelude.{ℤ, pos, negsuc, ◌+ℤ◌, ◌-ℤ◌, ◌*ℤ◌, nat_abs, get_or, length}

-- ---- a block is a function of row and column
abbrev pub Block : Type 0
Block = ℕ → ℕ → ℕ

-- The block whose rows start `pitch` samples apart in s. "A read outside the data counts 0."
abbrev pub block_of : List ℕ → ℕ → Block
block_of s pitch y x = get_or s (y * pitch + x) 0

-- s holds h rows of w samples that start `pitch` apart. A packed block has pitch w, and w * h samples hold it (Views, `packed_holds`).
abbrev pub Holds : List ℕ → ℕ → ℕ → ℕ → Type 0
Holds s pitch w h = (h - 1) * pitch + w ≤ length s

-- What a cost asks of its callers: two blocks of at most 16 x 16 samples, one in s with pitch p, the other in t with pitch q.
pub record Given (w h : ℕ) (s : List ℕ) (p : ℕ) (t : List ℕ) (q : ℕ) : Type 0 where
  pub wide : w ≤ 16
  pub high : h ≤ 16
  pub first : Holds s p w h
  pub second : Holds t q w h

-- f 0 + f 1 + .. + f (n - 1), of natural numbers and of integers
unfoldable pub sum : ℕ → (ℕ → ℕ) → ℕ
sum zero f = 0
sum (suc n) f = sum n f + f n

unfoldable pub sum_z : ℕ → (ℕ → ℤ) → ℤ
sum_z zero f = pos 0
sum_z (suc n) f = sum_z n f +ℤ f n

-- ---- SAD: the sum of the absolute differences
-- |a - b|. Of the two differences, cut off at 0, one is 0.
abbrev pub gap : ℕ → ℕ → ℕ
gap a b = (a - b) + (b - a)

abbrev pub sad : ℕ → ℕ → Block → Block → ℕ
sad w h a b = sum h (λ y. sum w (λ x. gap (a y x) (b y x)))

-- ---- "SATD sums absolute 4x4 Hadamard values over tiles and halves once"
pub data Sign : Type 0 where
  plus : Sign
  minus : Sign

abbrev pub unit : Sign → ℤ
unit plus = pos 1
unit minus = negsuc 0

-- The Hadamard matrix H of order 4, its rows in the order of recalc.rs.
abbrev pub matrix : List (List Sign)
matrix =
    (plus ∷ plus ∷ plus ∷ plus ∷ [])
    ∷ (plus ∷ plus ∷ minus ∷ minus ∷ [])
    ∷ (plus ∷ minus ∷ plus ∷ minus ∷ [])
    ∷ (plus ∷ minus ∷ minus ∷ plus ∷ [])
    ∷ []

-- Row i, column k of H: 1 or -1. Past the matrix nothing is read.
abbrev pub sign : ℕ → ℕ → ℤ
sign i k = unit (get_or (get_or matrix i []) k plus)

-- A tile of differences d is a function of row and column. Its Hadamard value at (i, j) is entry (i, j) of H d Hᵀ.
unfoldable pub hadamard_at : (ℕ → ℕ → ℤ) → ℕ → ℕ → ℤ
hadamard_at d i j = sum_z 4 (λ y. sum_z 4 (λ x. (sign i y *ℤ sign j x) *ℤ d y x))

-- the sum of a tile's sixteen absolute values
unfoldable pub tile_sum : (ℕ → ℕ → ℤ) → ℕ
tile_sum d = sum 4 (λ i. sum 4 (λ j. nat_abs (hadamard_at d i j)))

-- the differences of two blocks in the 4x4 tile whose first row is i, and first column j
abbrev pub differ : Block → Block → ℕ → ℕ → ℕ → ℕ → ℤ
differ a b i j y x = pos (a (i + y) (j + x)) -ℤ pos (b (i + y) (j + x))

-- the sum over m tiles in each of n rows of tiles, not yet halved
abbrev pub tiles : ℕ → ℕ → Block → Block → ℕ
tiles m n a b = sum n (λ i. sum m (λ j. tile_sum (differ a b (4 * i) (4 * j))))

-- halved once, at the end. The sides are multiples of 4.
abbrev pub satd : ℕ → ℕ → Block → Block → ℕ
satd w h a b = tiles (w / 4) (h / 4) a b / 2

-- ---- the cost: SATD where the measure says so, else SAD
abbrev pub cost_of : Bool → ℕ → ℕ → Block → Block → ℕ
cost_of true w h a b = satd w h a b
cost_of false w h a b = sad w h a b
