-- What the parts of the code answer (01, "Evaluating and choosing": SAD and SATD), in the terms of Distance: the gaps of two rows, and a tile as four rows of
-- four numbers, which is turned by butterflies. That this gives the Hadamard values is in Butterflies.
use Rattle.std.specs.Prelude.{List, ◌≡◌, ℕ, ◌+◌, ◌*◌, ◌<◌, ℤ, pos, ◌+ℤ◌, ◌-ℤ◌, nat_abs, get_or, length}
use Rattle.whole.specs.Interval.{Within}
use Rattle.distance.specs.declared.Four.{Four}
use Rattle.distance.specs.Distance.{sum, gap, tile_sum}
use Rattle.distance.specs.Fours.{Quad, Tile, pick, Each, each_by, butterflies}
use Rattle.distance.specs.Steps.{column_step, quad_of}

-- the first n samples of two rows, their gaps summed
abbrev pub gaps : ℕ → List ℕ → List ℕ → ℕ
gaps n s t = sum n (λ x. gap (get_or s x 0) (get_or t x 0))

-- ---- a tile by its rows and columns
abbrev pub entry : Tile → ℕ → ℕ → ℤ
entry t y x = pick (pick t y) x

-- each of the numbers lies from -n to n
abbrev pub Small : ℕ → Quad → Type 0
Small n q = Each (Within n n) q

abbrev pub SmallRows : ℕ → Tile → Type 0
SmallRows n t = Each (Small n) t

-- ---- the steps
-- a row's four values
abbrev pub turned : Quad → Quad
turned = butterflies ◌+ℤ◌ ◌-ℤ◌

abbrev pub rows_turned : Tile → Tile
rows_turned t = record { a = turned t.a; b = turned t.b; c = turned t.c; d = turned t.d }

-- Two rows added, and one taken from the other: number by number.
abbrev pub rows_added : Quad → Quad → Quad
rows_added = each_by ◌+ℤ◌

abbrev pub rows_subtracted : Quad → Quad → Quad
rows_subtracted = each_by ◌-ℤ◌

-- The columns' values, rows as rows: the butterflies with whole rows for numbers.
abbrev pub columns_turned : Tile → Tile
columns_turned = butterflies rows_added rows_subtracted

-- a row's numbers by their absolute sizes
abbrev pub row_plain : Quad → ℕ
row_plain q = sum 4 (λ x. nat_abs (pick q x))

-- ---- differences of the samples from i in s and from k in t: of four, of a tile, and of m tiles side by side
abbrev pub row_less : List ℕ → ℕ → List ℕ → ℕ → Quad
row_less s i t k =
    record {
      a = pos (get_or s i 0) -ℤ pos (get_or t k 0);
      b = pos (get_or s (i + 1) 0) -ℤ pos (get_or t (k + 1) 0);
      c = pos (get_or s (i + 2) 0) -ℤ pos (get_or t (k + 2) 0);
      d = pos (get_or s (i + 3) 0) -ℤ pos (get_or t (k + 3) 0);
    }

abbrev pub tile_less : List ℕ → ℕ → ℕ → List ℕ → ℕ → ℕ → ℕ → ℕ → ℤ
tile_less s i p t k q y x = pos (get_or s (i + y * p + x) 0) -ℤ pos (get_or t (k + y * q + x) 0)

abbrev pub tiles_less : ℕ → List ℕ → ℕ → ℕ → List ℕ → ℕ → ℕ → ℕ
tiles_less m s i p t k q = sum m (λ j. tile_sum (tile_less s (i + 4 * j) p t (k + 4 * j) q))

-- ---- the column step of n columns side by side, rows as rows
pub record Stepped (n : ℕ) (s : List ℕ) (i p : ℕ) (t : List ℕ) (k q : ℕ) (c : Four (List ℤ)) : Type 0 where
  pub room : (r : ℕ) → r < 4 → length (pick c r) ≡ 16
  pub value : (r x : ℕ) → r < 4 → x < n → get_or (pick c r) x (pos 0) ≡ column_step (tile_less s i p t k q) r x
  pub small : (r x : ℕ) → r < 4 → x < n → Within 1020 1020 (get_or (pick c r) x (pos 0))

-- the tile of them that starts at column x
abbrev pub quad_in : List ℤ → ℕ → Quad
quad_in row x = quad_of (λ j. get_or row (x + j) (pos 0))

abbrev pub tile_in : Four (List ℤ) → ℕ → Tile
tile_in c x = record { a = quad_in c.a x; b = quad_in c.b x; c = quad_in c.c x; d = quad_in c.d x }
