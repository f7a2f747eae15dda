-- The serpentine order of a grid of nx by ny blocks, as the walk that one would describe. 01 takes "serpentine position and block (their rule is
-- recalc.rs's text)" and adds "the serpentine-filled order". Definitions alone. That the walk is what the rule of recalc.rs gives is proved in Walked.
use Rattle.std.specs.Prelude.{List, [], ◌∷◌, ◌++◌, reverse, Bool, cond, ◌&&◌, ℕ, zero, suc, ◌+◌, ◌-◌, ◌*◌, ◌%◌, ◌≤◌, eqb, ℤ, pos, get_or, drop}
use Rattle.serpentine.specs.declared.Place.{Place}

-- ---- 01, "Numbers accepted": "Grid sides 2 to 2,048"
pub record Sides (nx ny : ℕ) : Type 0 where
  pub wide : 2 ≤ nx
  pub high : 2 ≤ ny
  pub wide_most : nx ≤ 2048
  pub high_most : ny ≤ 2048

-- the block in column x and row y
abbrev pub at : ℕ → ℕ → Place
at x y = record { x = x; y = y }

-- ---- the walk
-- f 0, then f 1, and so on to f (n - 1)
unfoldable pub each : ℕ → (ℕ → List Place) → List Place
each zero f = []
each (suc n) f = each n f ++ f n

-- row y without its two ends, from left to right; an odd row is turned round
unfoldable pub row : ℕ → ℕ → List Place
row nx y =
    let rightward = each (nx - 2) (λ i. at (1 + i) y ∷ []) in
    cond (eqb (y % 2) 0) rightward (reverse rightward)

-- The rows between the first and the last, back and forth. Then for each column its top and its bottom. Then for each row between, its left end
-- and its right end.
unfoldable pub walk : ℕ → ℕ → List Place
walk nx ny =
    each (ny - 2) (λ i. row nx (1 + i))
    ++ each nx (λ x. at x 0 ∷ at x (ny - 1) ∷ [])
    ++ each (ny - 2) (λ i. at 0 (1 + i) ∷ at (nx - 1) (1 + i) ∷ [])

-- ---- the block at a position is the walk's place at that index, from 0
unfoldable pub block_at : ℕ → ℕ → ℕ → Place
block_at nx ny position = get_or (walk nx ny) position (at 0 0)

-- ---- the position of a block is the number of places that the walk gives before it
abbrev pub same : Place → Place → Bool
same a b = eqb a.x b.x && eqb a.y b.y

unfoldable pub places_before : Place → List Place → ℕ
places_before b [] = 0
places_before b (a ∷ rest) = cond (same a b) 0 (suc (places_before b rest))

unfoldable pub position_at : ℕ → ℕ → Place → ℕ
position_at nx ny block = places_before block (walk nx ny)

-- ---- the order as a buffer holds it: x and y of each block in turn, and behind them what stood there ("a longer buffer keeps its tail")
unfoldable pub numbers : List Place → List ℤ
numbers [] = []
numbers (b ∷ rest) = pos b.x ∷ pos b.y ∷ numbers rest

unfoldable pub filled : ℕ → ℕ → List ℤ → List ℤ
filled nx ny buffer = numbers (walk nx ny) ++ drop (2 * (nx * ny)) buffer
