-- What the proofs of a tile's code share: rows and tiles that are alike, and how large the numbers of a turned one get. Assumes nothing.
use mathlib.Core.Path.{◌≡◌, ap, ◌∙◌}
use Prim.Native.Nat.{ℕ, zero, suc, ◌+◌, ◌≤◌, ◌<◌}
use native.Mathlib.Omega.{arith}
use lib.IntN.{ℤ, nat_abs}
use mir.Facts.{to_z-of_z}
use mir.Syntax.{w16}
use mir.Val.{to_z, of_z}
use Rattle.whole.specs.Interval.{Within, within_add, within_sub, fits}
use Rattle.distance.specs.declared.Steps.{Steps}
use Rattle.distance.specs.Distance.{sum, hadamard_at, tile_sum}
use Rattle.distance.specs.Hadamard.{plain}
use Rattle.distance.proofs.Absolute.{abs_small}
use Rattle.distance.proofs.Butterflies.{column_step_lem, row_step_lem}
use Rattle.distance.specs.Steps.{column_step, tile_of, steps_of}
use Rattle.distance.specs.Fours.{Quad, Tile, pick}
use Rattle.distance.specs.Parts.{entry, Small, SmallRows, turned, rows_turned, rows_added, rows_subtracted, columns_turned, row_plain}

pub quads_alike : {a b c d a' b' c' d' : ℤ} → a ≡ a' → b ≡ b' → c ≡ c' → d ≡ d' → ◌≡◌ {A = Quad} (record { a = a; b = b; c = c; d = d }) (record { a = a'; b = b'; c = c'; d = d' })
quads_alike e f g h = cc

-- The steps of a tile of differences d: what the rows leave of the column step's tile are the Hadamard values, and their absolute sum is the tile's.
pub values_are : {columns values : Tile} (d : ℕ → ℕ → ℤ) → columns ≡ tile_of (column_step d) → values ≡ rows_turned columns → values ≡ tile_of (hadamard_at d)
values_are d e f = f ∙ rw e (row_step_lem d)

pub total_is : {values : Tile} {total : ℕ} (d : ℕ → ℕ → ℤ) → values ≡ tile_of (hadamard_at d) → total ≡ plain (entry values) → total ≡ tile_sum d
unfolding tile_sum sum
total_is d e f = rw (f, e)

pub steps_alike : {columns values : Tile} {total : ℕ} (d : ℕ → ℕ → ℤ) → columns ≡ tile_of (column_step d) → values ≡ tile_of (hadamard_at d) → total ≡ tile_sum d → ◌≡◌ {A = Steps} (record { columns = columns; values = values; total = total }) (steps_of d)
steps_alike d e f g = rw (e, f, g)

-- ---- ranges
pub small_turned : {n : ℕ} {q : Quad} → Small n q → Small ((n + n) + (n + n)) (turned q)
small_turned s =
    let s0 = within_add s.at_a s.at_b in
    let s1 = within_add s.at_c s.at_d in
    let d0 = within_sub s.at_a s.at_b in
    let d1 = within_sub s.at_c s.at_d in
    record { at_a = within_add s0 s1; at_b = within_sub s0 s1; at_c = within_add d0 d1; at_d = within_sub d0 d1 }

pub rows_turned_lem : {n : ℕ} {t : Tile} → SmallRows n t → SmallRows ((n + n) + (n + n)) (rows_turned t)
rows_turned_lem s = record { at_a = small_turned s.at_a; at_b = small_turned s.at_b; at_c = small_turned s.at_c; at_d = small_turned s.at_d }

pub small_added : {n : ℕ} {p q : Quad} → Small n p → Small n q → Small (n + n) (rows_added p q)
small_added s t =
    record { at_a = within_add s.at_a t.at_a; at_b = within_add s.at_b t.at_b; at_c = within_add s.at_c t.at_c; at_d = within_add s.at_d t.at_d }

pub small_subtracted : {n : ℕ} {p q : Quad} → Small n p → Small n q → Small (n + n) (rows_subtracted p q)
small_subtracted s t =
    record { at_a = within_sub s.at_a t.at_a; at_b = within_sub s.at_b t.at_b; at_c = within_sub s.at_c t.at_c; at_d = within_sub s.at_d t.at_d }

pub columns_turned_lem : {n : ℕ} {t : Tile} → SmallRows n t → SmallRows ((n + n) + (n + n)) (columns_turned t)
columns_turned_lem s =
    let s0 = small_added s.at_a s.at_b in
    let s1 = small_added s.at_c s.at_d in
    let d0 = small_subtracted s.at_a s.at_b in
    let d1 = small_subtracted s.at_c s.at_d in
    record { at_a = small_added s0 s1; at_b = small_subtracted s0 s1; at_c = small_added d0 d1; at_d = small_subtracted d0 d1 }

-- of differences of bytes the column step's numbers are at most 1,020
pub columns_small : {columns : Tile} (d : ℕ → ℕ → ℤ) → columns ≡ tile_of (column_step d) → SmallRows 255 (tile_of d) → SmallRows 1020 columns
columns_small d e s = rw (e, ← column_step_lem d) (columns_turned_lem s)

pub pick_small : {n : ℕ} {q : Quad} → Small n q → (r : ℕ) → r < 4 → Within n n (pick q r)
pick_small s zero l = s.at_a
pick_small s (suc zero) l = s.at_b
pick_small s (suc (suc zero)) l = s.at_c
pick_small s (suc (suc (suc r))) l = s.at_d

pub plain_small : {q : Quad} → Small 4080 q → row_plain q ≤ 16320
unfolding sum
plain_small s = omega (arith, abs_small s.at_a, abs_small s.at_b, abs_small s.at_c, abs_small s.at_d)

-- ---- the absolute value of a number that the machine reads
pub record Size (r : ℕ) (z : ℤ) : Type 0 where
  pub same : r ≡ nat_abs z
  pub below : r ≤ 4080

pub size : {r : ℕ} {z : ℤ} → Within 4080 4080 z → r ≡ nat_abs (to_z w16 (of_z w16 z)) → Size r z
size {r} {z} p e =
    let same : r ≡ nat_abs z = e ∙ ap nat_abs (to_z-of_z {w = w16} (fits p tt tt)) in record { same = same; below = omega (arith, abs_small p) }
