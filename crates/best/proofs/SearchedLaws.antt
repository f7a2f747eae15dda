-- 02, Three: what `searched` means. Of a bad record whose window has a candidate, and is not too wide for the radius, every candidate stands in the tables: in
-- a slot of its own, one of the `slots` that the report's header says, with the cost of its own vector. And there is at least one. Assumes nothing.
use Rattle.std.specs.Prelude.{◌≡◌, refl, true, false, ◌&&◌, List, ℕ, suc, ◌+◌, ◌*◌, ◌≤◌, ◌<◌, ltb, ℤ, pos}
use Rattle.std.proofs.Math.Path.{sym}
use Rattle.std.proofs.Common.{◌∙◌, mul-le-mul, arith, ltb-true}
use Rattle.std.specs.Int.Signed.{le_z}
use Rattle.whole.specs.Signed.{signed}
use Rattle.whole.specs.Truth.{left_of, right_of, both_of}
use Rattle.whole.specs.Interval.{Within}
use Rattle.limits.specs.Ranges.{at_each_radius}
use Rattle.records.specs.declared.Record.{Record}
use Rattle.window.specs.Windows.{is_bad, has_candidate, is_searched, most_of, is_wide, slots_of}
use Rattle.choosing.specs.declared.Choice.{Choice}
use Rattle.choosing.specs.Choosing.{columns_of, rows_of, slot_of}
use Rattle.choosing.specs.Bounds.{Narrow}
use Rattle.tables.specs.Laws.{inside, slot_candidate}
use Rattle.best.specs.declared.Task.{Task}
use Rattle.best.specs.Best.{choice_of}
use Rattle.best.specs.Sides.{has_candidate_is, sides_most, narrowed}
use Rattle.best.proofs.VectorCosts.{held}
use Rattle.best.specs.Searched.{InTable, Candidates}

-- ---- a slot in a window of at most m by m lies below m squared + 1
slot_below : (p c j i : ℕ) → c ≤ suc p → j ≤ p → i < c → 1 + j * c + i < suc p * suc p + 1
slot_below p c j i narrow low l =
    let t = mul-le-mul {n₁ = j} {m₁ = c} {n₂ = p} {m₂ = suc p} low narrow in omega arith

-- ---- at each radius: a window's most is p + 1, p being 2 x radius, and the header's slots are its square and 1
record Fits (radius : ℤ) : Type 0 where
  p : ℕ
  most : Within 0 (suc p) (most_of radius)
  slots : slots_of radius ≡ pos (suc p * suc p + 1)

fits : (radius : ℤ) → Within 0 3 radius → Fits radius
fits radius w =
    let low = w.low in
    let high = w.high in
    let a : le_z (pos 0) radius ≡ true = omega signed in
    let b : le_z radius (pos 3) ≡ true = omega signed in
    at_each_radius Fits
    (record { p = 0; most = omega arith; slots = refl })
    (record { p = 2; most = omega arith; slots = refl })
    (record { p = 4; most = omega arith; slots = refl })
    (record { p = 6; most = omega arith; slots = refl })
    radius (both_of a b)

module _ (task : Task) (given : Record) (luma u v referenceLuma referenceU referenceV : List ℕ) where
  abbrev k : Choice
  k = choice_of task given

  abbrev InTheTable : ℤ → ℕ → ℕ → Type 0
  InTheTable slots j i = InTable task given luma u v referenceLuma referenceU referenceV slots j i

  abbrev AllCandidates : ℤ → Type 0
  AllCandidates slots = Candidates task given luma u v referenceLuma referenceU referenceV slots

  module _ (radius : ℤ) (lies : Within 0 3 radius) (tame : is_wide radius given ≡ false) (searched : is_searched given ≡ true) where
    bad : is_bad given ≡ true
    unfolding is_searched
    bad = left_of (is_bad given) (has_candidate given) searched

    both : (ltb 0 (columns_of k) && ltb 0 (rows_of k)) ≡ true
    unfolding is_searched
    both = sym (has_candidate_is task given) ∙ right_of (is_bad given) (has_candidate given) searched

    a_column : 0 < columns_of k
    a_column = ltb-true 0 (columns_of k) (left_of (ltb 0 (columns_of k)) (ltb 0 (rows_of k)) both)

    a_row : 0 < rows_of k
    a_row = ltb-true 0 (rows_of k) (right_of (ltb 0 (columns_of k)) (ltb 0 (rows_of k)) both)

    few : (columns_of k ≤ suc (fits radius lies).p) × (rows_of k ≤ suc (fits radius lies).p)
    few = sides_most (suc (fits radius lies).p) task radius given (fits radius lies).most tame bad a_column a_row

    narrow : Narrow k
    narrow = narrowed task radius given lies tame bad

    in_table : (j i : ℕ) → j < rows_of k → i < columns_of k → InTheTable (slots_of radius) j i
    unfolding slot_of
    in_table j i row column =
        let p = (fits radius lies).p in
        let below = slot_below p (columns_of k) j i few.0 (omega (arith, few.1)) column in
        record {
          in_rows = row;
          in_columns = column;
          slot_in = rw (fits radius lies).slots (omega signed);
          cost_held = held task given luma u v referenceLuma referenceU referenceV (inside narrow row column).slot
              (λ cost. slot_candidate 0 k cost narrow row column);
        }

    pub candidates : AllCandidates (slots_of radius)
    candidates = record { some = in_table 0 0 a_row a_column; each = in_table }
