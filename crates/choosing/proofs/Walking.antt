-- The walk, a step at a time: what each of a candidate's four ways out leaves, and that every slot it asks for is in the table. Assumes nothing.
use mathlib.Core.Path.{◌≡◌, refl, sym, ap, ◌∙◌}
use mathlib.Core.Bool.{Bool, true, false, cond}
use mathlib.Core.List.{List}
use Prim.Native.Nat.{ℕ, ◌+◌, ◌*◌, ◌≤◌, ◌<◌}
use native.Mathlib.Nat.{mul-le-mul, le_refl}
use native.Mathlib.Numerals.{add-one}
use native.Mathlib.Omega.{arith}
use lib.IntN.{ℤ, pos, ◌+ℤ◌, ◌-ℤ◌, nat_abs}
use lib.Signed.{le_z}
use Rattle.whole.specs.Numbers.{lies_in}
use Rattle.whole.specs.Signed.{add_is, diff_is, abs_is}
use Rattle.whole.specs.Interval.{Within}
use Rattle.choosing.specs.declared.Choice.{Choice}
use Rattle.choosing.specs.Choosing.{Walk, count_of, columns_of, rows_of, luma_column, luma_of, chroma_of, after_distance, after_luma, after_chroma, advanced, restarted, taken, candidate, along_row, along_rows, plain_sad, start}
use Rattle.choosing.specs.Bounds.{Narrow}

-- ---- a window's sides: counts of i16 numbers, and at most 7 where both are walked
by_order : (t : Bool) {least greatest : ℤ} → Within 32768 32767 least → Within 32768 32767 greatest → cond t (nat_abs (greatest -ℤ least +ℤ pos 1)) 0 ≤ 65536
by_order true {least} {greatest} p q =
    let span = greatest -ℤ least in
    let a = p.low in
    let b = p.high in
    let c = q.low in
    let d = q.high in
    omega (arith, diff_is greatest least, add_is span (pos 1), abs_is (span +ℤ pos 1))
by_order false p q = omega arith

pub count_most : {least greatest : ℤ} → Within 32768 32767 least → Within 32768 32767 greatest → count_of least greatest ≤ 65536
unfolding count_of
count_most {least} {greatest} p q = by_order (le_z least greatest) p q

pub at_most_7 : {k : Choice} → Narrow k → 0 < columns_of k → 0 < rows_of k → (columns_of k ≤ 7) × (rows_of k ≤ 7)
at_most_7 s columns rows = (s.across columns rows, s.down columns rows)

-- ---- a candidate's slot is in the table, and so is that of its luma
pub slot_in : (w j n : ℕ) → w ≤ 7 → j < 7 → n < w → 1 + j * w + n < 50
slot_in w j n narrow low l = let last : j ≤ 6 = omega arith in omega (arith, mul-le-mul last narrow)

by_pel : (t : Bool) (column i : ℕ) → column ≤ i → cond t column i ≤ i
by_pel true column i h = h
by_pel false column i h = le_refl i

pub luma_column_low : (k : Choice) (column i : ℕ) → column ≤ i → luma_column k column i ≤ i
unfolding luma_column
luma_column_low k column i h = by_pel (lies_in (pos 1) (pos 1) k.pel) column i h

-- ---- a state, part by part
abbrev pub walk : ℤ → ℤ → ℤ → ℤ → ℕ → Walk
walk x y sad least column = record { x = x; y = y; sad = sad; least = least; column = column }

pub walks_alike : {X x Y y S s L l : ℤ} (column : ℕ) → X ≡ x → Y ≡ y → S ≡ s → L ≡ l → walk X Y S L column ≡ walk x y s l column
walks_alike column p q r t = cc

-- ---- at the head of row 0 the walk stands at the predictor
pub start_is : (k : Choice) (luma chroma : List ℕ) → walk k.x k.y (plain_sad k luma chroma) (plain_sad k luma chroma) 0 ≡ restarted (along_rows k luma chroma 0 (start k luma chroma))
unfolding restarted along_rows start
start_is k luma chroma = refl

-- ---- one more candidate, one more row
module _ (k : Choice) (luma chroma : List ℕ) (j : ℕ) where
  next : (i : ℕ) (s : Walk) → along_row k luma chroma j (i + 1) s ≡ candidate k luma chroma j i (along_row k luma chroma j i s)
  unfolding along_row
  next i s = rw add-one

  row_next : (from : Walk) → along_rows k luma chroma (j + 1) from ≡ along_row k luma chroma j (columns_of k) (restarted (along_rows k luma chroma j from))
  unfolding along_rows
  row_next from = rw add-one

  -- after n candidates of row j, where n is all of them, the walk stands at the head of the next row
  pub row_done : (n : ℕ) (from s : Walk) → n ≡ columns_of k → s ≡ along_row k luma chroma j n (restarted (along_rows k luma chroma j from)) →
      restarted s ≡ restarted (along_rows k luma chroma (j + 1) from)
  row_done n from s all so_far =
      let head = restarted (along_rows k luma chroma j from) in
      ap restarted (so_far ∙ ap (λ (m : ℕ). along_row k luma chroma j m head) all ∙ sym (row_next from))

  -- the state that a candidate leaves which is taken
  abbrev pub candidate_at : ℕ → Walk → Walk
  candidate_at i s =
      walk (k.least_x +ℤ pos i) (k.least_y +ℤ pos j) (pos (luma_of k luma j i s.column + chroma_of k chroma j i)) (after_chroma k luma chroma j i s.column) (s.column + 1)

  taken_is : (i : ℕ) (s : Walk) → candidate_at i s ≡ taken k luma chroma j i s
  unfolding taken
  taken_is i s = refl

  -- one candidate, from the state s that the walk has reached
  module _ (i : ℕ) (from s : Walk) (so_far : s ≡ along_row k luma chroma j i from) where
    step : along_row k luma chroma j (i + 1) from ≡ candidate k luma chroma j i s
    step = next i from ∙ ap (candidate k luma chroma j i) (sym so_far)

    pub too_far : le_z s.least (after_distance k j i) ≡ true → s ≡ along_row k luma chroma j (i + 1) from
    unfolding candidate
    too_far t = sym (step ∙ simp t)

    module _ (a : le_z s.least (after_distance k j i) ≡ false) where
      pub luma_over : le_z s.least (after_luma k luma j i s.column) ≡ true → advanced s ≡ along_row k luma chroma j (i + 1) from
      unfolding candidate
      luma_over t = sym (step ∙ simp (a, t))

      module _ (b : le_z s.least (after_luma k luma j i s.column) ≡ false) where
        pub chroma_over : le_z s.least (after_chroma k luma chroma j i s.column) ≡ true → advanced s ≡ along_row k luma chroma j (i + 1) from
        unfolding candidate
        chroma_over t = sym (step ∙ simp (a, b, t))

        pub better : le_z s.least (after_chroma k luma chroma j i s.column) ≡ false → candidate_at i s ≡ along_row k luma chroma j (i + 1) from
        unfolding candidate
        better t = taken_is i s ∙ sym (step ∙ simp (a, b, t))
