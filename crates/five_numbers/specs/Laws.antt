-- That an answered vector can be counted at, and how large a count is. Assumes nothing.
use Rattle.std.specs.Prelude.{◌≡◌, Bool, List, ℕ, ◌+◌, ◌≤◌, ℤ, nat_abs}
use Rattle.std.proofs.Math.Bool.{true, false, cond}
use Rattle.std.proofs.Math.Nat.{mul-le-mul}
use native.Mathlib.Omega.{arith}
use Rattle.whole.specs.Interval.{within_more}
use Rattle.records.specs.declared.Record.{Record}
use Rattle.window.specs.Windows.{is_bad, is_negative}
use Rattle.plane.specs.declared.Place.{Place}
use Rattle.absent_reads.specs.Counts.{absent_most}
use Rattle.choosing.specs.Answers.{selected_ranged}
use Rattle.tables.specs.Tables.{vector_offset}
use Rattle.best.specs.declared.Task.{Task}
use Rattle.best.specs.Best.{width_of, height_of, choice_of, luma_reference, chroma_width, chroma_height, chroma_reference, best_of}
use Rattle.best.specs.Fair.{Fair}
use Rattle.best.specs.Laws.{searched_sized, chroma_sized}
use Rattle.five_numbers.specs.Five.{luma_absent, plane_absent, chroma_absent, absent_at}
use Rattle.five_numbers.specs.Asked.{Aimed}

module _ {task : Task} {given : Record} (fair : Fair task given) where
  -- ---- the vector that a bad block answers fits i16
  pub answered_aimed : is_bad given ≡ true → (luma u v referenceLuma referenceU referenceV : List ℕ) →
      let best = best_of task given luma u v referenceLuma referenceU referenceV in Aimed best.x best.y
  unfolding best_of
  answered_aimed bad luma u v referenceLuma referenceU referenceV =
      let vector = selected_ranged (choice_of task given) (is_bad given) (is_negative given) given.sad _ _ (fair.served bad).ranged in
      record { x_in = within_more vector.x tt tt; y_in = within_more vector.y tt tt }

  -- ---- "16x16" at most in each plane: 256 samples
  pub luma_few : (referenceLuma : List ℕ) (x y : ℤ) → luma_absent task given referenceLuma x y ≤ 256
  unfolding luma_absent
  luma_few referenceLuma x y =
      let size = searched_sized fair in
      let at = vector_offset (luma_reference task given) x y in
      let most = absent_most referenceLuma at (nat_abs task.reference.luma.pitch) (width_of task given) (height_of task given) in
      omega (arith, most, mul-le-mul size.wide size.high)

  pub plane_few : (own : Place) (reference : List ℕ) (x y : ℤ) → plane_absent task given own reference x y ≤ 256
  unfolding plane_absent
  plane_few own reference x y =
      let size = chroma_sized fair in
      let at = vector_offset (chroma_reference task given) x y in
      let most = absent_most reference at (nat_abs own.pitch) (chroma_width task given) (chroma_height task given) in
      omega (arith, most, mul-le-mul size.wide size.high)

  pub chroma_few : (referenceU referenceV : List ℕ) (x y : ℤ) → chroma_absent task given referenceU referenceV x y ≤ 512
  unfolding chroma_absent
  chroma_few referenceU referenceV x y = omega (arith, plane_few task.reference.u referenceU x y, plane_few task.reference.v referenceV x y)

  -- in all three 768
  pub absent_few : (referenceLuma referenceU referenceV : List ℕ) (x y : ℤ) → absent_at task given referenceLuma referenceU referenceV x y ≤ 768
  unfolding absent_at
  absent_few referenceLuma referenceU referenceV x y =
      by (is_negative given) (luma_few referenceLuma x y) (chroma_few referenceU referenceV x y)
    where
      by : {l c : ℕ} (negative : Bool) → l ≤ 256 → c ≤ 512 → l + cond negative 0 c ≤ 768
      by true p q = omega arith
      by false p q = omega arith
