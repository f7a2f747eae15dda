-- Two levels of one packed plane lie apart: they share no row, and where the pitch is at least the width no byte. Assumes nothing.
use Rattle.std.specs.Prelude.{◌≡◌, Bool, ℤ, pos, nat_abs, ◌≤ℤ◌}
use Rattle.std.proofs.Math.Path.{refl}
use Rattle.std.proofs.Common.{ap, subst, ◌∙◌}
use Rattle.std.proofs.Math.Bool.{true, false}
use Rattle.std.proofs.Math.Logic.{⊎_elim}
use Prim.Native.Nat.{ℕ, zero, suc, ◌+◌, ◌*◌, ◌/◌, ◌≤◌, ◌<◌}
use native.Mathlib.Omega.{arith}
use Rattle.std.proofs.Math.Arith.{digits_div}
use Rattle.std.specs.Int.Signed.{le_z}
use Rattle.whole.specs.Signed.{signed, abs_is, lt_or_ge}
use Rattle.whole.specs.Truth.{and_false}
use Rattle.plane.specs.declared.Place.{Place}
use Rattle.planes.specs.declared.Sides.{Sides}
use Rattle.level_places.specs.declared.SuperFrame.{SuperFrame}
use Rattle.level_places.specs.Levels.{size_after, whole_rows, finest_rows, level_rows, reduced_rows, rows_before, cut_at, place_of}
use Rattle.level_places.specs.Areas.{at_level, Packed, area_rows, InArea, Covers}

-- ---- rows: a level ends where a later one begins, or before
module _ (f : SuperFrame) (shift : ℤ) where
  more_reduced : (l m : ℕ) → l < m → reduced_rows f.frame.y shift l + level_rows f.frame.y shift (suc l) ≤ reduced_rows f.frame.y shift m
  unfolding reduced_rows
  more_reduced l zero h = absurd (omega arith)
  more_reduced l (suc m) h =
      ⊎_elim
      (λ (k : l < m). let before = more_reduced l m k in omega arith)
      (λ (k : m ≤ l). let e : l ≡ m = omega arith in rw e (omega arith))
      (lt_or_ge l m)

  finest : (t : Bool) → f.separate ≡ t → Packed f 0 → whole_rows f shift ≤ finest_rows f shift
  unfolding finest_rows
  finest true e packed = absurd (let none = packed e in omega arith)
  finest false e packed = rw e (omega arith)

  pub ends_before : (l m : ℕ) → Packed f l → l < m → rows_before f (pos l) shift + area_rows f shift l ≤ rows_before f (pos m) shift
  ends_before l zero packed h = absurd (omega arith)
  ends_before zero (suc m) packed h = let first = finest f.separate refl packed in omega arith
  ends_before (suc l) (suc m) packed h = let between = more_reduced l m (omega arith) in omega arith

  pub no_row_shared : (l m row : ℕ) → Packed f l → Packed f m → (l ≡ m → ⊥) → InArea f shift l row → InArea f shift m row → ⊥
  no_row_shared l m row packed-l packed-m other a b =
      let a-from = a.from in
      let a-to = a.to in
      let b-from = b.from in
      let b-to = b.to in
      ⊎_elim
      (λ h. let apart = ends_before l m packed-l h in omega arith)
      (λ h. ⊎_elim (λ k. let apart = ends_before m l packed-m k in omega arith) (λ k. other (omega arith)) (lt_or_ge m l))
      (lt_or_ge l m)

-- ---- bytes
module _ (f : SuperFrame) (shift : Sides) (pitch : ℤ) where
  -- where a packed level's plane lies: in front of it stand so many rows, and it has so many
  pub record LiesAt (n : ℕ) (p : Place) : Type 0 where
    pub base_is : p.base ≡ rows_before f (pos n) shift.y * nat_abs pitch
    pub pitch_is : p.pitch ≡ pitch
    pub rows_are : nat_abs p.pel * nat_abs p.pel * nat_abs p.height ≡ area_rows f shift.y n

  pub packed_lies : (n : ℕ) (source : ℤ) → Packed f n → LiesAt n (place_of (at_level f n) shift pitch source)
  unfolding place_of cut_at whole_rows finest_rows level_rows size_after
  packed_lies zero source packed = by f.separate refl
    where
      by : (t : Bool) → f.separate ≡ t → LiesAt 0 (place_of (at_level f 0) shift pitch source)
      by true e = absurd (let none = packed e in omega arith)
      by false e = rw e (record { base_is = refl; pitch_is = refl; rows_are = refl })
  packed_lies (suc n) source packed =
      let later : le_z (pos (suc n)) (pos 0) ≡ false = omega signed in
      let natural : le_z (pos 0) (pos (suc n)) ≡ true = omega signed in
      simp (later, natural, and_false) (record { base_is = refl; pitch_is = refl; rows_are = omega arith })

  -- a byte of it stands in one of these rows
  pub covered_row : (n : ℕ) {p : Place} (byte : ℕ) → LiesAt n p → p.width ≤ℤ pitch → Covers p byte → InArea f shift.y n (byte / nat_abs pitch)
  covered_row n {p} byte lies wide c =
      let before = rows_before f (pos n) shift.y in
      let step = nat_abs pitch in
      let low : c.column < step = let left = c.column_in in omega (signed, abs_is pitch) in
      let there : byte ≡ (before + c.row) * step + c.column =
      c.at
      ∙ ap (λ (k : ℕ). k + (c.row * nat_abs p.pitch + c.column)) lies.base_is
      ∙ ap (λ (z : ℤ). before * step + (c.row * nat_abs z + c.column)) lies.pitch_is
      ∙ omega arith in
      let at : byte / step ≡ before + c.row = ap (λ (k : ℕ). k / step) there ∙ digits_div (before + c.row) low in
      let last : c.row < area_rows f shift.y n = subst (λ (k : ℕ). c.row < k) lies.rows_are c.row_in in
      rw at (record { from = omega arith; to = omega arith })

  pub no_byte_shared : (l m : ℕ) {p q : Place} (byte : ℕ) → Packed f l → Packed f m → (l ≡ m → ⊥) → LiesAt l p → LiesAt m q →
      p.width ≤ℤ pitch → q.width ≤ℤ pitch → Covers p byte → Covers q byte → ⊥
  no_byte_shared l m byte packed-l packed-m other p-lies q-lies p-wide q-wide a b =
      no_row_shared f shift.y l m (byte / nat_abs pitch) packed-l packed-m other (covered_row l byte p-lies p-wide a) (covered_row m byte q-lies q-wide b)
