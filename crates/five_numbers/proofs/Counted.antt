-- The count is 0 exactly where every sample compared at the vector was there, and all of them exactly where none was. Assumes nothing.
use Rattle.std.specs.Prelude.{◌≡◌, refl, Bool, true, false, cond, List, ◌↔◌, ℕ, ◌+◌, ◌*◌, ◌≤◌, ℤ, nat_abs}
use Rattle.std.proofs.Common.{sym, ◌∙◌, arith}
use Rattle.whole.specs.Signed.{holds}
use Rattle.records.specs.declared.Record.{Record}
use Rattle.window.specs.Windows.{is_negative}
use Rattle.absent_reads.specs.Absent.{absent_in, AllReal, NoneReal}
use Rattle.absent_reads.specs.Counts.{absent_most, none_absent, all_absent}
use Rattle.tables.specs.Tables.{vector_offset}
use Rattle.best.specs.declared.Task.{Task}
use Rattle.best.specs.Best.{width_of, height_of, luma_reference, chroma_width, chroma_height}
use Rattle.five_numbers.specs.Five.{luma_absent, plane_absent, chroma_absent, absent_at}
use Rattle.five_numbers.specs.Counted.{OfSamples, EachPlane, RealAt, NoneRealAt, in_all, compared_of}

-- ---- three counts that are each at most another, and together as large, are each as large
abbrev Alike : (negative : Bool) (l a b L A B : ℕ) → Type 0
Alike negative l a b L A B = (l ≡ L) × ((negative ≡ false → a ≡ A) × (negative ≡ false → b ≡ B))

apart : (negative : Bool) {l a b L A B : ℕ} → l ≤ L → a ≤ A → b ≤ B → l + cond negative 0 (a + b) ≡ L + cond negative 0 (A + B) → Alike negative l a b L A B
apart true p q r e = (omega arith, ((λ plain. absurd (holds (sym plain))), (λ plain. absurd (holds (sym plain)))))
apart false p q r e = (omega arith, ((λ _. omega arith), (λ _. omega arith)))

turned : {negative : Bool} {l a b L A B : ℕ} → Alike negative l a b L A B → Alike negative L A B l a b
turned k = (sym k.0, ((λ plain. sym (k.1.0 plain)), (λ plain. sym (k.1.1 plain))))

together : (negative : Bool) {l a b L C : ℕ} → Alike negative l a b L C C → l + cond negative 0 (a + b) ≡ in_all negative L C
together true k = omega (arith, k.0)
together false k = omega (arith, k.0, k.1.0 refl, k.1.1 refl)

-- ---- so the count is so large exactly where each plane's is
module _ (Q : OfSamples) (t : ℕ → ℕ → ℕ) (each : (s : List ℕ) (at : ℤ) (pitch w h : ℕ) → (absent_in s at pitch w h ≡ t w h) ↔ Q s at pitch w h)
    (task : Task) (given : Record) (referenceLuma referenceU referenceV : List ℕ) (x y : ℤ) where
  abbrev l : ℕ
  l = luma_absent task given referenceLuma x y

  abbrev a : ℕ
  a = plane_absent task given task.reference.u referenceU x y

  abbrev b : ℕ
  b = plane_absent task given task.reference.v referenceV x y

  abbrev L : ℕ
  L = t (width_of task given) (height_of task given)

  abbrev C : ℕ
  C = t (chroma_width task given) (chroma_height task given)

  planes_are : Alike (is_negative given) l a b L C C ↔ EachPlane task given referenceLuma referenceU referenceV x y Q
  unfolding luma_absent plane_absent
  planes_are = (
    (λ k. record { in_luma = (each _ _ _ _ _).0 k.0; in_u = λ plain. (each _ _ _ _ _).0 (k.1.0 plain); in_v = λ plain. (each _ _ _ _ _).0 (k.1.1 plain) }),
    (λ k. ((each _ _ _ _ _).1 k.in_luma, ((λ plain. (each _ _ _ _ _).1 (k.in_u plain)), (λ plain. (each _ _ _ _ _).1 (k.in_v plain))))),
  )

  count_is : (l + cond (is_negative given) 0 (a + b) ≡ in_all (is_negative given) L C → Alike (is_negative given) l a b L C C) →
      (absent_at task given referenceLuma referenceU referenceV x y ≡ in_all (is_negative given) L C)
      ↔ EachPlane task given referenceLuma referenceU referenceV x y Q
  unfolding absent_at chroma_absent
  count_is each-is = ((λ e. planes_are.0 (each-is e)), (λ k. together (is_negative given) (planes_are.1 k)))

module _ (task : Task) (given : Record) (referenceLuma referenceU referenceV : List ℕ) (x y : ℤ) where
  no_samples : (negative : Bool) → in_all negative 0 0 ≡ 0
  no_samples true = refl
  no_samples false = refl

  -- ---- 0 is that every sample was there
  pub count_none : (absent_at task given referenceLuma referenceU referenceV x y ≡ 0) ↔ RealAt task given referenceLuma referenceU referenceV x y
  count_none =
      let law = count_is AllReal (λ w h. 0) none_absent task given referenceLuma referenceU referenceV x y
      (λ e. turned (apart (is_negative given) (omega arith) (omega arith) (omega arith) (sym e))) in
      ((λ e. law.0 (e ∙ sym (no_samples (is_negative given)))), (λ k. law.1 k ∙ no_samples (is_negative given)))

  -- ---- and all that none was
  pub count_all : (absent_at task given referenceLuma referenceU referenceV x y ≡ compared_of task given)
      ↔ NoneRealAt task given referenceLuma referenceU referenceV x y
  unfolding luma_absent plane_absent
  count_all =
      count_is NoneReal (λ w h. w * h) all_absent task given referenceLuma referenceU referenceV x y
      (apart (is_negative given) (absent_most _ _ _ _ _) (absent_most _ _ _ _ _) (absent_most _ _ _ _ _))

  -- of luma alone: a count of w x h is that no luma sample was real
  pub luma_all : (luma_absent task given referenceLuma x y ≡ width_of task given * height_of task given)
      ↔ NoneReal referenceLuma (vector_offset (luma_reference task given) x y) (nat_abs task.reference.luma.pitch) (width_of task given) (height_of task given)
  unfolding luma_absent
  luma_all = all_absent _ _ _ _ _
