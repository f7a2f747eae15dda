-- At pel 2 or 4 the SAD that a bad block answers is the cost of the vector that it answers, so that it is 0 exactly where all samples compared there
-- agree: luma's, and of a plain block U's and V's. A sample outside the data, or without an offset, counts 0 on either side. Assumes nothing.
use Rattle.std.specs.Prelude.{◌≡◌, refl, Bool, true, false, cond, List, ℕ, ◌+◌, ◌*◌, ◌/◌, ◌^◌, ◌≤◌, ◌<◌, ℤ, pos, nat_abs, get_or}
use Rattle.std.proofs.Common.{sym, ap, subst, ◌∙◌, mul-le-mul, arith, SFits}
use Rattle.std.proofs.Math.Logic.{⊎_elim}
use Rattle.std.proofs.Math.Nat.{one-le-pow}
use Rattle.std.specs.Int.{w32}
use Rattle.whole.specs.Numbers.{lies_in}
use Rattle.whole.specs.Signed.{holds, fit}
use Rattle.whole.specs.Wrapping.{wrapped_same}
use Rattle.records.specs.declared.Record.{Record}
use Rattle.window.specs.Windows.{is_bad, is_negative}
use Rattle.distance.specs.Distance.{Block, cost_of}
use Rattle.distance.specs.Laws.{Agree}
use Rattle.distance.proofs.Laws.{cost_distance}
use Rattle.choosing.specs.declared.Choice.{Choice}
use Rattle.choosing.specs.Choosing.{slot_of, tripled_of, selected}
use Rattle.choosing.specs.Entries.{Own, sad_of_the_vector}
use Rattle.tables.specs.Laws.{inside, slot_0, slot_candidate}
use Rattle.best.specs.declared.Task.{Task}
use Rattle.best.specs.declared.Best.{Best}
use Rattle.best.specs.Best.{choice_of, luma_table}
use Rattle.best.specs.Best.{scale_of, chromas_of, best_of}
use Rattle.best.specs.Fair.{Comparable}
use Rattle.best.specs.VectorCosts.{cost_at}
use Rattle.best.proofs.VectorCosts.{held}
use Rattle.best.specs.Laws.{Sized, searched_sides, chroma_sides, luma_most_at}
use Rattle.best.specs.Zero.{AgreeAt}

-- ---- a cost over one of the five sizes is 0 exactly between blocks that agree
module _ (measure : Bool) {w h : ℕ} (size : Sized w h) (a b : Block) where
  zero_agrees : cost_of measure w h a b ≡ 0 → Agree w h a b
  zero_agrees =
      subst (λ (n : ℕ). cost_of measure n h a b ≡ 0 → Agree n h a b) size.columns
      (subst (λ (n : ℕ). cost_of measure (4 * (w / 4)) n a b ≡ 0 → Agree (4 * (w / 4)) n a b) size.rows
      ((cost_distance measure (w / 4) (h / 4)).zero_only a b))

  agree_zero : Agree w h a b → cost_of measure w h a b ≡ 0
  agree_zero =
      subst (λ (n : ℕ). Agree n h a b → cost_of measure n h a b ≡ 0) size.columns
      (subst (λ (n : ℕ). Agree (4 * (w / 4)) n a b → cost_of measure (4 * (w / 4)) n a b ≡ 0) size.rows
      ((cost_distance measure (w / 4) (h / 4)).agree a b))

-- ---- sums, scales and triples that are 0
parts_0 : (negative : Bool) (l c : ℕ) → l + cond negative 0 c ≡ 0 → (l ≡ 0) × (negative ≡ false → c ≡ 0)
parts_0 true l c e = (omega arith, λ no. absurd (holds (sym no)))
parts_0 false l c e = (omega arith, λ _. omega arith)

scaled_0 : {a b : ℕ} (n : ℕ) → (a + b) * 4 ^ n ≡ 0 → (a ≡ 0) × (b ≡ 0)
scaled_0 {a} {b} n e =
    let more = mul-le-mul {n₁ = a + b} {m₁ = 1} {n₂ = a + b} {m₂ = 4 ^ n} (omega arith) (one-le-pow n 4 (omega arith)) in
    (omega arith, omega arith)

none_of : {l a b : ℕ} (negative : Bool) (scale : ℕ) →
    l ≡ 0 → (negative ≡ false → a ≡ 0) → (negative ≡ false → b ≡ 0) → l + cond negative 0 ((a + b) * scale) ≡ 0
none_of true scale e f g = omega arith
none_of {l} {a} {b} false scale e f g = rw (e, f refl, g refl) (omega arith)

tripled_none : (negative : Bool) → tripled_of negative (pos 0) ≡ pos 0
unfolding tripled_of
tripled_none true = refl
tripled_none false = refl

-- a luma cost of at most 130,560 is tripled without wrapping, so that no other than 0 is tripled to 0
tripled_0 : (negative : Bool) (l c : ℕ) → l ≤ 130560 → tripled_of negative (pos (l + cond negative 0 c)) ≡ pos 0 → l + cond negative 0 c ≡ 0
unfolding tripled_of
tripled_0 true l c small e =
    let f : SFits w32 (pos ((l + 0) * 3)) = fit (omega arith) (omega arith) in
    let same : pos ((l + 0) * 3) ≡ pos 0 = sym (wrapped_same w32 f) ∙ e in
    let none : (l + 0) * 3 ≡ 0 = ap nat_abs same in omega arith
tripled_0 false l c small e = ap nat_abs e

module _ (task : Task) (given : Record) (luma u v referenceLuma referenceU referenceV : List ℕ) where
  abbrev Agreed : ℤ → ℤ → Type 0
  Agreed x y = AgreeAt task given luma u v referenceLuma referenceU referenceV x y

  abbrev k : Choice
  k = choice_of task given

  abbrev lumas : List ℕ
  lumas = luma_table task given luma referenceLuma

  abbrev chromas : List ℕ
  chromas = chromas_of task given u v referenceU referenceV

  module _ (known : Comparable task given) (bad : is_bad given ≡ true) (other : lies_in (pos 1) (pos 1) task.pel ≡ false) where
    own_cost : {x y sad : ℤ} → Own k lumas chromas x y sad → sad ≡ pos (cost_at task given luma u v referenceLuma referenceU referenceV x y)
    unfolding slot_of
    own_cost =
        ⊎_elim
        (λ q. rw (q.0, q.1) (q.2 ∙ held task given luma u v referenceLuma referenceU referenceV (omega arith) (slot_0 0 k)))
        (λ q.
        let narrow = known.narrow bad in
        rw (q.x_is, q.y_is)
        (q.sad_is
        ∙ held task given luma u v referenceLuma referenceU referenceV (inside narrow q.in_rows q.in_columns).slot
        (λ cost. slot_candidate 0 k cost narrow q.in_rows q.in_columns)))

    -- ---- the SAD answered is the cost of the vector answered, tripled where the block is negative
    abbrev pub best : Best
    best = best_of task given luma u v referenceLuma referenceU referenceV

    pub sad_is : best.sad ≡ tripled_of (is_negative given) (pos (cost_at task given luma u v referenceLuma referenceU referenceV best.x best.y))
    unfolding best_of selected
    sad_is = simp bad (ap (tripled_of (is_negative given)) (own_cost (sad_of_the_vector k lumas chromas other)))

    -- ---- the zero law: it is 0 where all samples compared at that vector agree
    pub zero_where_agreed : Agreed best.x best.y → best.sad ≡ pos 0
    zero_where_agreed q =
        sad_is
        ∙ ap (λ (n : ℕ). tripled_of (is_negative given) (pos n))
        (none_of (is_negative given) (scale_of task given)
        (agree_zero task.measure (searched_sides task given known.block_in) _ _ q.in_luma)
        (λ plain. agree_zero task.measure (chroma_sides task given known.block_in) _ _ (q.in_u plain))
        (λ plain. agree_zero task.measure (chroma_sides task given known.block_in) _ _ (q.in_v plain)))
        ∙ tripled_none (is_negative given)

    -- and, between bytes, only there
    module _ (bytes : (n : ℕ) → get_or luma n 0 < 256) (reference-bytes : (n : ℕ) → get_or referenceLuma n 0 < 256) where
      cost_0 : best.sad ≡ pos 0 → cost_at task given luma u v referenceLuma referenceU referenceV best.x best.y ≡ 0
      cost_0 e = tripled_0 (is_negative given) _ _ (luma_most_at task given known.block_in luma referenceLuma bytes reference-bytes best.x best.y)
          (sym sad_is ∙ e)

      pub zero_only : best.sad ≡ pos 0 → Agreed best.x best.y
      zero_only e =
          let none = parts_0 (is_negative given) _ _ (cost_0 e) in
          record {
            in_luma = zero_agrees task.measure (searched_sides task given known.block_in) _ _ none.0;
            in_u = λ plain. zero_agrees task.measure (chroma_sides task given known.block_in) _ _ (scaled_0 (nat_abs task.shift) (none.1 plain)).0;
            in_v = λ plain. zero_agrees task.measure (chroma_sides task given known.block_in) _ _ (scaled_0 (nat_abs task.shift) (none.1 plain)).1;
          }
