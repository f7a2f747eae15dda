-- Laws of Tables: how a loop fills a table, what each slot of it holds, that costs from a table of offsets are the table of costs, how large they are, and
-- that they look at the block's own samples alone. Assumes nothing.
use Rattle.std.specs.Prelude.{◌≡◌, Bool, ℤ, pos, negsuc, nat_abs, replicate, length}
use Rattle.std.proofs.Math.Path.{refl, ap}
use Rattle.std.proofs.Common.{sym, ◌∙◌, mul-le-mul, mul-le-mul_right}
use mathlib.Core.List.{List, [], ◌∷◌}
use Rattle.std.proofs.Math.Logic.{⊎_elim}
use Prim.Native.Nat.{ℕ, zero, suc, ◌+◌, ◌-◌, ◌*◌, ◌≤◌, ◌<◌}
use Rattle.std.proofs.Math.Numerals.{add-one}
use native.Mathlib.Omega.{arith}
use Rattle.std.proofs.Math.ListN.{get_or, set, length-set, length-replicate}
use Rattle.std.proofs.Math.Seq.{get_or-set_same, get_or-set_other}
use Rattle.std.specs.Int.Signed.{lt_z}
use Rattle.whole.specs.Signed.{lt_or_ge}
use Rattle.whole.specs.Interval.{Within, within_either, within_shr}
use Rattle.limits.specs.Limits.{shifted_by}
use Rattle.distance.specs.Distance.{Block}
use Rattle.distance.specs.Laws.{Agree, Bytes}
use Rattle.distance.proofs.Laws.{cost_most}
use Rattle.distance.proofs.Views.{cost_same}
use Rattle.plane.specs.declared.Place.{Place}
use Rattle.plane.specs.Places.{Near}
use Rattle.plane.specs.Reads.{sample_byte}
use Rattle.plane_view.specs.View.{place_block, place_cost}
use Rattle.choosing.specs.declared.Choice.{Choice}
use Rattle.choosing.specs.Choosing.{columns_of, rows_of, slot_of}
use Rattle.choosing.specs.Bounds.{Narrow, Small}
use Rattle.tables.specs.declared.Reference.{Reference}
use Rattle.tables.specs.Tables.{vector_offset, vector_cost, candidate_of, with_row, with_rows, with_predictor, table_of}
use Rattle.tables.specs.Tables.{slots_used, costs_upto, joined_upto, joined}
use Rattle.tables.specs.Bounds.{Nearby, Most}

-- ---- numbers
pub natural_most : {h : ℕ} {z : ℤ} → Within 0 h z → nat_abs z ≤ h
natural_most {z = pos n} p = omega arith
natural_most {z = negsuc n} p = absurd (omega arith)

pub shifted_within : {l h : ℕ} {z : ℤ} (s : ℤ) → Within l h z → Within l h (shifted_by z s)
shifted_within s p = within_either (lt_z s (pos 1)) p (within_shr 2 p)

-- ---- a table on the way
module _ {A : Type 0} (none : A) (k : Choice) (of : ℤ → ℤ → A) where
  pub row_none : (j : ℕ) (t : List A) → with_row none k of j 0 t ≡ t
  unfolding with_row
  row_none j t = refl

  pub row_next : (j n : ℕ) (t : List A) → with_row none k of j (n + 1) t ≡ set (with_row none k of j n t) (slot_of k j n) (candidate_of k of j n)
  unfolding with_row
  row_next j n t = rw add-one

  pub rows_none : (t : List A) → with_rows none k of 0 t ≡ t
  unfolding with_rows
  rows_none t = refl

  -- with no rows yet, the predictor's stands in slot 0
  pub predictor_first : {first : A} → first ≡ of k.x k.y → set (replicate 50 none) 0 first ≡ with_rows none k of 0 (with_predictor none k of)
  predictor_first e = ap (λ (v : A). set (replicate 50 none) 0 v) e ∙ sym (rows_none (with_predictor none k of))

  pub rows_next : (n : ℕ) (t : List A) → with_rows none k of (n + 1) t ≡ with_row none k of n (columns_of k) (with_rows none k of n t)
  unfolding with_rows
  rows_next n t = rw add-one

  pub all_rows : with_rows none k of (rows_of k) (with_predictor none k of) ≡ table_of none k of
  unfolding table_of
  all_rows = refl

module _ (scale : ℕ) (u v : List ℕ) where
  pub joined_none : joined_upto scale u v 0 ≡ replicate 50 0
  unfolding joined_upto
  joined_none = refl

  pub joined_next : (n : ℕ) → joined_upto scale u v (n + 1) ≡ set (joined_upto scale u v n) n ((get_or u n 0 + get_or v n 0) * scale)
  unfolding joined_upto
  joined_next n = rw add-one

-- ---- a candidate's slot lies in the table, and no two have one slot
pub record Inside (k : Choice) (j i : ℕ) : Type 0 where
  pub row : j < 7
  pub column : i < 7
  pub slot : 1 + j * columns_of k + i < 50

pub inside : {k : Choice} {j i : ℕ} → Narrow k → j < rows_of k → i < columns_of k → Inside k j i
inside {k} {j} {i} p l m =
    let narrow = p.across (omega arith) (omega arith) in
    let low = p.down (omega arith) (omega arith) in
    let t = mul-le-mul {n₁ = j} {m₁ = columns_of k} {n₂ = 6} {m₂ = 7} (omega arith) narrow in
    record { row = omega arith; column = omega arith; slot = omega arith }

rows_apart : (c : ℕ) {j i j' : ℕ} (i' : ℕ) → j < j' → i < c → j * c + i < j' * c + i'
rows_apart c {j} {i} {j'} i' l m =
    let t = mul-le-mul_right {m = j + 1} {n = j'} c (omega arith) in omega arith

-- ---- what each slot holds
module _ {A : Type 0} (none : A) (k : Choice) (of : ℤ → ℤ → A) where
  long_row : (j n : ℕ) (t : List A) → length (with_row none k of j n t) ≡ length t
  unfolding with_row
  long_row j zero t = refl
  long_row j (suc n) t = simp length-set (long_row j n t)

  long_rows : (n : ℕ) (t : List A) → length (with_rows none k of n t) ≡ length t
  unfolding with_rows
  long_rows zero t = refl
  long_rows (suc n) t = long_row n (columns_of k) (with_rows none k of n t) ∙ long_rows n t

  long_start : length (with_predictor none k of) ≡ 50
  long_start = simp length-set (length-replicate 50 none)

  -- a slot that a row doesn't write is as it was
  row_keeps : (j n slot : ℕ) (t : List A) → ((i : ℕ) → i < n → slot ≡ slot_of k j i → ⊥) → get_or (with_row none k of j n t) slot none ≡ get_or t slot none
  unfolding with_row
  row_keeps j zero slot t other = refl
  row_keeps j (suc n) slot t other =
      get_or-set_other (with_row none k of j n t) (slot_of k j n) slot (candidate_of k of j n) none (λ e. other n (omega arith) (omega arith))
      ∙ row_keeps j n slot t (λ i l. other i (omega arith))

  keeps_0 : (n : ℕ) (t : List A) → get_or (with_rows none k of n t) 0 none ≡ get_or t 0 none
  unfolding with_rows slot_of
  keeps_0 zero t = refl
  keeps_0 (suc n) t = row_keeps n (columns_of k) 0 (with_rows none k of n t) (λ i l e. omega arith) ∙ keeps_0 n t

  -- slot 0 is the predictor's
  pub slot_0 : get_or (table_of none k of) 0 none ≡ of k.x k.y
  unfolding table_of
  slot_0 =
      keeps_0 (rows_of k) (with_predictor none k of)
      ∙ get_or-set_same (replicate 50 none) 0 (of k.x k.y) none (omega (arith, length-replicate 50 none))

  row_holds : (j n i : ℕ) (t : List A) → i < n → slot_of k j i < length t → get_or (with_row none k of j n t) (slot_of k j i) none ≡ candidate_of k of j i
  unfolding with_row slot_of
  row_holds j zero i t l m = absurd (omega arith)
  row_holds j (suc n) i t l m =
      ⊎_elim
      (λ (b : i < n).
      get_or-set_other (with_row none k of j n t) (slot_of k j n) (slot_of k j i) (candidate_of k of j n) none (λ e. omega arith)
      ∙ row_holds j n i t b m)
      (λ b.
      let same : i ≡ n = omega arith in
      rw same (get_or-set_same (with_row none k of j n t) (slot_of k j n) (candidate_of k of j n) none (omega (arith, long_row j n t))))
      (lt_or_ge i n)

  rows_hold : (n j i : ℕ) (t : List A) → j < n → i < columns_of k → slot_of k j i < length t →
      get_or (with_rows none k of n t) (slot_of k j i) none ≡ candidate_of k of j i
  unfolding with_rows slot_of
  rows_hold zero j i t l m h = absurd (omega arith)
  rows_hold (suc n) j i t l m h =
      ⊎_elim
      (λ (b : j < n).
      row_keeps n (columns_of k) (slot_of k j i) (with_rows none k of n t) (λ i' a e. omega (arith, rows_apart (columns_of k) i' b m))
      ∙ rows_hold n j i t b m h)
      (λ b.
      let same : j ≡ n = omega arith in
      rw same (row_holds n (columns_of k) i (with_rows none k of n t) m (omega (arith, long_rows n t, ap (λ (r : ℕ). r * columns_of k) same))))
      (lt_or_ge j n)

  -- and slot 1 + j x columns + i the candidate's in column i of row j
  pub slot_candidate : {j i : ℕ} → Narrow k → j < rows_of k → i < columns_of k → get_or (table_of none k of) (slot_of k j i) none ≡ candidate_of k of j i
  unfolding table_of slot_of
  slot_candidate {j} {i} p l m =
      rows_hold (rows_of k) j i (with_predictor none k of) l m (omega (arith, (inside p l m).slot, long_start))

-- in two tables joined, a slot holds its two costs together, scaled
module _ (scale : ℕ) (u v : List ℕ) where
  long_joined : (n : ℕ) → length (joined_upto scale u v n) ≡ 50
  unfolding joined_upto
  long_joined zero = length-replicate {A = ℕ} 50 0
  long_joined (suc n) = simp length-set (long_joined n)

  upto_holds : (n slot : ℕ) → n ≤ 50 → slot < n → get_or (joined_upto scale u v n) slot 0 ≡ (get_or u slot 0 + get_or v slot 0) * scale
  unfolding joined_upto
  upto_holds zero slot k l = absurd (omega arith)
  upto_holds (suc n) slot k l =
      ⊎_elim
      (λ (b : slot < n). get_or-set_other (joined_upto scale u v n) n slot ((get_or u n 0 + get_or v n 0) * scale) 0 (λ e. omega arith)
      ∙ upto_holds n slot (omega arith) b)
      (λ b.
      let same : slot ≡ n = omega arith in
      rw same (get_or-set_same (joined_upto scale u v n) n ((get_or u n 0 + get_or v n 0) * scale) 0 (omega (arith, long_joined n))))
      (lt_or_ge slot n)

  pub slot_joined : {slot : ℕ} → slot < 50 → get_or (joined scale u v) slot 0 ≡ (get_or u slot 0 + get_or v slot 0) * scale
  slot_joined {slot} l = upto_holds 50 slot (omega arith) l

-- ---- costs from offsets
module _ (cost : ℤ → ℕ) (offsets : List ℤ) where
  pub costs_none : costs_upto cost offsets 0 ≡ replicate 50 0
  unfolding costs_upto
  costs_none = refl

  pub costs_next : (n : ℕ) → costs_upto cost offsets (n + 1) ≡ set (costs_upto cost offsets n) n (cost (get_or offsets n (pos 0)))
  unfolding costs_upto
  costs_next n = rw add-one

-- a window's slots lie in the table
pub slots_few : {k : Choice} → Narrow k → slots_used k ≤ 50
slots_few {k} p =
    ⊎_elim
    (λ (none : columns_of k < 1). let t = mul-le-mul {n₁ = rows_of k} {m₁ = columns_of k} {n₂ = rows_of k} {m₂ = 0} (omega arith) (omega arith) in omega arith)
    (λ (some : 1 ≤ columns_of k). by (rows_of k) some (λ j l. inside p l (omega arith)))
    (lt_or_ge (columns_of k) 1)
  where
    by : (rows : ℕ) → 1 ≤ columns_of k → ((j : ℕ) → j < rows → Inside k j (columns_of k - 1)) → 1 + rows * columns_of k ≤ 50
    by zero some last = omega arith
    by (suc j) some last = omega (arith, (last j (omega arith)).slot)

-- of a table of offsets they are the table of costs
module _ {k : Choice} (narrow : Narrow k) (cost : ℤ → ℕ) (offset-of : ℤ → ℤ → ℤ) where
  abbrev offsets : List ℤ
  offsets = table_of (pos 0) k offset-of

  abbrev each : ℤ → ℤ → ℕ
  each x y = cost (offset-of x y)

  abbrev after : ℕ → List ℕ
  after n = with_rows 0 k each n (with_predictor 0 k each)

  upto_row : (j i : ℕ) → j < rows_of k → i ≤ columns_of k → costs_upto cost offsets (1 + j * columns_of k) ≡ after j →
      costs_upto cost offsets (1 + j * columns_of k + i) ≡ with_row 0 k each j i (after j)
  unfolding with_row slot_of
  upto_row j zero l m e = ap (costs_upto cost offsets) (omega arith) ∙ e
  upto_row j (suc i) l m e =
      let held : get_or offsets (slot_of k j i) (pos 0) ≡ candidate_of k offset-of j i = slot_candidate (pos 0) k offset-of narrow l (omega arith) in
      ap (costs_upto cost offsets) (omega arith)
      ∙ costs_next cost offsets (slot_of k j i)
      ∙ ap (λ (t : List ℕ). set t (slot_of k j i) (cost (get_or offsets (slot_of k j i) (pos 0)))) (upto_row j i l (omega arith) e)
      ∙ ap (λ (at : ℤ). set (with_row 0 k each j i (after j)) (slot_of k j i) (cost at)) held

  upto_rows : (j : ℕ) → j ≤ rows_of k → costs_upto cost offsets (1 + j * columns_of k) ≡ after j
  unfolding with_rows
  upto_rows zero l =
      ap (costs_upto cost offsets) (omega arith)
      ∙ costs_next cost offsets 0
      ∙ ap (λ (t : List ℕ). set t 0 (cost (get_or offsets 0 (pos 0)))) (costs_none cost offsets)
      ∙ predictor_first 0 k each (ap cost (slot_0 (pos 0) k offset-of))
  upto_rows (suc j) l =
      ap (costs_upto cost offsets) (omega arith) ∙ upto_row j (columns_of k) (omega arith) (omega arith) (upto_rows j (omega arith))

  pub costs_of_offsets : costs_upto cost offsets (slots_used k) ≡ table_of 0 k each
  costs_of_offsets = upto_rows (rows_of k) (omega arith) ∙ all_rows 0 k each

-- ---- what holds of all that is stored holds of every slot
module _ {A : Type 0} (none : A) (Q : A → Type 0) where
  set_all : (t : List A) (at : ℕ) (v : A) → ((slot : ℕ) → Q (get_or t slot none)) → Q v → (slot : ℕ) → Q (get_or (set t at v) slot none)
  set_all [] at v p q slot = p slot
  set_all (x ∷ t) zero v p q zero = q
  set_all (x ∷ t) zero v p q (suc slot) = p (suc slot)
  set_all (x ∷ t) (suc at) v p q zero = p 0
  set_all (x ∷ t) (suc at) v p q (suc slot) = set_all t at v (λ n. p (suc n)) q slot

  none_all : Q none → (n slot : ℕ) → Q (get_or (replicate n none) slot none)
  none_all q zero slot = q
  none_all q (suc n) zero = q
  none_all q (suc n) (suc slot) = none_all q n slot

-- offsets are near
pub nearby_none : Nearby (replicate 50 (pos 0))
nearby_none = record { near = none_all (pos 0) Near (omega arith) 50 }

pub nearby_next : {offsets : List ℤ} (at : ℕ) {v : ℤ} → Nearby offsets → Near v → Nearby (set offsets at v)
nearby_next {offsets} at {v} p q = record { near = set_all (pos 0) Near offsets at v p.near q }

-- ---- how large costs are
abbrev UpTo : ℕ → ℕ → Type 0
UpTo m cost = cost ≤ m

pub most_zeros : (m : ℕ) → Most m (replicate 50 0)
most_zeros m = record { most = none_all 0 (UpTo m) (omega arith) 50 }

module _ (m : ℕ) (k : Choice) (cost : ℤ → ℤ → ℕ) (below : (x y : ℤ) → cost x y ≤ m) where
  row_most : (j n : ℕ) (t : List ℕ) → ((slot : ℕ) → get_or t slot 0 ≤ m) → (slot : ℕ) → get_or (with_row 0 k cost j n t) slot 0 ≤ m
  unfolding with_row
  row_most j zero t p slot = p slot
  row_most j (suc n) t p slot = set_all 0 (UpTo m) (with_row 0 k cost j n t) (slot_of k j n) _ (row_most j n t p) (below _ _) slot

  rows_most : (n : ℕ) (t : List ℕ) → ((slot : ℕ) → get_or t slot 0 ≤ m) → (slot : ℕ) → get_or (with_rows 0 k cost n t) slot 0 ≤ m
  unfolding with_rows
  rows_most zero t p slot = p slot
  rows_most (suc n) t p slot = row_most n (columns_of k) (with_rows 0 k cost n t) (rows_most n t p) slot

  -- a table's are at most what every vector's are
  pub table_most : Most m (table_of 0 k cost)
  unfolding table_of
  table_most = record { most = rows_most (rows_of k) (with_predictor 0 k cost) (set_all 0 (UpTo m) (replicate 50 0) 0 _ (most_zeros m).most (below _ _)) }

-- between bytes a vector's are at most 130,560
pub vector_most : (measure : Bool) (w h : ℕ) (block : Block) (samples : List ℕ) (place : Place) (r : Reference) →
    w ≤ 16 → h ≤ 16 → Bytes block → ((n : ℕ) → get_or samples n 0 < 256) →
    (vx vy : ℤ) → vector_cost measure w h block samples place r vx vy ≤ 130560
vector_most measure w h block samples place r k l bytes read vx vy =
    cost_most block (place_block samples place (vector_offset r vx vy)) bytes (λ y x. sample_byte samples read _) measure w h k l

-- two planes' together, scaled by at most 4, at most 1,044,480
pub scaled_most : {a b scale : ℕ} → a ≤ 130560 → b ≤ 130560 → scale ≤ 4 → (a + b) * scale ≤ 1044480
scaled_most {a} {b} {scale} p q l = mul-le-mul {n₁ = a + b} {m₁ = scale} {n₂ = 261120} {m₂ = 4} (omega arith) l

module _ {scale : ℕ} {u v : List ℕ} (p : Most 130560 u) (q : Most 130560 v) (l : scale ≤ 4) where
  joined_below : (n slot : ℕ) → get_or (joined_upto scale u v n) slot 0 ≤ 1044480
  unfolding joined_upto
  joined_below zero slot = (most_zeros 1044480).most slot
  joined_below (suc n) slot = set_all 0 (UpTo 1044480) (joined_upto scale u v n) n _ (joined_below n) (scaled_most (p.most n) (q.most n) l) slot

  pub joined_most : Most 1044480 (joined scale u v)
  joined_most = record { most = joined_below 50 }

-- choosing asks for less than 2^20
pub most_small : {m : ℕ} {t : List ℕ} → Most m t → m < 1048576 → Small t
most_small p l = record { below = λ slot. omega (arith, p.most slot) }

-- ---- costs look at the w x h samples of their block alone
pub costs_same : (measure : Bool) (w h : ℕ) (a b : Block) (samples : List ℕ) (place : Place) (offsets : List ℤ) (n : ℕ) → Agree w h a b →
    costs_upto (place_cost measure w h a samples place) offsets n ≡ costs_upto (place_cost measure w h b samples place) offsets n
unfolding costs_upto
costs_same measure w h a b samples place offsets zero e = refl
costs_same measure w h a b samples place offsets (suc n) e =
    rw (
      costs_same measure w h a b samples place offsets n e,
      cost_same w h a b (place_block samples place (get_or offsets n (pos 0))) (place_block samples place (get_or offsets n (pos 0)))
          e (λ i j l m. refl) measure,
    )
