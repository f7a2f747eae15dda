-- What a choice is like: an empty window keeps the predictor; a tie keeps the earlier vector; the vector answered is the predictor or lies in the window,
-- and so fits i16; the SAD answered is the sum of two entries. Assumes nothing.
use Rattle.std.specs.Prelude.{◌≡◌, Bool, true, false, cond, List, ◌⊎◌, ℤ, pos, ◌+ℤ◌, ◌-ℤ◌, nat_abs, get_or, ◌≤ℤ◌}
use Rattle.std.proofs.Math.Path.{refl, ap}
use Rattle.std.proofs.Common.{◌∙◌, inl, ⊎_elim, le_refl, arith}
use Rattle.std.proofs.Math.Logic.{inr}
use Prim.Native.Nat.{ℕ, zero, suc, ◌+◌, ◌<◌, ◌≤◌}
use Rattle.std.specs.Int.Signed.{le_z}
use Rattle.whole.specs.Signed.{signed, add_is, diff_is, abs_is}
use Rattle.whole.specs.Interval.{Within}
use Rattle.choosing.specs.declared.Choice.{Choice}
use Rattle.choosing.specs.declared.Chosen.{Chosen}
use Rattle.choosing.specs.Choosing.{
  Walk,
  count_of,
  columns_of,
  rows_of,
  slot_of,
  luma_column,
  luma_of,
  chroma_of,
  after_distance,
  after_luma,
  after_chroma,
  advanced,
  restarted,
  taken,
  candidate,
  along_row,
  along_rows,
  plain_sad,
  start,
  answer_of,
  chosen,
  predictor_with,
  selected,
}
use Rattle.choosing.specs.Bounds.{Small, Ranged}

by_test : (t : Bool) (a b : Walk) (Q : Walk → Type 0) → (t ≡ true → Q a) → (t ≡ false → Q b) → Q (cond t a b)
by_test true a b Q f g = f refl
by_test false a b Q f g = g refl

module _ (k : Choice) (luma chroma : List ℕ) where
  -- ---- a candidate has four ways out: by each of the three tests, and taken
  module _ (j i : ℕ) (s : Walk) (Q : Walk → Type 0) where
    pub by_candidate :
        (le_z s.least (after_distance k j i) ≡ true → Q s) →
        (le_z s.least (after_distance k j i) ≡ false → le_z s.least (after_luma k luma j i s.column) ≡ true → Q (advanced s)) →
        (le_z s.least (after_distance k j i) ≡ false → le_z s.least (after_luma k luma j i s.column) ≡ false →
        le_z s.least (after_chroma k luma chroma j i s.column) ≡ true → Q (advanced s)) →
        (le_z s.least (after_distance k j i) ≡ false → le_z s.least (after_luma k luma j i s.column) ≡ false →
        le_z s.least (after_chroma k luma chroma j i s.column) ≡ false → Q (taken k luma chroma j i s)) →
        Q (candidate k luma chroma j i s)
    unfolding candidate
    by_candidate far near full take =
        by_test _ _ _ Q far (λ a. by_test _ _ _ Q (near a) (λ b. by_test _ _ _ Q (full a b) (take a b)))

  -- what every candidate of the window and every restart keep, the walk keeps
  module _ (Q : Walk → Type 0) (each : (j i : ℕ) (s : Walk) → j < rows_of k → i < columns_of k → Q s → Q (candidate k luma chroma j i s))
      (again : (s : Walk) → Q s → Q (restarted s)) where
    kept_along : (j n : ℕ) (s : Walk) → j < rows_of k → n ≤ columns_of k → Q s → Q (along_row k luma chroma j n s)
    unfolding along_row
    kept_along j zero s a b q = q
    kept_along j (suc n) s a b q = each j n (along_row k luma chroma j n s) a (omega arith) (kept_along j n s a (omega arith) q)

    kept_rows : (n : ℕ) (s : Walk) → n ≤ rows_of k → Q s → Q (along_rows k luma chroma n s)
    unfolding along_rows
    kept_rows zero s a q = q
    kept_rows (suc n) s a q =
        let before = along_rows k luma chroma n s in
        kept_along n (columns_of k) (restarted before) (omega arith) (le_refl (columns_of k)) (again before (kept_rows n s (omega arith) q))

    pub kept_walk : Q (start k luma chroma) → Q (along_rows k luma chroma (rows_of k) (start k luma chroma))
    kept_walk q = kept_rows (rows_of k) (start k luma chroma) (le_refl (rows_of k)) q

  -- ---- "An empty window keeps the predictor.", with its plain SAD, whichever side is empty
  no_walk : answer_of (along_rows k luma chroma 0 (start k luma chroma)) ≡ predictor_with k (plain_sad k luma chroma)
  unfolding answer_of along_rows start
  no_walk = refl

  pub empty_rows : rows_of k ≡ 0 → chosen k luma chroma ≡ predictor_with k (plain_sad k luma chroma)
  unfolding chosen
  empty_rows e = ap (λ (n : ℕ). answer_of (along_rows k luma chroma n (start k luma chroma))) e ∙ no_walk

  pub empty_columns : columns_of k ≡ 0 → chosen k luma chroma ≡ predictor_with k (plain_sad k luma chroma)
  unfolding chosen answer_of restarted start
  empty_columns e = kept_walk (λ s. answer_of s ≡ predictor_with k (plain_sad k luma chroma)) (λ j i s a b q. absurd (omega arith)) (λ s q. q) refl

  -- ---- a tie keeps the earlier vector, its SAD and the least cost
  abbrev Same : Walk → Walk → Type 0
  Same s t = (t.x ≡ s.x) × (t.y ≡ s.y) × (t.sad ≡ s.sad) × (t.least ≡ s.least)

  pub tie : (j i : ℕ) (s : Walk) → s.least ≤ℤ after_chroma k luma chroma j i s.column → Same s (candidate k luma chroma j i s)
  unfolding advanced
  tie j i s e =
      by_candidate j i s (Same s)
      (λ a. (refl, refl, refl, refl))
      (λ a b. (refl, refl, refl, refl))
      (λ a b d. (refl, refl, refl, refl))
      (λ a b d. absurd (omega signed))

  -- ---- the vector answered is the predictor, or the candidate in some column and row
  pub record Candidate (x y : ℤ) : Type 0 where
    pub i : ℕ
    pub j : ℕ
    pub in_columns : i < columns_of k
    pub in_rows : j < rows_of k
    pub x_is : x ≡ k.least_x +ℤ pos i
    pub y_is : y ≡ k.least_y +ℤ pos j

  abbrev pub Known : ℤ → ℤ → Type 0
  Known x y = ((x ≡ k.x) × (y ≡ k.y)) ⊎ Candidate x y

  pub known : Known (chosen k luma chroma).x (chosen k luma chroma).y
  unfolding chosen answer_of start restarted advanced taken
  known =
      kept_walk (λ s. Known s.x s.y)
      (λ j i s a b q. by_candidate j i s (λ t. Known t.x t.y) (λ _. q) (λ _ _. q) (λ _ _ _. q)
      (λ _ _ _. inr (record { i = i; j = j; in_columns = b; in_rows = a; x_is = refl; y_is = refl })))
      (λ s q. q) (inl (refl, refl))

  -- ---- the SAD answered is luma's of one slot and chroma's of one
  pub record Summed (sad : ℤ) : Type 0 where
    pub l : ℕ
    pub c : ℕ
    pub sad_is : sad ≡ pos (get_or luma l 0 + get_or chroma c 0)

  pub summed : Summed (chosen k luma chroma).sad
  unfolding chosen answer_of start restarted advanced taken luma_of chroma_of
  summed =
      kept_walk (λ s. Summed s.sad)
      (λ j i s a b q. by_candidate j i s (λ t. Summed t.sad) (λ _. q) (λ _ _. q) (λ _ _ _. q)
      (λ _ _ _. record { l = slot_of k j (luma_column k s.column i); c = slot_of k j i; sad_is = refl }))
      (λ s q. q) (record { l = 0; c = 0; sad_is = refl })

  pub sad_within : Small luma → Small chroma → Within 0 2097150 (chosen k luma chroma).sad
  sad_within a b =
      let q = summed in
      let e = q.sad_is in
      omega (signed, a.below q.l, b.below q.c)

-- ---- what is counted lies between the limits
by_order : (t : Bool) (least greatest : ℤ) (n : ℕ) → le_z least greatest ≡ t → n < cond t (nat_abs (greatest -ℤ least +ℤ pos 1)) 0 →
    (least ≤ℤ (least +ℤ pos n)) × ((least +ℤ pos n) ≤ℤ greatest)
by_order true least greatest n e h =
    let span = greatest -ℤ least in
    omega (signed, diff_is greatest least, add_is span (pos 1), abs_is (span +ℤ pos 1), add_is least (pos n))
by_order false least greatest n e h = absurd (omega arith)

pub counted_between : (least greatest : ℤ) (n : ℕ) → n < count_of least greatest → (least ≤ℤ (least +ℤ pos n)) × ((least +ℤ pos n) ≤ℤ greatest)
unfolding count_of
counted_between least greatest n h = by_order (le_z least greatest) least greatest n refl h

between : (least greatest : ℤ) {z : ℤ} (n : ℕ) → Within 32768 32767 least → Within 32768 32767 greatest → z ≡ least +ℤ pos n → n < count_of least greatest →
    Within 32768 32767 z
between least greatest n a b e h = let reach = counted_between least greatest n h in omega (signed, reach.0, reach.1)

-- so the vector fits i16 where the predictor and the window do, and finishing never answers 7 for it
pub record Vector (v : Chosen) : Type 0 where
  pub x : Within 32768 32767 v.x
  pub y : Within 32768 32767 v.y

pub chosen_ranged : (k : Choice) (luma chroma : List ℕ) → Ranged k → Vector (chosen k luma chroma)
chosen_ranged k luma chroma r =
    ⊎_elim
    (λ own. record { x = rw own.0 r.x; y = rw own.1 r.y })
    (λ q. record {
      x = between k.least_x k.greatest_x q.i r.least_x r.greatest_x q.x_is q.in_columns;
      y = between k.least_y k.greatest_y q.j r.least_y r.greatest_y q.y_is q.in_rows;
    })
    (known k luma chroma)

pub selected_ranged : (k : Choice) (bad negative : Bool) (sad : ℤ) (luma chroma : List ℕ) → Ranged k → Vector (selected k bad negative sad luma chroma)
unfolding selected
selected_ranged k true negative sad luma chroma r = let v = chosen_ranged k luma chroma r in record { x = v.x; y = v.y }
selected_ranged k false negative sad luma chroma r = record { x = r.x; y = r.y }
