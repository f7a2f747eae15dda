-- Where a block stands in the walk, as a relation with one case for each exit of recalc.rs's rule. The walk has each block where it stands, the rule gives
-- its position and its block there, and every index and every block of the grid is one of the cases. Assumes nothing.
use Rattle.std.specs.Prelude.{◌≡◌, Bool, cond, ◌⊎◌, ℕ, zero, suc, ◌+◌, ◌-◌, ◌*◌, ◌/◌, ◌%◌, ◌≤◌, ◌<◌, eqb}
use Rattle.std.proofs.Math.Path.{refl, sym, ap}
use Rattle.std.proofs.Common.{◌∙◌, inl, inr, ⊎_elim, mul-le-mul_right, div-add-mod', mod-lt, div-lt_iff_lt-mul, length-append}
use mathlib.Core.List.{List, [], ◌∷◌, ◌++◌, reverse, append_assoc}
use Rattle.std.proofs.Math.Bool.{true, false}
use native.Mathlib.Omega.{arith}
use Rattle.std.proofs.Math.Arith.{digits_div, digits_mod}
use Rattle.std.proofs.Math.ListN.{length, get_or, length-reverse, get_or-append}
use Rattle.std.proofs.Math.Seq.{get_or-append-add}
use borrow.Author.Tests.{lt-ltb, le-ltb, eq-eqb, ne_eqb, eqb-true, eqb-false}
use Rattle.whole.specs.Signed.{lt_or_ge}
use Rattle.serpentine.specs.declared.Place.{Place}
use Rattle.serpentine.specs.Walk.{at, each, row, walk}
use Rattle.serpentine.specs.Pieces.{each_long, each_at, turned_at, singles_at, singles_long}
use Rattle.serpentine.specs.Rule.{interior, rule_position, cap_block, end_block, rule_block}

-- b stands at the index p. In the interior i counts the rows and j the blocks of a row as the walk goes; elsewhere i counts the rows between, from 0.
pub data Stands (nx ny p : ℕ) (b : Place) : Type 0 where
  forth : (i j : ℕ) → i < ny - 2 → j < nx - 2 → (1 + i) % 2 ≡ 0 → p ≡ i * (nx - 2) + j → b ≡ at (1 + j) (1 + i) → Stands nx ny p b
  back : (i j : ℕ) → i < ny - 2 → j < nx - 2 → ((1 + i) % 2 ≡ 0 → ⊥) → p ≡ i * (nx - 2) + j → b ≡ at (nx - 2 - j) (1 + i) → Stands nx ny p b
  top : (x : ℕ) → x < nx → p ≡ interior nx ny + 2 * x → b ≡ at x 0 → Stands nx ny p b
  bottom : (x : ℕ) → x < nx → p ≡ interior nx ny + 2 * x + 1 → b ≡ at x (ny - 1) → Stands nx ny p b
  left : (i : ℕ) → i < ny - 2 → p ≡ interior nx ny + 2 * nx + 2 * i → b ≡ at 0 (1 + i) → Stands nx ny p b
  right : (i : ℕ) → i < ny - 2 → p ≡ interior nx ny + 2 * nx + 2 * i + 1 → b ≡ at (nx - 1) (1 + i) → Stands nx ny p b

-- ---- the rows of the interior
module _ (nx y : ℕ) where
  rightward : List Place
  rightward = each (nx - 2) (λ i. at (1 + i) y ∷ [])

  right_long : length rightward ≡ nx - 2
  unfolding rightward
  right_long = singles_long (λ i. at (1 + i) y) (nx - 2)

  row_long : length (row nx y) ≡ nx - 2
  unfolding row rightward
  row_long = go (eqb (y % 2) 0)
    where
      go : (t : Bool) → length (cond t rightward (reverse rightward)) ≡ nx - 2
      go true = right_long
      go false = length-reverse rightward ∙ right_long

  module _ (j : ℕ) (d : Place) (h : j < nx - 2) where
    row_forth : y % 2 ≡ 0 → get_or (row nx y) j d ≡ at (1 + j) y
    unfolding row rightward
    row_forth e = rw (eq-eqb (y % 2) 0 e) (singles_at (λ i. at (1 + i) y) (nx - 2) j d h)

    row_back : (y % 2 ≡ 0 → ⊥) → get_or (row nx y) j d ≡ at (nx - 2 - j) y
    unfolding row rightward
    row_back e =
        let l = right_long in
        let there : 1 + (length rightward - 1 - j) ≡ nx - 2 - j = omega arith in
        rw (ne_eqb (y % 2) 0 e)
        (turned_at rightward j d (omega arith) ∙ singles_at (λ i. at (1 + i) y) (nx - 2) (length rightward - 1 - j) d (omega arith)
        ∙ ap (λ (z : ℕ). at z y) there)

-- ---- sums and products, over plain variables
-- the interior, the top and the bottom row, and two ends of each row between
pub blocks_are : (nx ny : ℕ) → 2 ≤ nx → 2 ≤ ny → nx * ny ≡ interior nx ny + 2 * nx + 2 * (ny - 2)
blocks_are nx ny W H = go (nx - 2) (ny - 2) nx ny (omega arith) (omega arith)
  where
    go : (w h a b : ℕ) → a ≡ w + 2 → b ≡ h + 2 → a * b ≡ h * w + 2 * a + 2 * h
    go w h a b e f = omega (arith, ap (λ (z : ℕ). z * b) e, ap (λ (z : ℕ). (w + 2) * z) f)

-- a place in a row of so many rows
in_row : (i j h w : ℕ) → i < h → j < w → i * w + j < h * w
in_row i j h w l m = omega (arith, mul-le-mul_right w l)

pub wide_of : (h w p : ℕ) → p < h * w → 0 < w
wide_of h zero p l = omega arith
wide_of h (suc w) p l = omega arith

-- ---- two cases of a number
eq_or_ne : (a b : ℕ) → (a ≡ b) ⊎ (a ≡ b → ⊥)
eq_or_ne a b = go (eqb a b) refl
  where
    go : (t : Bool) → eqb a b ≡ t → (a ≡ b) ⊎ (a ≡ b → ⊥)
    go true e = inl (eqb-true a b e)
    go false e = inr (eqb-false a b e)

halves : (t : ℕ) → (t ≡ 2 * (t / 2)) ⊎ (t ≡ 2 * (t / 2) + 1)
halves t = ⊎_elim (λ l. inl (omega arith)) (λ l. inr (omega arith)) (lt_or_ge (t % 2) 1)

up : {y : ℕ} → (y ≡ 0 → ⊥) → 1 + (y - 1) ≡ y
up h = omega arith

alike : {a b c d : ℕ} → a ≡ b → c ≡ d → at a c ≡ at b d
alike e f = λ i. at (e i) (f i)

down : (i : ℕ) → 1 + i - 1 ≡ i
down i = omega arith

-- ---- the rule's second and third part, at an even and at an odd index
module _ (n k : ℕ) {t : ℕ} where
  cap_even : t ≡ 2 * k → cap_block n t ≡ at k 0
  cap_even e = alike (omega arith) (rw (eq-eqb (t % 2) 0 (omega arith)))

  cap_odd : t ≡ 2 * k + 1 → cap_block n t ≡ at k (n - 1)
  cap_odd e = alike (omega arith) (rw (ne_eqb (t % 2) 0 (omega arith)))

  end_even : t ≡ 2 * k → end_block n t ≡ at 0 (1 + k)
  end_even e = alike (rw (eq-eqb (t % 2) 0 (omega arith))) (omega arith)

  end_odd : t ≡ 2 * k + 1 → end_block n t ≡ at (n - 1) (1 + k)
  end_odd e = alike (rw (ne_eqb (t % 2) 0 (omega arith))) (omega arith)

inside : {nx ny x y : ℕ} {b : Place} → b ≡ at x y → x < nx → y < ny → (b.x < nx) × (b.y < ny)
inside e h l = (omega (arith, ap (λ (c : Place). c.x) e), omega (arith, ap (λ (c : Place). c.y) e))

module _ (nx ny : ℕ) (W : 2 ≤ nx) (H : 2 ≤ ny) where
  -- ---- the three parts of the walk
  rows : List Place
  rows = each (ny - 2) (λ i. row nx (1 + i))

  caps : List Place
  caps = each nx (λ x. at x 0 ∷ at x (ny - 1) ∷ [])

  ends : List Place
  ends = each (ny - 2) (λ i. at 0 (1 + i) ∷ at (nx - 1) (1 + i) ∷ [])

  rows_long : length rows ≡ interior nx ny
  unfolding rows
  rows_long = each_long (nx - 2) (λ i. row nx (1 + i)) (λ i. row_long nx (1 + i)) (ny - 2)

  caps_long : length caps ≡ nx * 2
  unfolding caps
  caps_long = each_long 2 (λ x. at x 0 ∷ at x (ny - 1) ∷ []) (λ i. refl) nx

  ends_long : length ends ≡ (ny - 2) * 2
  unfolding ends
  ends_long = each_long 2 (λ i. at 0 (1 + i) ∷ at (nx - 1) (1 + i) ∷ []) (λ i. refl) (ny - 2)

  parts : walk nx ny ≡ rows ++ (caps ++ ends)
  unfolding walk rows caps ends
  parts = append_assoc rows caps ends

  pub walk_length : length (walk nx ny) ≡ nx * ny
  walk_length =
      ap length parts ∙ length-append rows (caps ++ ends)
      ∙ omega (arith, length-append caps ends, rows_long, caps_long, ends_long, blocks_are nx ny W H)

  module _ (p : ℕ) (d : Place) where
    in_rows : (i j : ℕ) → i < ny - 2 → j < nx - 2 → p ≡ i * (nx - 2) + j → get_or (walk nx ny) p d ≡ get_or (row nx (1 + i)) j d
    unfolding rows
    in_rows i j I J e =
        ap (λ (l : List Place). get_or l p d) parts
        ∙ get_or-append rows (caps ++ ends) d p (omega (arith, rows_long, in_row i j (ny - 2) (nx - 2) I J))
        ∙ ap (λ (z : ℕ). get_or rows z d) e
        ∙ each_at (nx - 2) (λ i. row nx (1 + i)) (λ i. row_long nx (1 + i)) (ny - 2) i j d I J

    in_caps : (x j : ℕ) → x < nx → j < 2 → p ≡ interior nx ny + (x * 2 + j) → get_or (walk nx ny) p d ≡ get_or (at x 0 ∷ at x (ny - 1) ∷ []) j d
    unfolding caps
    in_caps x j X J e =
        let here : p ≡ length rows + (x * 2 + j) = omega (arith, rows_long) in
        ap (λ (l : List Place). get_or l p d) parts
        ∙ ap (λ (z : ℕ). get_or (rows ++ (caps ++ ends)) z d) here
        ∙ get_or-append-add rows (caps ++ ends) (x * 2 + j) d
        ∙ get_or-append caps ends d (x * 2 + j) (omega (arith, caps_long))
        ∙ each_at 2 (λ x. at x 0 ∷ at x (ny - 1) ∷ []) (λ i. refl) nx x j d X J

    in_ends : (i j : ℕ) → i < ny - 2 → j < 2 → p ≡ interior nx ny + (2 * nx + (i * 2 + j)) →
        get_or (walk nx ny) p d ≡ get_or (at 0 (1 + i) ∷ at (nx - 1) (1 + i) ∷ []) j d
    unfolding ends
    in_ends i j I J e =
        let here : p ≡ length rows + (length caps + (i * 2 + j)) = omega (arith, rows_long, caps_long) in
        ap (λ (l : List Place). get_or l p d) parts
        ∙ ap (λ (z : ℕ). get_or (rows ++ (caps ++ ends)) z d) here
        ∙ get_or-append-add rows (caps ++ ends) (length caps + (i * 2 + j)) d
        ∙ get_or-append-add caps ends (i * 2 + j) d
        ∙ each_at 2 (λ i. at 0 (1 + i) ∷ at (nx - 1) (1 + i) ∷ []) (λ i. refl) (ny - 2) i j d I J

  -- ---- the walk has a block where it stands
  pub walk_has : (p : ℕ) (b d : Place) → Stands nx ny p b → get_or (walk nx ny) p d ≡ b
  walk_has p b d (forth i j I J even e f) = in_rows p d i j I J e ∙ row_forth nx (1 + i) j d J even ∙ sym f
  walk_has p b d (back i j I J odd e f) = in_rows p d i j I J e ∙ row_back nx (1 + i) j d J odd ∙ sym f
  walk_has p b d (top x X e f) = in_caps p d x 0 X (omega arith) (omega arith) ∙ sym f
  walk_has p b d (bottom x X e f) = in_caps p d x 1 X (omega arith) (omega arith) ∙ sym f
  walk_has p b d (left i I e f) = in_ends p d i 0 I (omega arith) (omega arith) ∙ sym f
  walk_has p b d (right i I e f) = in_ends p d i 1 I (omega arith) (omega arith) ∙ sym f

  -- ---- and it stands inside the grid, at an index of the walk
  pub stands_below : (p : ℕ) (b : Place) → Stands nx ny p b → p < nx * ny
  stands_below p b (forth i j I J even e f) = omega (arith, blocks_are nx ny W H, in_row i j (ny - 2) (nx - 2) I J)
  stands_below p b (back i j I J odd e f) = omega (arith, blocks_are nx ny W H, in_row i j (ny - 2) (nx - 2) I J)
  stands_below p b (top x X e f) = omega (arith, blocks_are nx ny W H)
  stands_below p b (bottom x X e f) = omega (arith, blocks_are nx ny W H)
  stands_below p b (left i I e f) = omega (arith, blocks_are nx ny W H)
  stands_below p b (right i I e f) = omega (arith, blocks_are nx ny W H)

  pub stands_inside : (p : ℕ) (b : Place) → Stands nx ny p b → (b.x < nx) × (b.y < ny)
  stands_inside p b (forth i j I J even e f) = inside f (omega arith) (omega arith)
  stands_inside p b (back i j I J odd e f) = inside f (omega arith) (omega arith)
  stands_inside p b (top x X e f) = inside f X (omega arith)
  stands_inside p b (bottom x X e f) = inside f X (omega arith)
  stands_inside p b (left i I e f) = inside f (omega arith) (omega arith)
  stands_inside p b (right i I e f) = inside f (omega arith) (omega arith)

  -- ---- the rule's second and third part
  on_cap : (p : ℕ) → interior nx ny ≤ p → p < interior nx ny + 2 * nx → rule_block nx ny p ≡ cap_block ny (p - interior nx ny)
  unfolding rule_block
  on_cap p l m = rw (le-ltb p (interior nx ny) l, lt-ltb p (interior nx ny + 2 * nx) m)

  on_end : (p : ℕ) → interior nx ny + 2 * nx ≤ p → rule_block nx ny p ≡ end_block nx (p - interior nx ny - 2 * nx)
  unfolding rule_block
  on_end p l = rw (le-ltb p (interior nx ny) (omega arith), le-ltb p (interior nx ny + 2 * nx) l)

  -- ---- every index has a block
  pub some_block : (p : ℕ) → p < nx * ny → (b : Place) × Stands nx ny p b
  some_block p h = ⊎_elim within (λ l. ⊎_elim (above l) beyond (lt_or_ge p (interior nx ny + 2 * nx))) (lt_or_ge p (interior nx ny))
    where
      within : p < interior nx ny → (b : Place) × Stands nx ny p b
      within l =
          let some = wide_of (ny - 2) (nx - 2) p l in
          let i = p / (nx - 2) in
          let j = p % (nx - 2) in
          let I : i < ny - 2 = (div-lt_iff_lt-mul some).1 l in
          let J : j < nx - 2 = mod-lt p some in
          let e : p ≡ i * (nx - 2) + j = sym (div-add-mod' p (nx - 2)) in
          ⊎_elim (λ even. (at (1 + j) (1 + i), forth i j I J even e refl)) (λ odd. (at (nx - 2 - j) (1 + i), back i j I J odd e refl))
          (eq_or_ne ((1 + i) % 2) 0)

      above : interior nx ny ≤ p → p < interior nx ny + 2 * nx → (b : Place) × Stands nx ny p b
      above l m =
          let x = (p - interior nx ny) / 2 in
          ⊎_elim (λ e. (at x 0, top x (omega arith) (omega arith) refl)) (λ e. (at x (ny - 1), bottom x (omega arith) (omega arith) refl))
          (halves (p - interior nx ny))

      beyond : interior nx ny + 2 * nx ≤ p → (b : Place) × Stands nx ny p b
      beyond l =
          let t = p - (interior nx ny + 2 * nx) in
          let i = t / 2 in
          let few : t < 2 * (ny - 2) = omega (arith, blocks_are nx ny W H) in
          let here : p ≡ interior nx ny + 2 * nx + t = omega arith in
          ⊎_elim (λ e. (at 0 (1 + i), left i (omega arith) (omega arith) refl)) (λ e. (at (nx - 1) (1 + i), right i (omega arith) (omega arith) refl))
          (halves t)

  -- ---- every block has an index
  pub some_index : (bx by : ℕ) → bx < nx → by < ny → (p : ℕ) × Stands nx ny p (at bx by)
  some_index bx by X Y =
      ⊎_elim (λ e. (_, top bx X refl (ap (at bx) e)))
      (λ a. ⊎_elim (λ e. (_, bottom bx X refl (ap (at bx) e)))
      (λ b. ⊎_elim (λ e. (_, left (by - 1) (omega arith) refl (alike e (omega arith))))
      (λ c. ⊎_elim (λ e. (_, right (by - 1) (omega arith) refl (alike e (omega arith))))
      (λ d. ⊎_elim
      (λ even. (_, forth (by - 1) (bx - 1) (omega arith) (omega arith) (ap (λ (z : ℕ). z % 2) (up a) ∙ even) refl (alike (omega arith) (omega arith))))
      (λ odd. (
        _,
        back (by - 1) (nx - 2 - bx) (omega arith) (omega arith) (λ e. odd (ap (λ (z : ℕ). z % 2) (sym (up a)) ∙ e)) refl
            (alike (omega arith) (omega arith)),
      ))
      (eq_or_ne (by % 2) 0))
      (eq_or_ne bx (nx - 1)))
      (eq_or_ne bx 0))
      (eq_or_ne by (ny - 1)))
      (eq_or_ne by 0)

  -- ---- the rule gives both
  pub rule_position_lem : (p : ℕ) (b : Place) → Stands nx ny p b → rule_position nx ny b ≡ p
  unfolding rule_position
  rule_position_lem p b (forth i j I J even e f) =
      ap (rule_position nx ny) f
      ∙ simp (
        ne_eqb (1 + i) 0 (omega arith),
        ne_eqb (1 + i) (ny - 1) (omega arith),
        ne_eqb (1 + j) 0 (omega arith),
        ne_eqb (1 + j) (nx - 1) (omega arith),
        eq-eqb ((1 + i) % 2) 0 even,
      ) (omega (arith, ap (λ (z : ℕ). z * (nx - 2)) (down i)))
  rule_position_lem p b (back i j I J odd e f) =
      ap (rule_position nx ny) f
      ∙ simp (
        ne_eqb (1 + i) 0 (omega arith),
        ne_eqb (1 + i) (ny - 1) (omega arith),
        ne_eqb (nx - 2 - j) 0 (omega arith),
        ne_eqb (nx - 2 - j) (nx - 1)
            (omega arith),
        ne_eqb ((1 + i) % 2) 0 odd,
      ) (omega (arith, ap (λ (z : ℕ). z * (nx - 2)) (down i)))
  rule_position_lem p b (top x X e f) = ap (rule_position nx ny) f ∙ sym e
  rule_position_lem p b (bottom x X e f) = ap (rule_position nx ny) f ∙ simp (ne_eqb (ny - 1) 0 (omega arith), eq-eqb (ny - 1) (ny - 1) refl) (sym e)
  rule_position_lem p b (left i I e f) = ap (rule_position nx ny) f ∙ simp (ne_eqb (1 + i) 0 (omega arith), ne_eqb (1 + i) (ny - 1) (omega arith)) (omega arith)
  rule_position_lem p b (right i I e f) =
      ap (rule_position nx ny) f ∙ simp (
        ne_eqb (1 + i) 0 (omega arith),
        ne_eqb (1 + i) (ny - 1) (omega arith),
        ne_eqb (nx - 1) 0 (omega arith),
        eq-eqb (nx - 1)
            (nx - 1) refl,
      ) (omega arith)

  pub rule_block_lem : (p : ℕ) (b : Place) → Stands nx ny p b → rule_block nx ny p ≡ b
  unfolding rule_block
  rule_block_lem p b (forth i j I J even e f) =
      let q : p / (nx - 2) ≡ i = ap (λ (z : ℕ). z / (nx - 2)) e ∙ digits_div i J in
      let r : p % (nx - 2) ≡ j = ap (λ (z : ℕ). z % (nx - 2)) e ∙ digits_mod i J in
      rw (lt-ltb p (interior nx ny) (omega (arith, in_row i j (ny - 2) (nx - 2) I J)), q, r, eq-eqb ((1 + i) % 2) 0 even) (sym f)
  rule_block_lem p b (back i j I J odd e f) =
      let q : p / (nx - 2) ≡ i = ap (λ (z : ℕ). z / (nx - 2)) e ∙ digits_div i J in
      let r : p % (nx - 2) ≡ j = ap (λ (z : ℕ). z % (nx - 2)) e ∙ digits_mod i J in
      rw (lt-ltb p (interior nx ny) (omega (arith, in_row i j (ny - 2) (nx - 2) I J)), q, r, ne_eqb ((1 + i) % 2) 0 odd) (sym f)
  rule_block_lem p b (top x X e f) = on_cap p (omega arith) (omega arith) ∙ cap_even ny x (omega arith) ∙ sym f
  rule_block_lem p b (bottom x X e f) = on_cap p (omega arith) (omega arith) ∙ cap_odd ny x (omega arith) ∙ sym f
  rule_block_lem p b (left i I e f) = on_end p (omega arith) ∙ end_even nx i (omega arith) ∙ sym f
  rule_block_lem p b (right i I e f) = on_end p (omega arith) ∙ end_odd nx i (omega arith) ∙ sym f
