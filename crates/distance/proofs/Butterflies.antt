-- The butterflies give the Hadamard values of the sign table (01, "Evaluating and choosing": SATD), columns first (02, Nine). Assumes nothing.
use Rattle.std.specs.Prelude.{◌≡◌, refl, ℕ, zero, suc, ◌<◌, ℤ, ◌+ℤ◌, ◌-ℤ◌}
use Rattle.std.proofs.Common.{sym, ◌∙◌, arith}
use Rattle.distance.specs.Distance.{hadamard_at}
use Rattle.distance.specs.Hadamard.{along}
use Rattle.distance.proofs.HadamardLaws.{along_same, along0, along1, along2, along3, columns_first}
use Rattle.distance.specs.Fours.{Quad, Tile, pick}
use Rattle.distance.specs.Parts.{entry, turned, rows_turned, rows_added, rows_subtracted, columns_turned}
use Rattle.distance.specs.Steps.{column_step, row_step, quad_of, tile_of}

-- ---- one step: a turned row holds the values of the row
turned_at : (q : Quad) (j : ℕ) → j < 4 → pick (turned q) j ≡ along (pick q) j
turned_at q zero l = sym (along0 (pick q))
turned_at q (suc zero) l = sym (along1 (pick q))
turned_at q (suc (suc zero)) l = sym (along2 (pick q))
turned_at q (suc (suc (suc zero))) l = sym (along3 (pick q))
turned_at q (suc (suc (suc (suc n)))) l = absurd (omega arith)

rows_at : (t : Tile) (y j : ℕ) → j < 4 → entry (rows_turned t) y j ≡ along (entry t y) j
rows_at t zero j l = turned_at t.a j l
rows_at t (suc zero) j l = turned_at t.b j l
rows_at t (suc (suc zero)) j l = turned_at t.c j l
rows_at t (suc (suc (suc y))) j l = turned_at t.d j l

-- ---- the column step: in each column the rows' numbers take the butterfly's place
added_at : (p q : Quad) (x : ℕ) → pick (rows_added p q) x ≡ pick p x +ℤ pick q x
added_at p q zero = refl
added_at p q (suc zero) = refl
added_at p q (suc (suc zero)) = refl
added_at p q (suc (suc (suc x))) = refl

subtracted_at : (p q : Quad) (x : ℕ) → pick (rows_subtracted p q) x ≡ pick p x -ℤ pick q x
subtracted_at p q zero = refl
subtracted_at p q (suc zero) = refl
subtracted_at p q (suc (suc zero)) = refl
subtracted_at p q (suc (suc (suc x))) = refl

columns_at : (t : Tile) (i x : ℕ) → i < 4 → entry (columns_turned t) i x ≡ column_step (entry t) i x
columns_at t i x l = go i l
  where
    column : ℕ → ℤ
    column y = entry t y x

    go : (i : ℕ) → i < 4 → entry (columns_turned t) i x ≡ column_step (entry t) i x
    go zero l = simp added_at (sym (along0 column))
    go (suc zero) l = simp (added_at, subtracted_at) (sym (along1 column))
    go (suc (suc zero)) l = simp (added_at, subtracted_at) (sym (along2 column))
    go (suc (suc (suc zero))) l = simp subtracted_at (sym (along3 column))
    go (suc (suc (suc (suc n)))) l = absurd (omega arith)

-- ---- a tile is what it holds
row_is : (q : Quad) (v : ℕ → ℤ) → ((x : ℕ) → x < 4 → pick q x ≡ v x) → q ≡ quad_of v
row_is q v e =
    let e0 : q.a ≡ v 0 = e 0 (omega arith) in
    let e1 : q.b ≡ v 1 = e 1 (omega arith) in
    let e2 : q.c ≡ v 2 = e 2 (omega arith) in
    let e3 : q.d ≡ v 3 = e 3 (omega arith) in
    rw (← e0, ← e1, ← e2, ← e3)

tile_is : (t : Tile) (d : ℕ → ℕ → ℤ) → ((y x : ℕ) → y < 4 → x < 4 → entry t y x ≡ d y x) → t ≡ tile_of d
tile_is t d e =
    let a : t.a ≡ quad_of (d 0) = row_is t.a (d 0) (λ x l. e 0 x (omega arith) l) in
    let b : t.b ≡ quad_of (d 1) = row_is t.b (d 1) (λ x l. e 1 x (omega arith) l) in
    let c : t.c ≡ quad_of (d 2) = row_is t.c (d 2) (λ x l. e 2 x (omega arith) l) in
    let d' : t.d ≡ quad_of (d 3) = row_is t.d (d 3) (λ x l. e 3 x (omega arith) l) in
    rw (← a, ← b, ← c, ← d')

quad_at : (v : ℕ → ℤ) (x : ℕ) → x < 4 → pick (quad_of v) x ≡ v x
quad_at v zero l = refl
quad_at v (suc zero) l = refl
quad_at v (suc (suc zero)) l = refl
quad_at v (suc (suc (suc zero))) l = refl
quad_at v (suc (suc (suc (suc x)))) l = absurd (omega arith)

tile_at : (d : ℕ → ℕ → ℤ) (y x : ℕ) → y < 4 → x < 4 → entry (tile_of d) y x ≡ d y x
tile_at d zero x l m = quad_at (d 0) x m
tile_at d (suc zero) x l m = quad_at (d 1) x m
tile_at d (suc (suc zero)) x l m = quad_at (d 2) x m
tile_at d (suc (suc (suc zero))) x l m = quad_at (d 3) x m
tile_at d (suc (suc (suc (suc y)))) x l m = absurd (omega arith)

pub tiles_agree : (d e : ℕ → ℕ → ℤ) → ((y x : ℕ) → y < 4 → x < 4 → d y x ≡ e y x) → tile_of d ≡ tile_of e
tiles_agree d e h = tile_is (tile_of d) e (λ y x l m. tile_at d y x l m ∙ h y x l m)

-- ---- both steps
pub column_step_lem : (d : ℕ → ℕ → ℤ) → columns_turned (tile_of d) ≡ tile_of (column_step d)
column_step_lem d =
    tile_is (columns_turned (tile_of d)) (column_step d) (λ i x l m. columns_at (tile_of d) i x l ∙ along_same i (λ y n. tile_at d y x n m))

-- The same of one column alone, which is turned as a row is.
pub column_turned : (d : ℕ → ℕ → ℤ) (i x : ℕ) → i < 4 → pick (turned (quad_of (λ y. d y x))) i ≡ column_step d i x
column_turned d i x l = turned_at (quad_of (λ y. d y x)) i l ∙ along_same i (λ y n. quad_at (λ y. d y x) y n)

-- The row step, after the column step, leaves the Hadamard values.
pub steps_value : (d : ℕ → ℕ → ℤ) (i j : ℕ) → row_step (column_step d) i j ≡ hadamard_at d i j
steps_value d i j = sym (columns_first d i j)

pub row_step_lem : (d : ℕ → ℕ → ℤ) → rows_turned (tile_of (column_step d)) ≡ tile_of (hadamard_at d)
row_step_lem d = tile_is (rows_turned (tile_of (column_step d))) (hadamard_at d) (λ i j l m. rows_at (tile_of (column_step d)) i j m ∙ held i j l ∙ steps_value d i j)
  where
    held : (i j : ℕ) → i < 4 → along (entry (tile_of (column_step d)) i) j ≡ row_step (column_step d) i j
    held i j l = along_same j (λ x n. tile_at (column_step d) i x l n)
