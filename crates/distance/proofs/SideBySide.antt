-- What the proofs over columns side by side share: the rows after one more column is written, and the tiles that stand in them. Assumes nothing.
use Rattle.std.specs.Prelude.{◌≡◌, refl, List, ℕ, zero, suc, ◌+◌, ◌*◌, ◌≤◌, ◌<◌, ℤ, pos, ◌-ℤ◌, length, get_or, set}
use Rattle.std.proofs.Common.{ap, ◌∙◌, ◌≢◌, ⊎_elim, arith, length-set, get_or-set_same, get_or-set_other}
use Rattle.whole.specs.Signed.{lt_or_ge}
use Rattle.whole.specs.Interval.{Within}
use Rattle.distance.specs.declared.Four.{Four}
use Rattle.distance.specs.Fours.{Quad, Tile, pick}
use Rattle.distance.specs.Parts.{turned, tile_less, Small, SmallRows, Stepped, tile_in}
use Rattle.distance.specs.Steps.{column_step, quad_of, tile_of}
use Rattle.distance.proofs.HadamardLaws.{along_same}
use Rattle.distance.proofs.Butterflies.{column_turned, tiles_agree}
use Rattle.distance.proofs.Tiles.{quads_alike, pick_small, small_turned}
use Rattle.distance.proofs.Slices.{part, part_less, less_at}

-- ---- one number to a row, at column x
abbrev written : Four (List ℤ) → ℕ → Quad → Four (List ℤ)
written c x v = record { a = set c.a x v.a; b = set c.b x v.b; c = set c.c x v.c; d = set c.d x v.d }

row_written : (c : Four (List ℤ)) (x : ℕ) (v : Quad) (r : ℕ) → r < 4 → pick (written c x v) r ≡ set (pick c r) x (pick v r)
row_written c x v zero l = refl
row_written c x v (suc zero) l = refl
row_written c x v (suc (suc zero)) l = refl
row_written c x v (suc (suc (suc r))) l = refl

-- ---- one more column
module _ (s t : List ℕ) (p q : ℕ) where
  -- a column's four differences, as the code reads them
  pub column_less : (n x : ℕ) → x < n → {a b c d : ℤ} →
      a ≡ pos (get_or (part s (0 * p) n) x 0) -ℤ pos (get_or (part t (0 * q) n) x 0) →
      b ≡ pos (get_or (part s (1 * p) n) x 0) -ℤ pos (get_or (part t (1 * q) n) x 0) →
      c ≡ pos (get_or (part s (2 * p) n) x 0) -ℤ pos (get_or (part t (2 * q) n) x 0) →
      d ≡ pos (get_or (part s (3 * p) n) x 0) -ℤ pos (get_or (part t (3 * q) n) x 0) →
      ◌≡◌ {A = Quad} (record { a = a; b = b; c = c; d = d }) (quad_of (λ y. tile_less s 0 p t 0 q y x))
  column_less n x l ea eb ec ed = quads_alike (ea ∙ row 0) (eb ∙ row 1) (ec ∙ row 2) (ed ∙ row 3)
    where
      row : (y : ℕ) → pos (get_or (part s (y * p) n) x 0) -ℤ pos (get_or (part t (y * q) n) x 0) ≡ tile_less s 0 p t 0 q y x
      row y = part_less s t (y * p) (y * q) n x l ∙ less_at s t (omega arith) (omega arith)

  pub next_column : {c : Four (List ℤ)} (x : ℕ) {v w : Quad} →
      Stepped x s 0 p t 0 q c → x < 16 → v ≡ turned w → w ≡ quad_of (λ y. tile_less s 0 p t 0 q y x) → Small 255 w →
      Stepped (x + 1) s 0 p t 0 q (written c x v)
  next_column {c} x {v} {w} before inside e f m =
      record {
        room = λ r l. rw (row_written c x v r l, length-set) (before.room r l);
        value = λ r y l n. at r y l n (λ z. z ≡ column_step (tile_less s 0 p t 0 q) r y) (before.value r y l) (here r y l);
        small = λ r y l n. at r y l n (λ z. Within 1020 1020 z) (before.small r y l) (λ k. pick_small less r l);
      }
    where
      less : Small 1020 v
      less = rw e (small_turned m)

      at : (r y : ℕ) → r < 4 → y < x + 1 → (P : ℤ → Type 0) → (y < x → P (get_or (pick c r) y (pos 0))) → (y ≡ x → P (pick v r)) →
          P (get_or (pick (written c x v) r) y (pos 0))
      at r y l n P old new =
          rw (row_written c x v r l)
          (⊎_elim
          (λ (k : y < x). let other : y ≢ x = omega arith in rw get_or-set_other (old k))
          (λ (k : x ≤ y). let same : y ≡ x = omega arith in let room : x < length (pick c r) = omega (arith, before.room r l) in
          rw same (rw get_or-set_same (new same)))
          (lt_or_ge y x))

      here : (r y : ℕ) → r < 4 → y ≡ x → pick v r ≡ column_step (tile_less s 0 p t 0 q) r y
      here r y l k = rw k (ap (λ (w : Quad). pick w r) (e ∙ ap turned f) ∙ column_turned (tile_less s 0 p t 0 q) r x l)

  -- ---- the tile that starts at column x, of the tiles side by side the one of number j
  pub tile_stepped : {n : ℕ} {c : Four (List ℤ)} {tile : Tile} (j x : ℕ) →
      Stepped n s 0 p t 0 q c → tile ≡ tile_in c x → x ≡ 4 * j → x + 4 ≤ n →
      tile ≡ tile_of (column_step (tile_less s (0 + 4 * j) p t (0 + 4 * j) q))
  tile_stepped {c = c} j x all e f inside =
      e ∙ tiles_agree (λ y z. get_or (pick c y) (x + z) (pos 0)) (column_step (tile_less s (0 + 4 * j) p t (0 + 4 * j) q)) go
    where
      go : (y z : ℕ) → y < 4 → z < 4 → get_or (pick c y) (x + z) (pos 0) ≡ column_step (tile_less s (0 + 4 * j) p t (0 + 4 * j) q) y z
      go y z l m =
          all.value y (x + z) l (omega arith)
          ∙ along_same y (λ u n. less_at s t (omega arith) (omega arith))

  pub stepped_small : {n : ℕ} {c : Four (List ℤ)} {tile : Tile} (x : ℕ) → Stepped n s 0 p t 0 q c → tile ≡ tile_in c x → x + 4 ≤ n → SmallRows 1020 tile
  stepped_small {n} {c} x all e inside = rw e (record { at_a = row 0 (omega arith); at_b = row 1 (omega arith); at_c = row 2 (omega arith); at_d = row 3 (omega arith) })
    where
      row : (r : ℕ) → r < 4 → Small 1020 (quad_of (λ j. get_or (pick c r) (x + j) (pos 0)))
      row r l =
          record {
            at_a = all.small r (x + 0) l (omega arith);
            at_b = all.small r (x + 1) l (omega arith);
            at_c = all.small r (x + 2) l (omega arith);
            at_d = all.small r (x + 3) l (omega arith);
          }
