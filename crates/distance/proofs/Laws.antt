-- What the two distances are: each is 0 exactly between blocks that agree, is the same both ways, and obeys the triangle inequality; each
-- bounds the other; and how large they get between blocks of bytes. SAD at any size, SATD over any m x n tiles, that is at every width
-- and height in multiples of 4. `cost_distance` says it of the cost, whichever measure is asked for. Assumes nothing.
use Rattle.std.specs.Prelude.{◌≡◌, Bool, true, false, ℕ, ◌+◌, ◌*◌, ◌/◌, ◌%◌, ◌≤◌, pos, ◌+ℤ◌, ◌-ℤ◌, neg_ℤ}
use Rattle.std.proofs.Common.{sym, ◌∙◌, mul-le-mul, mul_assoc, arith}
use Rattle.whole.specs.Signed.{signed, add_is, diff_is, neg_p, neg_n}
use Rattle.distance.specs.Distance.{sum, Block, gap, sad, tile_sum, differ, tiles, satd, cost_of}
use Rattle.distance.specs.Sums.{sum_le, sum_eq, sum_none, sum_even, sum_add, sum_times, sum_part, sum_below, sum_swap, sum_four}
use Rattle.distance.proofs.Absolute.{abs_apart}
use Rattle.distance.specs.Hadamard.{plain}
use Rattle.distance.proofs.HadamardLaws.{tile_even, tile_below, tile_above, tile_most, tile_adds, tile_turns}
use Rattle.distance.specs.Laws.{Agree, Bytes, Distance}

-- ---- SAD, at any size
module _ (w h : ℕ) (a b : Block) where
  pub sad_agree : Agree w h a b → sad w h a b ≡ 0
  sad_agree e = sum_none h (λ y l. sum_none w (λ x m. omega (arith, e y x l m)))

  pub sad_zero : sad w h a b ≡ 0 → Agree w h a b
  sad_zero e y x l m =
      let u = sum_part h (λ (y : ℕ). sum w (λ (x : ℕ). gap (a y x) (b y x))) y l in
      let v = sum_part w (λ (x : ℕ). gap (a y x) (b y x)) x m in omega arith

  pub sad_symmetric : sad w h a b ≡ sad w h b a
  sad_symmetric = sum_eq h (λ y l. sum_eq w (λ x m. omega arith))

  pub sad_most : Bytes a → Bytes b → sad w h a b ≤ 255 * w * h
  sad_most f g = sum_below h (255 * w) (λ y l. sum_below w 255 (λ x m. omega (arith, f y x, g y x)))

pub sad_triangle : (w h : ℕ) (a b c : Block) → sad w h a c ≤ sad w h a b + sad w h b c
sad_triangle w h a b c =
    rw (← sum_add)
    (sum_le h (λ y l. rw (← sum_add) (sum_le w (λ x m. omega arith))))

-- ---- differences
diff_turns : (x y : ℕ) → pos x -ℤ pos y ≡ neg_ℤ (pos y -ℤ pos x)
diff_turns x y = omega (signed, diff_is (pos x) (pos y), diff_is (pos y) (pos x), neg_p (pos y -ℤ pos x), neg_n (pos y -ℤ pos x))

diff_adds : (x y z : ℕ) → pos x -ℤ pos z ≡ (pos x -ℤ pos y) +ℤ (pos y -ℤ pos z)
diff_adds x y z =
    omega (signed, diff_is (pos x) (pos z), diff_is (pos x) (pos y), diff_is (pos y) (pos z), add_is (pos x -ℤ pos y) (pos y -ℤ pos z))

-- ---- SATD, over m x n tiles
module _ (m n : ℕ) (a b : Block) where
  -- SAD taken tile by tile
  sad_tiles : sad (4 * m) (4 * n) a b ≡ sum n (λ i. sum m (λ j. plain (differ a b (4 * i) (4 * j))))
  sad_tiles =
      sum_four n (λ y. sum (4 * m) (λ x. gap (a y x) (b y x)))
      ∙ sum_eq n (λ i l.
      sum_eq 4 (λ y k. sum_four m (λ x. gap (a (4 * i + y) x) (b (4 * i + y) x)))
      ∙ sum_swap 4 m (λ y j. sum 4 (λ x. gap (a (4 * i + y) (4 * j + x)) (b (4 * i + y) (4 * j + x))))
      ∙ sum_eq m (λ j k. sum_eq 4 (λ y u. sum_eq 4 (λ x v. sym (abs_apart (a (4 * i + y) (4 * j + x)) (b (4 * i + y) (4 * j + x)))))))

  -- the tiles' sum is even, so that halving it is exact
  tiles_even : tiles m n a b % 2 ≡ 0
  tiles_even =
      sum_even n (λ i. sum m (λ j. tile_sum (differ a b (4 * i) (4 * j))))
      (λ i. sum_even m (λ j. tile_sum (differ a b (4 * i) (4 * j))) (λ j. tile_even (differ a b (4 * i) (4 * j))))

  satd_twice : 2 * satd (4 * m) (4 * n) a b ≡ tiles m n a b
  satd_twice =
      let e : (4 * m) / 4 ≡ m = omega arith in
      let f : (4 * n) / 4 ≡ n = omega arith in
      rw (e, f) (omega (arith, tiles_even))

  -- between SAD / 2 and 8 x SAD
  tiles_above : sad (4 * m) (4 * n) a b ≤ tiles m n a b
  tiles_above = rw sad_tiles (sum_le n (λ i l. sum_le m (λ j k. tile_above (differ a b (4 * i) (4 * j)))))

  tiles_below : tiles m n a b ≤ 16 * sad (4 * m) (4 * n) a b
  tiles_below =
      rw (sad_tiles, ← sum_times) (sum_le n (λ i l. rw (← sum_times) (sum_le m (λ j k. tile_below (differ a b (4 * i) (4 * j))))))

  pub satd_below : satd (4 * m) (4 * n) a b ≤ 8 * sad (4 * m) (4 * n) a b
  satd_below = omega (arith, satd_twice, tiles_below)

  pub satd_above : sad (4 * m) (4 * n) a b ≤ 2 * satd (4 * m) (4 * n) a b
  satd_above = omega (arith, satd_twice, tiles_above)

  -- so the two are 0 together
  pub satd_agree : Agree (4 * m) (4 * n) a b → satd (4 * m) (4 * n) a b ≡ 0
  satd_agree e = omega (arith, satd_below, sad_agree (4 * m) (4 * n) a b e)

  pub satd_zero : satd (4 * m) (4 * n) a b ≡ 0 → Agree (4 * m) (4 * n) a b
  satd_zero e = sad_zero (4 * m) (4 * n) a b (omega (arith, satd_above))

  tiles_symmetric : tiles m n a b ≡ tiles m n b a
  tiles_symmetric =
      sum_eq n (λ i l. sum_eq m (λ j k. tile_turns (differ b a (4 * i) (4 * j)) (differ a b (4 * i) (4 * j))
      (λ y x. diff_turns (a (4 * i + y) (4 * j + x)) (b (4 * i + y) (4 * j + x)))))

pub satd_symmetric : (m n : ℕ) (a b : Block) → satd (4 * m) (4 * n) a b ≡ satd (4 * m) (4 * n) b a
satd_symmetric m n a b = omega (arith, satd_twice m n a b, satd_twice m n b a, tiles_symmetric m n a b)

tiles_triangle : (m n : ℕ) (a b c : Block) → tiles m n a c ≤ tiles m n a b + tiles m n b c
tiles_triangle m n a b c =
    rw (← sum_add)
    (sum_le n (λ i l. rw (← sum_add)
    (sum_le m (λ j k. tile_adds (differ a b (4 * i) (4 * j)) (differ b c (4 * i) (4 * j)) (differ a c (4 * i) (4 * j))
    (λ y x. diff_adds (a (4 * i + y) (4 * j + x)) (b (4 * i + y) (4 * j + x)) (c (4 * i + y) (4 * j + x)))))))

pub satd_triangle : (m n : ℕ) (a b c : Block) → satd (4 * m) (4 * n) a c ≤ satd (4 * m) (4 * n) a b + satd (4 * m) (4 * n) b c
satd_triangle m n a b c = omega (arith, satd_twice m n a b, satd_twice m n b c, satd_twice m n a c, tiles_triangle m n a b c)

-- ---- how large SATD gets between blocks of bytes: 8,160 a tile
module _ (a b : Block) (f : Bytes a) (g : Bytes b) where
  pub tile_limit : (i j : ℕ) → tile_sum (differ a b i j) ≤ 16320
  tile_limit i j = tile_most (differ a b i j) (λ y x. omega (arith, abs_apart (a (i + y) (j + x)) (b (i + y) (j + x)), f (i + y) (j + x), g (i + y) (j + x)))

  tiles_most : (m n : ℕ) → tiles m n a b ≤ 16320 * m * n
  tiles_most m n = sum_below n (16320 * m) (λ i l. sum_below m 16320 (λ j k. tile_limit (4 * i) (4 * j)))

  pub satd_most : (m n : ℕ) → satd (4 * m) (4 * n) a b ≤ 8160 * m * n
  satd_most m n = omega (arith, satd_twice m n a b, tiles_most m n)

  -- a cost over at most 16 x 16: the greatest is a SATD of 16 tiles
  pub cost_most : (measure : Bool) (w h : ℕ) → w ≤ 16 → h ≤ 16 → cost_of measure w h a b ≤ 130560
  cost_most true w h k l =
      let m : w / 4 ≤ 4 = omega arith in
      let n : h / 4 ≤ 4 = omega arith in
      let t = mul-le-mul m n in omega (arith, tiles_most (w / 4) (h / 4), mul_assoc 16320 (w / 4) (h / 4))
  cost_most false w h k l = let t = mul-le-mul k l in omega (arith, sad_most w h a b f g, mul_assoc 255 w h)

-- ---- both measures are distances
pub cost_distance : (measure : Bool) (m n : ℕ) → Distance (4 * m) (4 * n) (cost_of measure (4 * m) (4 * n))
cost_distance true m n = record { agree = satd_agree m n; zero_only = satd_zero m n; symmetric = satd_symmetric m n; triangle = satd_triangle m n }
cost_distance false m n =
    record {
      agree = sad_agree (4 * m) (4 * n);
      zero_only = sad_zero (4 * m) (4 * n);
      symmetric = sad_symmetric (4 * m) (4 * n);
      triangle = sad_triangle (4 * m) (4 * n);
    }
