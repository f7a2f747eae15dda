-- Laws of the Hadamard values: of four numbers, and of a 4x4 tile, whose values are those of its rows and then of the columns that
-- these leave, or the other way round. Each law of a tile is the law of four numbers, used twice. Assumes nothing.
use Rattle.std.specs.Prelude.{◌≡◌, refl, [], ℕ, zero, suc, ◌+◌, ◌-◌, ◌*◌, ◌%◌, ◌≤◌, ◌<◌, ℤ, pos, negsuc, ◌+ℤ◌, ◌-ℤ◌, ◌*ℤ◌, get_or}
use Rattle.std.proofs.Math.Path.{ap}
use Rattle.std.proofs.Common.{sym, ◌∙◌, ⊎_elim, mul-le-mul}
use native.Mathlib.Omega.{arith}
use Rattle.std.proofs.Math.IntN.{neg_ℤ, nat_abs, +ℤ_idl, +ℤ_assoc, neg_ℤ-+ℤ, neg_ℤ-neg_ℤ, *ℤ_comm}
use Rattle.whole.specs.Signed.{lt_or_ge}
use Rattle.distance.specs.Distance.{sum, sum_z, Sign, plus, minus, unit, matrix, sign, hadamard_at, tile_sum}
use Rattle.distance.specs.Sums.{sum_le, sum_eq, sum_parity, sum_below, sum_times, sum_swap, sum_add, sum_z_eq, sum_z_add, sum_z_swap}
use Rattle.distance.proofs.Absolute.{abs_neg, abs_add, abs_sum, odd_sum, abs_back, square, square_back}
use Rattle.distance.specs.Hadamard.{along, plain}

-- ---- a sign times a number
one_times : (z : ℤ) → pos 1 *ℤ z ≡ z
one_times (pos n) = ap pos (omega arith)
one_times (negsuc n) = let e : 1 * suc n ≡ suc n = omega arith in ap (λ (k : ℕ). neg_ℤ (pos k)) e

minus_times : (z : ℤ) → negsuc 0 *ℤ z ≡ neg_ℤ z
minus_times (pos zero) = refl
minus_times (pos (suc n)) = let e : 1 * suc n ≡ suc n = omega arith in ap (λ (k : ℕ). neg_ℤ (pos k)) e
minus_times (negsuc n) = ap pos (omega arith)

-- by cases of the sign: the number, or its negative
abbrev given : Sign → ℤ → ℤ
given plus z = z
given minus z = neg_ℤ z

is_given : (s : Sign) (z : ℤ) → unit s *ℤ z ≡ given s z
is_given plus z = one_times z
is_given minus z = minus_times z

sign_abs : (s : Sign) (z : ℤ) → nat_abs (unit s *ℤ z) ≡ nat_abs z
sign_abs s z = ap nat_abs (is_given s z) ∙ go s
  where
    go : (s : Sign) → nat_abs (given s z) ≡ nat_abs z
    go plus = refl
    go minus = abs_neg z

sign_add : (s : Sign) (x y : ℤ) → unit s *ℤ (x +ℤ y) ≡ unit s *ℤ x +ℤ unit s *ℤ y
sign_add s x y = is_given s (x +ℤ y) ∙ go s ∙ sym (rw (is_given s x, is_given s y))
  where
    go : (s : Sign) → given s (x +ℤ y) ≡ given s x +ℤ given s y
    go plus = refl
    go minus = neg_ℤ-+ℤ x y

sign_times : (s t : Sign) (z : ℤ) → (unit s *ℤ unit t) *ℤ z ≡ unit s *ℤ (unit t *ℤ z)
sign_times plus t z = ap (λ (k : ℤ). k *ℤ z) (one_times (unit t)) ∙ sym (one_times (unit t *ℤ z))
sign_times minus plus z = minus_times z ∙ sym (minus_times (pos 1 *ℤ z) ∙ ap neg_ℤ (one_times z))
sign_times minus minus z = one_times z ∙ sym (minus_times (negsuc 0 *ℤ z) ∙ ap neg_ℤ (minus_times z) ∙ neg_ℤ-neg_ℤ z)

sign_sum : (s : Sign) (n : ℕ) (f : ℕ → ℤ) → sum_z n (λ k. unit s *ℤ f k) ≡ unit s *ℤ sum_z n f
unfolding sum_z
sign_sum plus zero f = refl
sign_sum minus zero f = refl
sign_sum s (suc n) f = ap (λ (z : ℤ). z +ℤ unit s *ℤ f n) (sign_sum s n f) ∙ sym (sign_add s (sum_z n f) (f n))

-- the sign that stands at row i, column k
abbrev at : ℕ → ℕ → Sign
at i k = get_or (get_or matrix i []) k plus

-- ---- four numbers
pub along_same : {v w : ℕ → ℤ} (i : ℕ) → ((k : ℕ) → k < 4 → v k ≡ w k) → along v i ≡ along w i
along_same i e = sum_z_eq 4 (λ k l. ap (λ (z : ℤ). sign i k *ℤ z) (e k l))

-- a sum from the left, as `sum_z` has it, is the sum of two sums of two
four : (p q r s : ℤ) → (((pos 0 +ℤ p) +ℤ q) +ℤ r) +ℤ s ≡ (p +ℤ q) +ℤ (r +ℤ s)
four p q r s = ap (λ (z : ℤ). ((z +ℤ q) +ℤ r) +ℤ s) (+ℤ_idl p) ∙ +ℤ_assoc (p +ℤ q) r s

module _ (v : ℕ → ℤ) where
  -- value by value, as sums and differences of two
  signs : (i : ℕ) → along v i ≡ sum_z 4 (λ k. given (at i k) (v k))
  signs i = sum_z_eq 4 (λ k l. is_given (at i k) (v k))

  pub along0 : along v 0 ≡ (v 0 +ℤ v 1) +ℤ (v 2 +ℤ v 3)
  unfolding sum_z
  along0 = signs 0 ∙ four (v 0) (v 1) (v 2) (v 3)

  pub along1 : along v 1 ≡ (v 0 +ℤ v 1) -ℤ (v 2 +ℤ v 3)
  unfolding sum_z
  along1 =
      signs 1
      ∙ four (v 0) (v 1) (neg_ℤ (v 2)) (neg_ℤ (v 3))
      ∙ ap (λ (z : ℤ). (v 0 +ℤ v 1) +ℤ z) (sym (neg_ℤ-+ℤ (v 2) (v 3)))

  pub along2 : along v 2 ≡ (v 0 -ℤ v 1) +ℤ (v 2 -ℤ v 3)
  unfolding sum_z
  along2 = signs 2 ∙ four (v 0) (neg_ℤ (v 1)) (v 2) (neg_ℤ (v 3))

  pub along3 : along v 3 ≡ (v 0 -ℤ v 1) -ℤ (v 2 -ℤ v 3)
  unfolding sum_z
  along3 =
      signs 3
      ∙ four (v 0) (neg_ℤ (v 1)) (neg_ℤ (v 2)) (v 3)
      ∙ ap (λ (z : ℤ). (v 0 -ℤ v 1) +ℤ z) (sym (neg_ℤ-+ℤ (v 2) (neg_ℤ (v 3)) ∙ ap (λ (z : ℤ). neg_ℤ (v 2) +ℤ z) (neg_ℤ-neg_ℤ (v 3))))

  -- a value is at most the four numbers' absolute sum, and odd where that is
  sizes : (i : ℕ) → sum 4 (λ k. nat_abs (sign i k *ℤ v k)) ≡ sum 4 (λ k. nat_abs (v k))
  sizes i = sum_eq 4 (λ k l. sign_abs (at i k) (v k))

  along_below : (i : ℕ) → nat_abs (along v i) ≤ sum 4 (λ k. nat_abs (v k))
  along_below i = omega (arith, sizes i, abs_sum 4 (λ (k : ℕ). sign i k *ℤ v k))

  along_odd : (i : ℕ) → nat_abs (along v i) % 2 ≡ sum 4 (λ k. nat_abs (v k)) % 2
  along_odd i = omega (arith, sizes i, odd_sum 4 (λ (k : ℕ). sign i k *ℤ v k))

  -- the four values lose nothing
  along_above : sum 4 (λ k. nat_abs (v k)) ≤ sum 4 (λ i. nat_abs (along v i))
  unfolding sum
  along_above =
      omega (
        arith,
        ap nat_abs along0,
        ap nat_abs along1,
        ap nat_abs along2,
        ap nat_abs along3,
        abs_back (v 0 +ℤ v 1) (v 2 +ℤ v 3),
        abs_back (v 0 -ℤ v 1) (v 2 -ℤ v 3),
        abs_back (v 0) (v 1),
        abs_back (v 2) (v 3),
      )

  -- the squares of the four values are four times the numbers' squares
  along_squares : sum 4 (λ i. square (nat_abs (along v i))) ≡ 4 * sum 4 (λ k. square (nat_abs (v k)))
  unfolding sum
  along_squares =
      rw (along0, along1, along2, along3)
      (omega
      (arith, square_back (v 0 +ℤ v 1) (v 2 +ℤ v 3), square_back (v 0 -ℤ v 1) (v 2 -ℤ v 3), square_back (v 0) (v 1), square_back (v 2) (v 3)))

  -- the values of numbers that all take a sign, and of sums
  along_sign : (s : Sign) {w : ℕ → ℤ} (i : ℕ) → ((k : ℕ) → w k ≡ unit s *ℤ v k) → along w i ≡ unit s *ℤ along v i
  along_sign s i e =
      sum_z_eq 4 (λ k l. ap (λ (z : ℤ). sign i k *ℤ z) (e k) ∙ sym (sign_times (at i k) s (v k)) ∙ ap (λ (z : ℤ). z *ℤ v k) (*ℤ_comm (sign i k) (unit s))
      ∙ sign_times s (at i k) (v k))
      ∙ sign_sum s 4 (λ k. sign i k *ℤ v k)

along_adds : (u v : ℕ → ℤ) {w : ℕ → ℤ} (i : ℕ) → ((k : ℕ) → w k ≡ u k +ℤ v k) → along w i ≡ along u i +ℤ along v i
along_adds u v i e =
    sum_z_eq 4 (λ k l. ap (λ (z : ℤ). sign i k *ℤ z) (e k) ∙ sign_add (at i k) (u k) (v k))
    ∙ sum_z_add 4 (λ k. sign i k *ℤ u k) (λ k. sign i k *ℤ v k)

-- ---- a tile

module _ (d : ℕ → ℕ → ℤ) (i j : ℕ) where
  -- along the rows, and then down the columns
  pub rows_first : hadamard_at d i j ≡ along (λ y. along (d y) j) i
  unfolding hadamard_at
  rows_first =
      sum_z_eq 4 (λ y l. sum_z_eq 4 (λ x m. sign_times (at i y) (at j x) (d y x)) ∙ sign_sum (at i y) 4 (λ x. sign j x *ℤ d y x))

  -- down the columns, and then along the rows
  pub columns_first : hadamard_at d i j ≡ along (λ x. along (λ y. d y x) i) j
  unfolding hadamard_at
  columns_first =
      sum_z_swap 4 4 (λ y x. (sign i y *ℤ sign j x) *ℤ d y x)
      ∙ sum_z_eq 4 (λ x m. sum_z_eq 4 (λ y l. ap (λ (z : ℤ). z *ℤ d y x) (*ℤ_comm (sign i y) (sign j x)) ∙ sign_times (at j x) (at i y) (d y x))
      ∙ sign_sum (at j x) 4 (λ y. sign i y *ℤ d y x))

  value_below : nat_abs (hadamard_at d i j) ≤ plain d
  value_below =
      let t : sum 4 (λ y. nat_abs (along (d y) j)) ≤ plain d = sum_le 4 (λ y l. along_below (d y) j) in
      omega (arith, ap nat_abs rows_first, along_below (λ (y : ℕ). along (d y) j) i)

  value_odd : nat_abs (hadamard_at d i j) % 2 ≡ plain d % 2
  value_odd =
      let t = sum_parity 4 (λ (y : ℕ). nat_abs (along (d y) j)) (λ (y : ℕ). sum 4 (λ (x : ℕ). nat_abs (d y x))) (λ y. along_odd (d y) j) in
      omega (arith, ap nat_abs rows_first, along_odd (λ (y : ℕ). along (d y) j) i)

-- any sum over a tile's values, taken column by column
by_columns : (f : ℤ → ℕ) (d : ℕ → ℕ → ℤ) → sum 4 (λ i. sum 4 (λ j. f (hadamard_at d i j))) ≡ sum 4 (λ j. sum 4 (λ i. f (along (λ y. along (d y) j) i)))
by_columns f d = sum_swap 4 4 (λ i j. f (hadamard_at d i j)) ∙ sum_eq 4 (λ j l. sum_eq 4 (λ i m. ap f (rows_first d i j)))

module _ (d : ℕ → ℕ → ℤ) where
  -- All sixteen values have one parity, so that their absolute sum is even.
  pub tile_even : tile_sum d % 2 ≡ 0
  unfolding tile_sum sum
  tile_even =
      let row : (i : ℕ) → sum 4 (λ j. nat_abs (hadamard_at d i j)) % 2 ≡ 0 =
      λ i. omega (arith, value_odd d i 0, value_odd d i 1, value_odd d i 2, value_odd d i 3) in
      omega (arith, row 0, row 1, row 2, row 3)

  pub tile_below : tile_sum d ≤ 16 * plain d
  unfolding tile_sum
  tile_below =
      let t = sum_below 4 (plain d * 4) (λ i l. sum_below 4 (plain d) (λ j m. value_below d i j)) in omega arith

  pub tile_above : plain d ≤ tile_sum d
  unfolding tile_sum
  tile_above =
      let rows : plain d ≤ sum 4 (λ y. sum 4 (λ j. nat_abs (along (d y) j))) = sum_le 4 (λ y l. along_above (d y)) in
      let columns : sum 4 (λ j. sum 4 (λ y. nat_abs (along (d y) j))) ≤ sum 4 (λ j. sum 4 (λ i. nat_abs (along (λ y. along (d y) j) i))) =
      sum_le 4 (λ j l. along_above (λ y. along (d y) j)) in
      omega (arith, by_columns nat_abs d, sum_swap 4 4 (λ (y : ℕ) (j : ℕ). nat_abs (along (d y) j)))

  tile_squares : sum 4 (λ i. sum 4 (λ j. square (nat_abs (hadamard_at d i j)))) ≡ 16 * sum 4 (λ y. sum 4 (λ x. square (nat_abs (d y x))))
  tile_squares =
      let columns : sum 4 (λ j. sum 4 (λ i. square (nat_abs (along (λ y. along (d y) j) i)))) ≡ sum 4 (λ j. 4 * sum 4 (λ y. square (nat_abs (along (d y) j)))) =
      sum_eq 4 (λ j l. along_squares (λ y. along (d y) j)) in
      let rows : sum 4 (λ y. sum 4 (λ j. square (nat_abs (along (d y) j)))) ≡ sum 4 (λ y. 4 * sum 4 (λ x. square (nat_abs (d y x)))) =
      sum_eq 4 (λ y l. along_squares (d y)) in
      omega (
        arith,
        by_columns (λ (z : ℤ). square (nat_abs z)) d,
        sum_times 4 4 (λ (j : ℕ). sum 4 (λ (y : ℕ). square (nat_abs (along (d y) j)))),
        sum_swap 4 4
            (λ (y : ℕ) (j : ℕ). square (nat_abs (along (d y) j))),
        sum_times 4 4 (λ (y : ℕ). sum 4 (λ (x : ℕ). square (nat_abs (d y x)))),
      )

-- 2 x 1,020 x v is at most v squared + 1,020 squared, since what lies between them is the square of v - 1,020. Where the sum of a tile's
-- values is greatest each of them is 1,020, that is 4 x 255.
mean : (v : ℕ) → 2040 * v ≤ square v + 1040400
mean v = ⊎_elim (λ l. up (1020 - v) (omega arith)) (λ l. down (v - 1020) (omega arith)) (lt_or_ge v 1020)
  where
    up : (k : ℕ) → v + k ≡ 1020 → 2040 * v ≤ square v + 1040400
    up k e = omega (arith, ap square e, ap (λ (n : ℕ). n * v) e)

    down : (k : ℕ) → v ≡ 1020 + k → 2040 * v ≤ square v + 1040400
    down k e = rw e (omega arith)

module _ (d : ℕ → ℕ → ℤ) where
  means : 2040 * tile_sum d ≤ sum 4 (λ i. sum 4 (λ j. square (nat_abs (hadamard_at d i j)))) + 16646400
  unfolding tile_sum sum
  means =
      let row : (i : ℕ) → 2040 * sum 4 (λ j. nat_abs (hadamard_at d i j)) ≤ sum 4 (λ j. square (nat_abs (hadamard_at d i j))) + 4161600 =
      λ i. omega (
        arith,
        mean (nat_abs (hadamard_at d i 0)),
        mean (nat_abs (hadamard_at d i 1)),
        mean (nat_abs (hadamard_at d i 2)),
        mean
            (nat_abs (hadamard_at d i 3)),
      ) in
      omega (arith, row 0, row 1, row 2, row 3)

  -- Of differences that are at most 255 the sixteen squares are at most 16 x 16 x 255 squared, and so the values at most 64 x 255.
  pub tile_most : ((y x : ℕ) → nat_abs (d y x) ≤ 255) → tile_sum d ≤ 16320
  tile_most small =
      let squares = sum_below 4 (65025 * 4) (λ y l. sum_below 4 65025 (λ x m. mul-le-mul (small y x) (small y x))) in
      omega (arith, means, tile_squares d)

-- ---- tiles that agree, a tile of sums, and a tile with all signs turned
pub tile_same : (d e : ℕ → ℕ → ℤ) → ((y x : ℕ) → y < 4 → x < 4 → d y x ≡ e y x) → tile_sum d ≡ tile_sum e
unfolding tile_sum hadamard_at
tile_same d e h =
    sum_eq 4 (λ i l. sum_eq 4 (λ j m. ap nat_abs (sum_z_eq 4 (λ y u. sum_z_eq 4 (λ x v. ap (λ (z : ℤ). (sign i y *ℤ sign j x) *ℤ z) (h y x u v))))))

module _ (d e g : ℕ → ℕ → ℤ) (h : (y x : ℕ) → g y x ≡ d y x +ℤ e y x) where
  value_adds : (i j : ℕ) → hadamard_at g i j ≡ hadamard_at d i j +ℤ hadamard_at e i j
  value_adds i j =
      rows_first g i j
      ∙ along_adds (λ y. along (d y) j) (λ y. along (e y) j) i (λ y. along_adds (d y) (e y) j (h y))
      ∙ sym (rw (rows_first d i j, rows_first e i j))

  pub tile_adds : tile_sum g ≤ tile_sum d + tile_sum e
  unfolding tile_sum
  tile_adds =
      rw (← sum_add)
      (sum_le 4 (λ i l. rw (← sum_add) (sum_le 4 (λ j m. rw (value_adds i j) (abs_add (hadamard_at d i j) (hadamard_at e i j))))))

module _ (d g : ℕ → ℕ → ℤ) (h : (y x : ℕ) → g y x ≡ neg_ℤ (d y x)) where
  value_turns : (i j : ℕ) → hadamard_at g i j ≡ unit minus *ℤ hadamard_at d i j
  value_turns i j =
      rows_first g i j
      ∙ along_sign (λ y. along (d y) j) minus i (λ y. along_sign (d y) minus j (λ x. h y x ∙ sym (minus_times (d y x))))
      ∙ ap (λ (z : ℤ). unit minus *ℤ z) (sym (rows_first d i j))

  pub tile_turns : tile_sum g ≡ tile_sum d
  unfolding tile_sum
  tile_turns = sum_eq 4 (λ i l. sum_eq 4 (λ j m. ap nat_abs (value_turns i j) ∙ sign_abs minus (hadamard_at d i j)))
