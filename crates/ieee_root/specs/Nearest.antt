-- The root of a whole n below 2 ^ 30 has one value of binary64 that is nearer to it than any other: no tie. So squareRoot gives that value, and nothing else.
-- Assumes nothing. The way: n is scaled by a power of four, 4 ^ k, until its root has 53 digits before the point. The whole number q next to that root is
-- then the significand: q / 2 ^ k is nearer to the root of n than any other multiple of 1 / 2 ^ k, and the values of the format that are no
-- such multiples lie below 2 ^ 52 / 2 ^ k, which is farther off. A root of a whole number is no half, so q is nearer by more than nothing.
use Rattle.std.specs.Prelude.{◌≡◌, refl, Bool, true, ◌&&◌, ◌⊎◌, ℕ, zero, suc, ◌+◌, ◌-◌, ◌*◌, ◌/◌, ◌%◌, ◌^◌, ◌≤◌, ◌<◌, T, ltb, leb, eqb, ℤ, pos, negsuc, Float}
use Rattle.std.proofs.Common.{sym, ◌∙◌, inl, inr, mul-le-mul, le_of_mul-le-mul_right, mul-one, pow-suc, pow_pos, pow-add, pow_mono, lit<, lit≤, ltb→lt}
use Rattle.std.proofs.Math.Path.{ap}
use Rattle.std.proofs.Math.Bool.{false}
use Rattle.std.proofs.Math.Logic.{⊎_elim}
use Rattle.std.proofs.Math.Nat.{lt_of_not-le, mul-le-mul_right, mul-pos}
use native.Mathlib.Omega.{arith}
use Rattle.std.specs.Float.{nan, inf, fin, Format}
use Rattle.std.specs.Float.Ieee.{binary64, prec, low, hid, up, down, size, fits, round, of_int, of_bits, to_bits}
use Rattle.std.specs.Float.Ieee.Positive.{num, den, den_pos, value→cross}
use Rattle.std.specs.Float.Ieee.Exact.{HasValue}
use Rattle.std.specs.Float.Ieee.Fits.{round-fits, and_l, and_r}
use Rattle.std.specs.Float.Ieee.Digits.{back}
use Rattle.std.specs.Float.Ieee.Nearest.{div_same}
use Rattle.std.specs.Float.Ieee.Bits.{of_bits-to_bits}
use Rattle.whole.specs.Signed.{lt_or_ge}
use Rattle.ieee_root.specs.SquareRoot.{plain, Less, sum_num, sum_den, four_times, sum_squared, IsSqrt, IsNearest}
use Rattle.ieee_root.specs.Fractions.{not_lt, square_above, square_below, less_than, more_than, value_plain, dyadic}

-- ---- every value b / d of binary64 is a whole number of K-th parts, K = 2 ^ k, or less than 2 ^ 52 of them
OnGrid : ℕ → ℕ → ℕ → Type 0
OnGrid b d K = (b * K < 2 ^ 52 * d) ⊎ ((z : ℕ) × (b * K ≡ z * d))

second : (a b c d : Bool) → T (a && b && c && d) → T b
second a b c d t = and_r a b (and_l (a && b) c (and_l (a && b && c) d t))

few_digits : (m : ℕ) (e : ℤ) → T (fits binary64 (fin false m e)) → m < 2 ^ 53
unfolding fits
few_digits zero e t = lit< tt
few_digits (suc m) e t = ltb→lt (suc m) (2 ^ 53) (second (eqb (suc m % 2) 1) (ltb (suc m) (2 ^ 53)) (leb (down e) (2 ^ 1074))
    (ltb (suc m * up e) (2 ^ 1024 * down e)) t)

on_grid : (k : ℕ) (y : Float) → T (fits binary64 y) → T (plain y) → OnGrid (num y) (den y) (2 ^ k)
unfolding OnGrid
on_grid k nan f p = absurd p
on_grid k (inf s) f p = absurd p
on_grid k (fin true m e) f p = absurd p
on_grid k (fin false m (pos j)) f p = inr (m * 2 ^ j * 2 ^ k, sym (mul-one _))
on_grid k (fin false m (negsuc j)) f p = ⊎_elim (λ l. inl (small l)) (λ l. inr (m * 2 ^ (k - suc j), multiple l)) (lt_or_ge k (suc j))
  where
    small : k < suc j → m * 1 * 2 ^ k < 2 ^ 52 * 2 ^ suc j
    small l =
        let q = mul-le-mul (few_digits m (negsuc j) f) (pow_mono {i = k} {j = j} (omega arith)) in
        let P = pow_pos k in
        let e = pow-suc 2 j in
        omega arith

    multiple : suc j ≤ k → m * 1 * 2 ^ k ≡ m * 2 ^ (k - suc j) * 2 ^ suc j
    multiple l =
        let e = ap (λ (z : ℕ). m * z) (sym (pow-add 2 (k - suc j) (suc j)) ∙ ap (λ (z : ℕ). 2 ^ z) (back k (suc j) l)) in
        omega arith

-- ---- the comparisons, of numbers alone: the root of N lies from p + 1/2 up to p + 3/2 and is 2 ^ 52 or more
no_whole_above : (N p z d : ℕ) → 0 < d → 4 * N < (2 * p + 3) * (2 * p + 3) → p + 2 ≤ z → ((p + 1) * d + z * d) * ((p + 1) * d + z * d) ≤ 4 * N * (d * d) → ⊥
no_whole_above N p z d D h l m =
    let q : 2 * p + 3 ≤ p + 1 + z = omega arith in
    let k = mul-le-mul q q in
    let c : (p + 1 + z) * (p + 1 + z) ≤ 4 * N = le_of_mul-le-mul_right {k = d * d} (omega arith) (mul-pos D D) in
    omega arith

no_whole_below : (N p P d : ℕ) → 0 < d → (2 * p + 1) * (2 * p + 1) ≤ 4 * N → P ≤ (2 * p + 1) * d → 4 * N * (d * d) ≤ P * P → ⊥
no_whole_below N p P d D h l m =
    let k = mul-le-mul l l in
    let c : 4 * N ≤ (2 * p + 1) * (2 * p + 1) = le_of_mul-le-mul_right {k = d * d} (omega arith) (mul-pos D D) in
    omega arith

no_part_below : (N P d : ℕ) → 0 < d → 2 ^ 104 ≤ N → P < 2 ^ 53 * d → 4 * N * (d * d) ≤ P * P → ⊥
no_part_below N P d D h l m =
    let l' : P + 1 ≤ 2 ^ 53 * d = omega arith in
    let k = mul-le-mul l' l' in
    let c = mul-le-mul_right (d * d) h in
    omega arith

cancel : (a b d : ℕ) → a * d < b * d → a < b
cancel a b d l = lt_of_not-le λ g. let k = mul-le-mul_right d g in absurd (omega arith)

over_x : (a c b d q K : ℕ) → a * K ≡ q * c → (a * d + b * c) * K ≡ c * (q * d + b * K)
over_x a c b d q K h = let k = ap (λ (z : ℕ). z * d) h in omega arith

-- ---- q = p + 1 is next to the root of N = n * 4 ^ k
record Digits (n p k : ℕ) : Type 0 where
  few : p + 1 < 2 ^ 53
  deep : k ≤ 1074
  enough : 2 ^ 104 ≤ n * (2 ^ k * 2 ^ k)
  low : (2 * p + 1) * (2 * p + 1) ≤ 4 * (n * (2 ^ k * 2 ^ k))
  high : 4 * (n * (2 ^ k * 2 ^ k)) < (2 * p + 3) * (2 * p + 3)

at : ℕ → ℕ → Float
at p k = round binary64 false (p + 1) (2 ^ k)

module _ (n p k : ℕ) (v : Float) (is-n : num v * 1 ≡ n * den v) (g : Digits n p k) where
  value : HasValue (at p k) false (p + 1) (2 ^ k)
  unfolding at
  value = dyadic (p + 1) k g.few g.deep

  is_x : num (at p k) * 2 ^ k ≡ (p + 1) * den (at p k)
  is_x = value→cross (at p k) (p + 1) (2 ^ k) value

  big : 2 ^ 52 ≤ p + 1
  big = not_lt λ l. let l' : 2 * p + 3 ≤ 2 ^ 53 = omega arith in let q = mul-le-mul l' l' in let a = g.enough in let b = g.high in omega arith

  nearer_than_above : (y : Float) → Less (at p k) y → OnGrid (num y) (den y) (2 ^ k) → four_times v (at p k) y < sum_squared v (at p k) y
  unfolding OnGrid
  nearer_than_above y l o =
      let K = 2 ^ k in
      let x = at p k in
      let q : (p + 1) * den y < num y * K = more_than (num y) (den y) (p + 1) K (num x) (den x) (sym is_x) (pow_pos k) l in
      lt_of_not-le λ h.
      let h' = ap (λ (z : ℕ). 4 * z * (sum_den x y * sum_den x y)) is-n in
      let m = square_below 4 n (den v) (den x) (den y) K (sum_num x y) ((p + 1) * den y + num y * K) (den_pos v) (den_pos x)
      (over_x (num x) (den x) (num y) (den y) (p + 1) K is_x) (omega arith) in
      ⊎_elim
      (λ s. let b = mul-le-mul_right (den y) big in omega arith)
      (λ z. no_whole_above (n * (K * K)) p z.0 (den y) (den_pos y) g.high (let c = cancel (p + 1) z.0 (den y) (omega arith) in omega arith)
      (let e = ap (λ (u : ℕ). ((p + 1) * den y + u) * ((p + 1) * den y + u)) z.1 in omega arith))
      o

  nearer_than_below : (y : Float) → Less y (at p k) → OnGrid (num y) (den y) (2 ^ k) → sum_squared v (at p k) y < four_times v (at p k) y
  unfolding OnGrid
  nearer_than_below y l o =
      let K = 2 ^ k in
      let x = at p k in
      let q : num y * K < (p + 1) * den y = less_than (num y) (den y) (p + 1) K (num x) (den x) (sym is_x) (pow_pos k) l in
      lt_of_not-le λ h.
      let h' = ap (λ (z : ℕ). 4 * z * (sum_den x y * sum_den x y)) is-n in
      let m = square_above 4 n (den v) (den x) (den y) K (sum_num x y) ((p + 1) * den y + num y * K) (den_pos v) (den_pos x)
      (over_x (num x) (den x) (num y) (den y) (p + 1) K is_x) (omega arith) in
      let N = n * (K * K) in
      let P = (p + 1) * den y + num y * K in
      ⊎_elim
      (λ s. ⊎_elim
      (λ t. no_part_below N P (den y) (den_pos y) g.enough (let e = mul-le-mul_right (den y) t in omega arith) (omega arith))
      (λ t. no_whole_below N p P (den y) (den_pos y) g.low (let e = mul-le-mul_right (den y) t in omega arith) (omega arith))
      (lt_or_ge p (2 ^ 52)))
      (λ z. no_whole_below N p P (den y) (den_pos y) g.low (let c = cancel z.0 (p + 1) (den y) (omega arith) in let e = mul-le-mul_right (den y) c in
      omega arith) (omega arith))
      o

  nearest_at : IsNearest binary64 v (at p k)
  unfolding at
  nearest_at =
      record {
        held = round-fits binary64 false (p + 1) (2 ^ k);
        number = value_plain (at p k) (p + 1) (2 ^ k) value;
        under = λ y f t l. nearer_than_above y l (on_grid k y f t);
        over = λ y f t l. nearer_than_below y l (on_grid k y f t);
      }

-- ---- a format writes a number in one way
bits_of : Format → ℕ → ℕ
bits_of f n = (size n - prec f) * hid f + n / 2 ^ (size n - prec f)

bits_are : (f : Format) (x : Float) → T (plain x) → to_bits f x ≡ bits_of f (num x * 2 ^ low f / den x)
unfolding to_bits bits_of
bits_are f nan p = absurd p
bits_are f (inf s) p = absurd p
bits_are f (fin true m e) p = absurd p
bits_are f (fin false m e) p = omega arith

one_form : (f : Format) (x y : Float) → T (fits f x) → T (fits f y) → T (plain x) → T (plain y) → num x * den y ≡ num y * den x → x ≡ y
one_form f x y X Y P Q e =
    let l = 2 ^ low f in
    let k : num x * l / den x ≡ num y * l / den y = div_same (num x * l) (den x) (num y * l) (den y) (den_pos x) (den_pos y)
    (let h = ap (λ (z : ℕ). z * l) e in omega arith) in
    sym (of_bits-to_bits f x X) ∙ ap (of_bits f) (bits_are f x P ∙ ap (bits_of f) k ∙ sym (bits_are f y Q)) ∙ of_bits-to_bits f y Y

-- less, more or equal
order : (a b : ℕ) → (a < b) ⊎ ((b < a) ⊎ (a ≡ b))
order a b = ⊎_elim inl (λ l. inr (⊎_elim inl (λ m. inr (omega arith)) (lt_or_ge b a))) (lt_or_ge a b)

-- ---- the nearest of all is what squareRoot gives, and nothing else is
module _ (f : Format) (v x : Float) (s : IsNearest f v x) where
  pub nearest_is_sqrt : IsSqrt f v x
  nearest_is_sqrt =
      record {
        held = s.held;
        number = s.number;
        under = λ y h p l. let a = s.under y h p l in omega arith;
        over = λ y h p l. let a = s.over y h p l in omega arith;
        even = λ y h p d t. absurd
            (⊎_elim (λ l. let a = s.under y h p l in omega arith)
            (⊎_elim (λ l. let a = s.over y h p l in omega arith) (λ e. d (one_form f x y s.held h s.number p e)))
            (order (num x * den y) (num y * den x)));
      }

  pub sqrt_is_nearest : (y : Float) → IsSqrt f v y → y ≡ x
  sqrt_is_nearest y t =
      ⊎_elim (λ l. absurd (let a = s.under y t.held t.number l in let b = t.over x s.held s.number l in omega arith))
      (⊎_elim (λ l. absurd (let a = s.over y t.held t.number l in let b = t.under x s.held s.number l in omega arith))
      (λ e. one_form f y x t.held s.held t.number s.number (sym e)))
      (order (num x * den y) (num y * den x))

-- ---- digits for every n: some whole number has its square next below 4 N
record Under (N : ℕ) : Type 0 where
  root : ℕ
  square : root * root ≤ N
  next : N < (root + 1) * (root + 1)

under : (N : ℕ) → Under N
under zero = record { root = 0; square = omega arith; next = omega arith }
under (suc N) = go (under N)
  where
    go : Under N → Under (suc N)
    go h =
        let s = h.root in
        let a = h.square in
        let b = h.next in
        ⊎_elim (λ l. record { root = s; square = omega arith; next = l }) (λ l. record { root = s + 1; square = l; next = omega arith })
        (lt_or_ge (suc N) ((s + 1) * (s + 1)))

-- n times a power of four lies from 2 ^ 28 up to 2 ^ 30; the other 2 ^ 76 are even and stay apart
record Scaled (n : ℕ) : Type 0 where
  k : ℕ
  M : ℕ
  deep : k ≤ 52
  low : 2 ^ 28 ≤ M
  high : M < 2 ^ 30
  same : M * 2 ^ 76 ≡ n * (2 ^ k * 2 ^ k)

scaled : (n d M k : ℕ) → 2 ^ 28 ≤ M * 4 ^ d → M < 2 ^ 30 → k + d ≡ 52 → M * 2 ^ 76 ≡ n * (2 ^ k * 2 ^ k) → Scaled n
scaled n zero M k l h e s = record { k = k; M = M; deep = omega arith; low = omega arith; high = h; same = s }
scaled n (suc d) M k l h e s = ⊎_elim
    (λ b. scaled n d (4 * M) (suc k) (let q = ap (λ (z : ℕ). M * z) (pow-suc 4 d) in omega arith) (omega arith) (omega arith)
    (let q = ap (λ (z : ℕ). n * (z * z)) (pow-suc 2 k) in omega arith))
    (λ b. record { k = k; M = M; deep = omega arith; low = b; high = h; same = s })
    (lt_or_ge M (2 ^ 28))

record Found (n : ℕ) : Type 0 where
  p : ℕ
  k : ℕ
  digits : Digits n p k

found : (n : ℕ) → Scaled n → Found n
found n c = go (under (4 * (n * (2 ^ c.k * 2 ^ c.k))))
  where
    go : Under (4 * (n * (2 ^ c.k * 2 ^ c.k))) → Found n
    go h =
        let s = h.root in
        let p = (s - 1) / 2 in
        let a = h.square in
        let b = h.next in
        let e = c.same in
        let l : 1 ≤ s = not_lt λ g. let g' : s + 1 ≤ 1 = omega arith in let q = mul-le-mul g' g' in let m = c.low in omega arith in
        let lo' : 2 * p + 1 ≤ s = omega arith in
        let hi' : s + 1 ≤ 2 * p + 3 = omega arith in
        let lo = mul-le-mul lo' lo' in
        let hi = mul-le-mul hi' hi' in
        let few : p + 1 < 2 ^ 53 = lt_of_not-le λ g. let g' : 2 ^ 54 - 1 ≤ s = omega arith in let q = mul-le-mul g' g' in let m = c.high in omega arith in
        let d = c.deep in
        let m = c.low in
        record { p = p; k = c.k; digits = record { few = few; deep = omega arith; enough = omega arith; low = omega arith; high = omega arith } }

is_whole : (n : ℕ) → n < 2 ^ 30 → num (of_int binary64 (pos n)) * 1 ≡ n * den (of_int binary64 (pos n))
unfolding of_int
is_whole n N = value→cross (round binary64 false n 1) n 1 (dyadic n 0 (omega arith) (omega arith))

nearest_to_zero : (v : Float) → num v * 1 ≡ 0 * den v → IsNearest binary64 v (fin false 0 (pos 0))
nearest_to_zero v e =
    record {
      held = unfold fits in tt;
      number = tt;
      under = λ y h p l. let a : 0 < num y = omega arith in let b = mul-pos (mul-pos a a) (den_pos v) in let c = ap (λ (z : ℕ). 4 * z * (den y * den y)) e in
          omega arith;
      over = λ y h p l. absurd (omega arith);
    }

pub nearest : (n : ℕ) → n < 2 ^ 30 → (x : Float) × IsNearest binary64 (of_int binary64 (pos n)) x
nearest zero N = (fin false 0 (pos 0), nearest_to_zero _ (is_whole 0 N))
nearest (suc n) N =
    let f = found (suc n) (scaled (suc n) 14 (suc n) 38 (omega arith) N refl refl) in
    (at f.p f.k, nearest_at (suc n) f.p f.k _ (is_whole (suc n) N) f.digits)

-- ---- two controls: the bit patterns that processors give for the roots of 2 and of 3
module _ (n p k b : ℕ) (N : n < 2 ^ 30) (d : Digits n p k) (e : to_bits binary64 (at p k) ≡ b) where
  bits : (x : Float) → IsSqrt binary64 (of_int binary64 (pos n)) x → to_bits binary64 x ≡ b
  bits x s = ap (to_bits binary64) (sqrt_is_nearest binary64 _ _ (nearest_at n p k _ (is_whole n N) d) x s) ∙ e

pub root_of_2 : (x : Float) → IsSqrt binary64 (of_int binary64 (pos 2)) x → to_bits binary64 x ≡ 0x3FF6A09E667F3BCD
unfolding at to_bits round
root_of_2 = bits 2 0x16A09E667F3BCC 52 0x3FF6A09E667F3BCD (lit< tt) (record
    { few = lit< tt; deep = lit≤ tt; enough = lit≤ tt; low = lit≤ tt; high = lit< tt }) refl

pub root_of_3 : (x : Float) → IsSqrt binary64 (of_int binary64 (pos 3)) x → to_bits binary64 x ≡ 0x3FFBB67AE8584CAA
unfolding at to_bits round
root_of_3 = bits 3 0x1BB67AE8584CA9 52 0x3FFBB67AE8584CAA (lit< tt) (record
    { few = lit< tt; deep = lit≤ tt; enough = lit≤ tt; low = lit≤ tt; high = lit< tt }) refl
