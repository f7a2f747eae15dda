-- The whole part of what squareRoot gives at a whole n below 2 ^ 30 is the whole root r of n. Assumes nothing.
-- It is at least r, since r is itself a value of the format: anything less would have r nearer. It is below r + 1, since (r + 1) - 1 / 65536 is
-- a value of the format and still above the middle between the true root and r + 1: anything from r + 1 on would have that one nearer.
use Rattle.std.specs.Prelude.{◌≡◌, true, false, ℕ, ◌+◌, ◌*◌, ◌/◌, ◌^◌, ◌≤◌, ◌<◌, T, pos, Float}
use Rattle.std.proofs.Common.{ap, lt_of_not-le, mul-le-mul, mul-le-mul_right, le_of_mul-le-mul_right, mul-pos, arith}
use Rattle.std.proofs.Math.Nat.{div-eq_of_lt-le}
use Rattle.std.specs.Float.{nan, inf, fin, binary64}
use Rattle.std.specs.Float.Ieee.{round, of_int, to_signed}
use Rattle.std.specs.Float.Ieee.Fits.{round-fits}
use Rattle.std.specs.Float.Ieee.Positive.{num, den, den_pos, value→cross}
use Rattle.whole.specs.Numbers.{IsRoot}
use Rattle.whole.specs.Root.{root_next}
use Rattle.ieee_root.specs.SquareRoot.{plain, sum_num, sum_den, four_times, sum_squared, IsSqrt}
use Rattle.ieee_root.specs.Fractions.{not_lt, square_above, square_below, sum_over, less_than, more_than, value_plain, dyadic}

-- ---- the two comparisons, of numbers alone, with a / c the value
not_below : (n r a c : ℕ) → r * r ≤ n → 4 * n * (1 * 1) * (c * c) ≤ (a * 1 + r * c) * (a * 1 + r * c) → a < r * c → ⊥
not_below n r a c h m l =
    let p : a * 1 + r * c + 1 ≤ 2 * (r * c) = omega arith in
    let q = mul-le-mul p p in
    let k = mul-le-mul_right (c * c) h in
    omega arith

not_above : (n r a c : ℕ) → 0 < c → r < 32768 → n < (r + 1) * (r + 1) → (r + 1) * c ≤ a
    → (a * 65536 + (r * 65536 + 65535) * c) * (a * 65536 + (r * 65536 + 65535) * c) ≤ 4 * n * (65536 * 65536) * (c * c) → ⊥
not_above n r a c C R h m l =
    let p : (131072 * r + 131071) * c ≤ a * 65536 + (r * 65536 + 65535) * c = omega arith in
    let q = mul-le-mul p p in
    let k : (131072 * r + 131071) * (131072 * r + 131071) ≤ 4 * n * (65536 * 65536) = le_of_mul-le-mul_right {k = c * c} (omega arith) (mul-pos C C) in
    omega arith

-- ---- v is n, and x is what squareRoot gives at it
module _ (n : ℕ) (v x : Float) (is-n : num v * 1 ≡ n * den v) (s : IsSqrt binary64 v x) where
  -- a comparison with y, which is b / e
  module _ (y : Float) (b e : ℕ) (is_b : num y * e ≡ b * den y) where
    above : four_times v x y ≤ sum_squared v x y → 4 * n * (e * e) * (den x * den x) ≤ (num x * e + b * den x) * (num x * e + b * den x)
    above m =
        let k = ap (λ (z : ℕ). 4 * z * (sum_den x y * sum_den x y)) is-n in
        square_above 4 n (den v) (den y) (den x) e (sum_num x y) (num x * e + b * den x) (den_pos v) (den_pos y)
        (sum_over (num x) (den x) (num y) (den y) b e is_b) (omega arith)

    below : sum_squared v x y ≤ four_times v x y → (num x * e + b * den x) * (num x * e + b * den x) ≤ 4 * n * (e * e) * (den x * den x)
    below m =
        let k = ap (λ (z : ℕ). 4 * z * (sum_den x y * sum_den x y)) is-n in
        square_below 4 n (den v) (den y) (den x) e (sum_num x y) (num x * e + b * den x) (den_pos v) (den_pos y)
        (sum_over (num x) (den x) (num y) (den y) b e is_b) (omega arith)

  at_least : (r : ℕ) → r < 32768 → r * r ≤ n → r * den x ≤ num x
  at_least r R h =
      let y = round binary64 false r 1 in
      let p = dyadic r 0 (omega arith) (omega arith) in
      let is-r = value→cross y r 1 p in
      not_lt λ l.
      let less = less_than (num x) (den x) (num y) (den y) r 1 is-r (den_pos y) (omega arith) in
      not_below n r (num x) (den x) h (above y r 1 is-r (s.under y (round-fits binary64 false r 1) (value_plain y r 1 p) less)) l

  at_most : (r : ℕ) → r < 32768 → n < (r + 1) * (r + 1) → num x < (r + 1) * den x
  at_most r R h =
      let b = r * 65536 + 65535 in
      let y = round binary64 false b 65536 in
      let p = dyadic b 16 (omega arith) (omega arith) in
      let is_b = value→cross y b 65536 p in
      lt_of_not-le λ l.
      let more = more_than (num x) (den x) (num y) (den y) b 65536 is_b (den_pos y) (let C = den_pos x in omega arith) in
      not_above n r (num x) (den x) (den_pos x) R h l (below y b 65536 is_b (s.over y (round-fits binary64 false b 65536) (value_plain y b 65536 p) more))

  part_is : (r : ℕ) → r < 32768 → r * r ≤ n → n < (r + 1) * (r + 1) → num x / den x ≡ r
  part_is r R l h = div-eq_of_lt-le (den x) (at_least r R l) (at_most r R h)

-- ---- Rust's `as i32` cuts a value to its whole part
cut_is : (r : ℕ) (x : Float) → T (plain x) → r < 32768 → num x / den x ≡ r → to_signed 31 x ≡ pos r
unfolding to_signed
cut_is r nan p R h = absurd p
cut_is r (inf s) p R h = absurd p
cut_is r (fin true m e) p R h = absurd p
cut_is r (fin false m e) p R h = ap pos (omega arith)

small_root : {n r : ℕ} → n < 2 ^ 30 → r * r ≤ n → r < 32768
small_root h l = lt_of_not-le λ g. let q = mul-le-mul g g in absurd (omega arith)

pub whole_part : (n r : ℕ) (x : Float) → n < 2 ^ 30 → IsRoot n r → IsSqrt binary64 (of_int binary64 (pos n)) x → to_signed 31 x ≡ pos r
unfolding of_int
whole_part n r x N w s =
    let R = small_root N w.square in
    let v = round binary64 false n 1 in
    let is-n = value→cross v n 1 (dyadic n 0 (omega arith) (omega arith)) in
    cut_is r x s.number R (part_is n v x is-n s r R w.square (root_next w))
