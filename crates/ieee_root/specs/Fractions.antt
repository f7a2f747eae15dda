-- Comparing fractions by whole numbers: what the proofs about a root's neighbours need, over plain numbers. Assumes nothing.
use Rattle.std.specs.Prelude.{◌≡◌, Bool, false, not, ℕ, ◌+◌, ◌-◌, ◌*◌, ◌^◌, ◌≤◌, ◌<◌, T, Float}
use Rattle.std.proofs.Common.{sym, ap, subst, ◌∙◌, lt_of_not-le, mul-le-mul_right, le_of_mul-le-mul_right, mul-pos, mul_assoc, lt_of_lt_of_le, arith}
use Rattle.std.proofs.Common.{pow_pos, pow-add, pow_mono, shl_lt}
use Rattle.std.specs.Float.{nan, inf, fin, binary64}
use Rattle.std.specs.Float.Ieee.{round}
use Rattle.std.specs.Float.Ieee.Digits.{back}
use Rattle.std.specs.Float.Ieee.Exact.{HasValue, round_exact}
use Rattle.ieee_root.specs.SquareRoot.{plain}

pub not_lt : {a b : ℕ} → (a < b → ⊥) → b ≤ a
not_lt h = let g = lt_of_not-le h in omega arith

-- ---- S / (c d) is the sum of two fractions, and one of them has another denominator too, so that the sum is P / (K d). A comparison of its square with
-- t n then holds in the new terms: factors that both sides have are dropped
module _ (t n w c d K S P : ℕ) (W : 0 < w) (C : 0 < c) (same : S * K ≡ c * P) where
  squares : (S * K) * (S * K) * w ≡ (c * P) * (c * P) * w
  squares = ap (λ (z : ℕ). z * z * w) same

  pub square_above : t * (n * w) * (c * d * (c * d)) ≤ S * S * w → t * n * (K * K) * (d * d) ≤ P * P
  square_above h =
      let s = squares in
      let l = mul-le-mul_right (K * K) h in
      le_of_mul-le-mul_right {k = c * c * w} (omega arith) (mul-pos (mul-pos C C) W)

  pub square_below : S * S * w ≤ t * (n * w) * (c * d * (c * d)) → P * P ≤ t * n * (K * K) * (d * d)
  square_below h =
      let s = squares in
      let l = mul-le-mul_right (K * K) h in
      le_of_mul-le-mul_right {k = c * c * w} (omega arith) (mul-pos (mul-pos C C) W)

-- ---- b / d is B / e
module _ (a c b d B e : ℕ) (same : b * e ≡ B * d) where
  pub sum_over : (a * d + b * c) * e ≡ d * (a * e + B * c)
  sum_over = let k = ap (λ (z : ℕ). z * c) same in omega arith

  pub less_than : 0 < d → a * e < B * c → a * d < b * c
  less_than D l =
      lt_of_not-le λ g. let k = ap (λ (z : ℕ). z * c) same in let m = mul-le-mul_right d l in let o = mul-le-mul_right e g in omega arith

  pub more_than : 0 < d → B * c < a * e → b * c < a * d
  more_than D l =
      lt_of_not-le λ g. let k = ap (λ (z : ℕ). z * c) same in let m = mul-le-mul_right d l in let o = mul-le-mul_right e g in omega arith

-- ---- values of binary64 that are given fractions
pub value_plain : (x : Float) (a c : ℕ) → HasValue x false a c → T (plain x)
value_plain nan a c h = absurd h
value_plain (inf s) a c h = absurd h
value_plain (fin s m e) a c h = subst (λ (b : Bool). T (not b)) (sym h.0) tt

-- q / 2 ^ k is one, where q has at most 53 digits
pub dyadic : (q k : ℕ) → q < 2 ^ 53 → k ≤ 1074 → HasValue (round binary64 false q (2 ^ k)) false q (2 ^ k)
dyadic q k h l =
    let j = 1074 - k in
    round_exact binary64 false q (2 ^ k) q j (pow_pos k) h (lt_of_lt_of_le (shl_lt 53 j h) (pow_mono {j = 2098} (omega arith)))
    (ap (λ (z : ℕ). q * 2 ^ z) (sym (back 1074 k l)) ∙ ap (λ (z : ℕ). q * z) (pow-add 2 j k) ∙ sym (mul_assoc q (2 ^ j) (2 ^ k)))
