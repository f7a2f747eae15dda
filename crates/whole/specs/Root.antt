-- The whole root: `root_of n` is the largest whole number whose square is at most n, and the only one. Assumes nothing.
use Rattle.std.specs.Prelude.{◌≡◌, Bool, true, false, not, cond, ℕ, zero, suc, ◌+◌, ◌*◌, ◌/◌, ◌^◌, ◌≤◌, ◌<◌, T, leb}
use Rattle.std.proofs.Common.{sym, ap, subst, mul-le-mul, lt_of_not-le, pow-suc, le_antisymm, arith, leb→le}
use Rattle.std.proofs.Math.Dec.{nleb→lt}
use Rattle.whole.specs.Numbers.{IsRoot, or_one_more, root_by, root_of}

-- ---- to be the largest is that one more has too large a square
pub root_next : {n r : ℕ} → IsRoot n r → n < (r + 1) * (r + 1)
root_next {n} {r} w = lt_of_not-le λ h. let k = w.largest (r + 1) h in absurd (omega arith)

pub root_between : {n r : ℕ} → r * r ≤ n → n < (r + 1) * (r + 1) → IsRoot n r
root_between {n} {r} low high =
    let over : (s : ℕ) → s * s ≤ n → s < r + 1 = λ s h. lt_of_not-le λ l. let k = mul-le-mul l l in absurd (omega arith) in
    record { square = low; largest = λ s h. omega (arith, over s h) }

pub root_only : {n r s : ℕ} → IsRoot n r → IsRoot n s → r ≡ s
root_only {n} {r} {s} a b = le_antisymm (b.largest r a.square) (a.largest s b.square)

-- ---- "twice the root of n/4, or one more"
pub one_step : (n q : ℕ) → IsRoot (n / 4) q → IsRoot n (or_one_more n (2 * q))
one_step n q w = go (leb ((2 * q + 1) * (2 * q + 1)) n) (leb→le ((2 * q + 1) * (2 * q + 1)) n) (nleb→lt ((2 * q + 1) * (2 * q + 1)) n)
  where
    go : (t : Bool) → (T t → (2 * q + 1) * (2 * q + 1) ≤ n) → (T (not t) → n < (2 * q + 1) * (2 * q + 1)) → IsRoot n (cond t (2 * q + 1) (2 * q))
    go true fits not-fits = let h = fits tt in let k = root_next w in root_between h (omega arith)
    go false fits not-fits = let h = not-fits tt in let k = w.square in root_between (omega arith) h

root_by_is : (d n : ℕ) → n < 4 ^ d → IsRoot n (root_by d n)
unfolding root_by
root_by_is zero n h = root_between (omega arith) (omega arith)
root_by_is (suc d) n h = one_step n (root_by d (n / 4)) (root_by_is d (n / 4) (let e = pow-suc 4 d in omega arith))

pub root_is : (n : ℕ) → n < 2 ^ 32 → IsRoot n (root_of n)
unfolding root_of
root_is n h = root_by_is 16 n h

-- ---- where the code ends: the root of nothing
pub root_none : (n : ℕ) → n ≡ 0 → 0 ≡ root_of n
unfolding root_of root_by
root_none n e = ap root_of (sym e)

-- ---- a step of the code, from the root q of a quarter of n
module _ (n q : ℕ) (fits : n < 2 ^ 32) (is : q ≡ root_of (n / 4)) where
  quarter : IsRoot (n / 4) q
  quarter = subst (λ (r : ℕ). IsRoot (n / 4) r) (sym is) (root_is (n / 4) (omega arith))

  pub quarter_small : q < 32768
  quarter_small = lt_of_not-le λ l. let s = mul-le-mul l l in let k = quarter.square in absurd (omega arith)

  pub root_odd : (2 * q + 1) * (2 * q + 1) ≤ n → 2 * q + 1 ≡ root_of n
  root_odd h = let k = root_next quarter in root_only (root_between h (omega arith)) (root_is n fits)

  pub root_even : n < (2 * q + 1) * (2 * q + 1) → 2 * q ≡ root_of n
  root_even h = let k = quarter.square in root_only (root_between (omega arith) h) (root_is n fits)

pub square_small : (s : ℕ) → s < 65536 → s * s < 2 ^ 32
square_small s l = let k : s ≤ 65535 = omega arith in omega (arith, mul-le-mul k k)
