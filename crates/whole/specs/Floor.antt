-- The quotient rounded down (`shr_z`), the remainder that goes with it (`mod_z`), and the quotient rounded toward zero (`quot_z`), over any divisor. Assumes
-- nothing.
use Rattle.std.specs.Prelude.{◌≡◌, refl, ℕ, suc, ◌+◌, ◌-◌, ◌*◌, ◌/◌, ◌%◌, ◌≤◌, ◌<◌, ℤ, pos, negsuc, ◌+ℤ◌, ◌*ℤ◌}
use Rattle.std.proofs.Common.{sym, ap, ◌∙◌, mod-lt, div-add-mod', arith}
use Rattle.std.proofs.Math.Nat.{zero-div}
use Rattle.std.proofs.Math.Arith.{digits_div}
use Rattle.std.specs.Int.Signed.{quot_z, shr_z}
use Rattle.whole.specs.Numbers.{mod_z}
use Rattle.whole.specs.Signed.{P, N, neg_p, neg_n, add_is, times_is}

module _ {m : ℕ} (some : 0 < m) where
  -- ---- z is the quotient times m and the remainder, which is below m
  pub floor_is : (z : ℤ) → P z + N (shr_z z m) * m ≡ N z + P (shr_z z m) * m + mod_z z m
  floor_is (pos a) = omega (arith, div-add-mod' a m)
  floor_is (negsuc a) = omega (arith, div-add-mod' a m, mod-lt a some)

  pub mod_below : (z : ℤ) → mod_z z m < m
  mod_below (pos a) = mod-lt a some
  mod_below (negsuc a) = omega (arith, mod-lt a some)

  -- so the quotient is rounded down: z lies from it times m up to, and without, m more
  pub floor_low : (z : ℤ) → P (shr_z z m) * m + N z ≤ P z + N (shr_z z m) * m
  floor_low z = omega (arith, floor_is z)

  pub floor_high : (z : ℤ) → P z + N (shr_z z m) * m < P (shr_z z m) * m + N z + m
  floor_high z = omega (arith, floor_is z, mod_below z)

-- ---- and they are the only two of that kind: z = q * m + r, with r below m
module _ {m : ℕ} (z q : ℤ) (r : ℕ) (small : r < m) (same : P z + N q * m ≡ N z + P q * m + r) where
  pub floor_only : shr_z z m ≡ q
  floor_only = go z q same
    where
      go : (z q : ℤ) → P z + N q * m ≡ N z + P q * m + r → shr_z z m ≡ q
      go (pos a) (pos b) e = let at : a ≡ b * m + r = omega arith in ap pos (ap (λ (n : ℕ). n / m) at ∙ digits_div b small)
      go (pos a) (negsuc b) e = absurd (omega arith)
      go (negsuc a) (pos b) e = absurd (omega arith)
      go (negsuc a) (negsuc b) e =
          let at : a ≡ b * m + (m - suc r) = omega arith in
          ap negsuc (ap (λ (n : ℕ). n / m) at ∙ digits_div b (omega arith))

  pub mod_only : mod_z z m ≡ r
  mod_only =
      let some : 0 < m = omega arith in
      omega (arith, floor_is some z, mod_below some z, ap (λ (k : ℤ). P k * m) floor_only, ap (λ (k : ℤ). N k * m) floor_only)

-- ---- the remainder does not see a multiple of the divisor
pub mod_more : {m : ℕ} → 0 < m → (z k : ℤ) → mod_z (z +ℤ k *ℤ pos m) m ≡ mod_z z m
mod_more {m} some z k =
    let q = shr_z z m in
    mod_only (z +ℤ k *ℤ pos m) (q +ℤ k) (mod_z z m) (mod_below some z)
    (omega (arith, floor_is some z, add_is z (k *ℤ pos m), times_is k m, ap (λ (n : ℕ). n * m) (add_is q k)))

-- a product's remainder is that of the remainder's product
pub mod_times : {m : ℕ} → 0 < m → (z : ℤ) (k : ℕ) → (mod_z z m * k) % m ≡ mod_z (z *ℤ pos k) m
mod_times {m} some z k =
    let q = shr_z z m in
    let n = mod_z z m * k in
    sym (mod_only (z *ℤ pos k) (q *ℤ pos k +ℤ pos (n / m)) (n % m) (mod-lt n some)
    (omega (
      arith,
      ap (λ (j : ℕ). j * k) (floor_is some z),
      div-add-mod' n m,
      times_is z k,
      ap (λ (j : ℕ). j * m) (times_is q k),
      ap (λ (j : ℕ). j * m)
          (add_is (q *ℤ pos k) (pos (n / m))),
    )))

-- ---- the quotient toward zero: how far it lies above and below zero is how far z does, divided
pub quot_p : (z : ℤ) (m : ℕ) → P (quot_z z (pos m)) ≡ P z / m
quot_p (pos a) m = refl
quot_p (negsuc a) m = neg_p (pos (suc a / m)) ∙ sym (zero-div m)

pub quot_n : (z : ℤ) (m : ℕ) → N (quot_z z (pos m)) ≡ N z / m
quot_n (pos a) m = sym (zero-div m)
quot_n (negsuc a) m = neg_n (pos (suc a / m))
