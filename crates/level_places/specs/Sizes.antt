-- What Levels says of a side: it never grows from one level to the next, and is even from level 1 on. Assumes nothing.
use Rattle.std.specs.Prelude.{◌≡◌, refl, Bool, true, false, cond, ℤ, pos, negsuc, ◌*ℤ◌, nat_abs, T, leb, ◌≤ℤ◌}
use Rattle.std.proofs.Common.{ap, ◌∙◌, mul-le-mul_left, mul-le-mul_right, div-add-mod', add-one, leb→le, lit<, SFits}
use Rattle.std.proofs.Math.Logic.{⊎_elim}
use Prim.Native.Nat.{ℕ, zero, suc, ◌+◌, ◌*◌, ◌/◌, ◌≤◌, ◌<◌}
use native.Mathlib.Omega.{arith}
use Rattle.std.specs.Int.Signed.{quot_z, shr_z, lt_z}
use Rattle.std.specs.Int.{w32}
use Rattle.whole.specs.Signed.{P, N, signed, neg_p, neg_n, range, fit, lt_z_true, lt_z_false, lt_or_ge}
use Rattle.whole.specs.Floor.{floor_high, quot_p, quot_n}
use Rattle.limits.specs.Limits.{shifted_by}
use Rattle.level_places.specs.Levels.{size_after, turns_of}

-- ---- a product with a natural number: how far it lies above and below zero
times_p : (k : ℕ) (x : ℤ) → P (pos k *ℤ x) ≡ k * P x
times_p k (pos n) = refl
times_p k (negsuc n) = neg_p (pos (k * suc n)) ∙ omega arith

times_n : (k : ℕ) (x : ℤ) → N (pos k *ℤ x) ≡ k * N x
times_n k (pos n) = omega arith
times_n k (negsuc n) = neg_n (pos (k * suc n))

-- k parts of the m that a number is divided into are no more than the number: `part_fits 2 4 tt f`
pub part_fits : {z : ℤ} (k m : ℕ) → T (leb k m) → SFits w32 z → SFits w32 (pos k *ℤ quot_z z (pos m))
part_fits {z} k m t f =
    let above = part (P z) in
    let below = part (N z) in
    let q = quot_z z (pos m) in
    let p : P (pos k *ℤ q) ≡ k * (P z / m) = times_p k q ∙ ap (λ (n : ℕ). k * n) (quot_p z m) in
    let n : N (pos k *ℤ q) ≡ k * (N z / m) = times_n k q ∙ ap (λ (n : ℕ). k * n) (quot_n z m) in
    one_side z above below p n (range f)
  where
    part : (a : ℕ) → k * (a / m) ≤ a
    part a = let l : k * (a / m) ≤ m * (a / m) = mul-le-mul_right (a / m) (leb→le k m t) in omega (arith, div-add-mod' a m)

    -- one of the two is 0, so that each bound is kept
    one_side : (x : ℤ) {y : ℤ} {a b : ℕ} → a ≤ P x → b ≤ N x → P y ≡ a → N y ≡ b → (P x < 2147483648 + N x) × (N x ≤ 2147483648 + P x) → SFits w32 y
    one_side (pos u) l k p n r = fit (omega arith) (omega arith)
    one_side (negsuc u) l k p n r = fit (omega arith) (omega arith)

-- ---- one level
abbrev pub reduced : ℤ → ℤ
reduced z = pos 2 *ℤ quot_z z (pos 4)

pub reduced_p : (z : ℤ) → P (reduced z) ≡ 2 * (P z / 4)
reduced_p z = times_p 2 (quot_z z (pos 4)) ∙ ap (λ (n : ℕ). 2 * n) (quot_p z 4)

pub reduced_n : (z : ℤ) → N (reduced z) ≡ 2 * (N z / 4)
reduced_n z = times_n 2 (quot_z z (pos 4)) ∙ ap (λ (n : ℕ). 2 * n) (quot_n z 4)

pub size_fits : {z : ℤ} (n : ℕ) → SFits w32 z → SFits w32 (size_after n z)
unfolding size_after
size_fits zero f = f
size_fits (suc n) f = part_fits 2 4 tt (size_fits n f)

pub size_more : (n : ℕ) (z : ℤ) → size_after (n + 1) z ≡ reduced (size_after n z)
unfolding size_after
size_more n z = rw add-one

-- ---- how many turns a level takes
pub no_turns : (z : ℤ) → lt_z z (pos 0) ≡ true → 0 ≡ turns_of z
no_turns (pos n) e = absurd (omega (signed, lt_z_true (pos n) (pos 0) e))
no_turns (negsuc n) e = refl

pub some_turns : (z : ℤ) → lt_z z (pos 0) ≡ false → nat_abs z ≡ turns_of z
some_turns (pos n) e = refl
some_turns (negsuc n) e = absurd (omega (signed, lt_z_false (negsuc n) (pos 0) e))

-- ---- a side never grows from level to level, and is even from level 1 on
module _ (z : ℤ) (natural : pos 0 ≤ℤ z) where
  reduced_less : (x : ℤ) → pos 0 ≤ℤ x → (pos 0 ≤ℤ reduced x) × (reduced x ≤ℤ x)
  reduced_less (pos a) h = (omega (signed, reduced_p (pos a), reduced_n (pos a)), omega (signed, reduced_p (pos a), reduced_n (pos a)))
  reduced_less (negsuc a) h = absurd (omega signed)

  pub size_natural : (n : ℕ) → pos 0 ≤ℤ size_after n z
  unfolding size_after
  size_natural zero = natural
  size_natural (suc n) = (reduced_less (size_after n z) (size_natural n)).0

  pub never_grows : (l m : ℕ) → l ≤ m → size_after m z ≤ℤ size_after l z
  unfolding size_after
  never_grows l zero h = let e : l ≡ 0 = omega arith in rw e (omega signed)
  never_grows l (suc m) h =
      ⊎_elim
      (λ (k : l < suc m). let a = never_grows l m (omega arith) in let b = (reduced_less (size_after m z) (size_natural m)).1 in omega signed)
      (λ (k : suc m ≤ l). let e : l ≡ suc m = omega arith in rw e (omega signed))
      (lt_or_ge l (suc m))

pub even_later : (n : ℕ) (z : ℤ) → (half : ℤ) × (size_after (suc n) z ≡ pos 2 *ℤ half)
unfolding size_after
even_later n z = (quot_z (size_after n z) (pos 4), refl)

-- so one that is not 0 is 2 or more
pub two_or_more : (n : ℕ) (z : ℤ) → pos 0 ≤ℤ z → (size_after (suc n) z ≡ pos 0 → ⊥) → pos 2 ≤ℤ size_after (suc n) z
unfolding size_after
two_or_more n z natural some = by (size_after n z) (size_natural z natural n) some
  where
    by : (x : ℤ) → pos 0 ≤ℤ x → (reduced x ≡ pos 0 → ⊥) → pos 2 ≤ℤ reduced x
    by (pos a) h k =
        let above = reduced_p (pos a) in
        let below = reduced_n (pos a) in
        ⊎_elim (λ (l : a < 4). absurd (k (omega signed))) (λ (l : 4 ≤ a). omega signed) (lt_or_ge a 4)
    by (negsuc a) h k = absurd (omega signed)

-- and chroma's side, shifted, comes to 0 only where luma's does
pub shifted_gone : (n : ℕ) (z s : ℤ) → pos 0 ≤ℤ z → shifted_by (size_after (suc n) z) s ≡ pos 0 → size_after (suc n) z ≡ pos 0
unfolding size_after
shifted_gone n z s natural = by (size_after n z) (size_natural z natural n) (lt_z s (pos 1))
  where
    by : (x : ℤ) → pos 0 ≤ℤ x → (t : Bool) → cond t (reduced x) (shr_z (reduced x) 2) ≡ pos 0 → reduced x ≡ pos 0
    by x h true e = e
    by (pos a) h false e =
        let above = reduced_p (pos a) in
        let below = reduced_n (pos a) in
        omega (signed, floor_high {m = 2} (lit< tt) (reduced (pos a)))
    by (negsuc a) h false e = absurd (omega signed)

-- ---- a frame's side has come to 0 at level 14: 16,384 is 2 at level 13
later_p : (n : ℕ) (z : ℤ) → P (size_after (suc n) z) ≡ 2 * (P (size_after n z) / 4)
unfolding size_after
later_p n z = reduced_p (size_after n z)

-- after n levels more a side is so many times smaller
smaller : (z : ℤ) (m n k : ℕ) → k * P (size_after m z) ≤ n → (2 * k) * P (size_after (suc m) z) ≤ n
smaller z m n k h =
    let half : 2 * P (size_after (suc m) z) ≤ P (size_after m z) = omega (arith, later_p m z) in
    let times : k * (2 * P (size_after (suc m) z)) ≤ k * P (size_after m z) = mul-le-mul_left k half in
    omega arith

pub gone : (z : ℤ) → pos 0 ≤ℤ z → z ≤ℤ pos 16384 → (n : ℕ) → 14 ≤ n → size_after n z ≡ pos 0
unfolding size_after
gone z low high n late =
    let step : (m k : ℕ) → k * P (size_after m z) ≤ 16384 → (2 * k) * P (size_after (suc m) z) ≤ 16384 = λ m k. smaller z m 16384 k in
    let four = step 3 8 (step 2 4 (step 1 2 (step 0 1 (start z low high)))) in
    let eight = step 7 128 (step 6 64 (step 5 32 (step 4 16 four))) in
    let fourteen = step 13 8192 (step 12 4096 (step 11 2048 (step 10 1024 (step 9 512 (step 8 256 eight))))) in
    by (size_after n z) (size_after 14 z) (P (size_after 13 z) / 4) (size_natural z low n) (never_grows z low 14 n late) (size_natural z low 14) fourteen
    (later_p 13 z)
  where
    start : (x : ℤ) → pos 0 ≤ℤ x → x ≤ℤ pos 16384 → 1 * P x ≤ 16384
    start (pos a) l k = omega signed
    start (negsuc a) l k = absurd (omega signed)

    by : (x y : ℤ) (h : ℕ) → pos 0 ≤ℤ x → x ≤ℤ y → pos 0 ≤ℤ y → 16384 * P y ≤ 16384 → P y ≡ 2 * h → x ≡ pos 0
    by (pos a) (pos b) h l k m most even = omega signed
    by (pos a) (negsuc b) h l k m most even = absurd (omega signed)
    by (negsuc a) y h l k m most even = absurd (omega signed)
