-- What a count says: 0 that every sample was there, all that none was, and it is never more than all; and where it is 0 at a glance. Assumes nothing.
use Rattle.std.specs.Prelude.{◌≡◌, refl, List, ◌↔◌, ℕ, zero, suc, ◌+◌, ◌*◌, ◌≤◌, ◌<◌, ℤ, pos, length, get_or, None, Option, Some}
use Rattle.std.proofs.Common.{ap, ◌∙◌, ⊎_elim, mul-le-mul_right, arith, lt-ltb}
use Rattle.whole.specs.Signed.{lt_or_ge}
use Rattle.distance.specs.Distance.{sum}
use Rattle.distance.specs.Sums.{sum_suc, sum_below, sum_none, sum_part}
use Rattle.plane.specs.Samples.{read_at, weight}
use Rattle.absent_reads.specs.Absent.{absence, Real, reads_from, absent_in, AllReal, NoneReal}

-- ---- of one read
absence_most : (r : Option ℕ) → absence r ≤ 1
unfolding absence
absence_most (Some byte) = omega arith
absence_most None = omega arith

real_only : (r : Option ℕ) → absence r ≡ 0 → Real r
unfolding absence
real_only (Some byte) e = record { byte = byte; is = refl }
real_only None e = absurd (omega arith)

outside_only : (r : Option ℕ) → absence r ≡ 1 → r ≡ None
unfolding absence
outside_only (Some byte) e = absurd (omega arith)
outside_only None e = refl

real_counts : (r : Option ℕ) → Real r → absence r ≡ 0
unfolding absence
real_counts r k = ap absence k.is

outside_counts : (r : Option ℕ) → r ≡ None → absence r ≡ 1
unfolding absence
outside_counts r e = ap absence e

-- a read that found a byte weighs it
pub real_weighs : (r : Option ℕ) (k : Real r) → weight r ≡ k.byte
unfolding weight
real_weighs r k = ap weight k.is

-- ---- terms of at most k whose sum is all that it can be are each k
full : (n k : ℕ) (f : ℕ → ℕ) → ((i : ℕ) → i < n → f i ≤ k) → sum n f ≡ k * n → (i : ℕ) → i < n → f i ≡ k
full zero k f most e i l = absurd (omega arith)
full (suc n) k f most e i l =
    let rest = sum_below n k {f = f} (λ j m. most j (omega arith)) in
    let last = most n (omega arith) in
    ⊎_elim
    (λ (m : i < n). full n k f (λ j b. most j (omega arith)) (omega (arith, sum_suc n f)) i m)
    (λ (m : n ≤ i). let same : i ≡ n = omega arith in ap f same ∙ omega (arith, sum_suc n f))
    (lt_or_ge i n)

all_of : (n k : ℕ) {f : ℕ → ℕ} → ((i : ℕ) → i < n → f i ≡ k) → sum n f ≡ k * n
all_of zero k {f} each = sum_none 0 {f = f} (λ i l. absurd (omega arith)) ∙ omega arith
all_of (suc n) k {f} each = omega (arith, sum_suc n f, all_of n k {f = f} (λ i l. each i (omega arith)), each n (omega arith))

-- ---- of a block
module _ (s : List ℕ) (at : ℤ) (pitch w h : ℕ) where
  abbrev one : ℕ → ℕ → ℕ
  one y x = absence (reads_from s at pitch y x)

  abbrev row : ℕ → ℕ
  row y = sum w (λ x. one y x)

  row_most : (y : ℕ) → row y ≤ w
  row_most y = omega (arith, sum_below w 1 {f = λ x. one y x} (λ x l. absence_most (reads_from s at pitch y x)))

  pub absent_most : absent_in s at pitch w h ≤ w * h
  unfolding absent_in
  absent_most = sum_below h w {f = row} (λ y l. row_most y)

  all_real : absent_in s at pitch w h ≡ 0 → AllReal s at pitch w h
  unfolding absent_in
  all_real e y x l m = real_only (reads_from s at pitch y x) (omega (arith, sum_part h row y l, sum_part w (λ i. one y i) x m))

  counts_none : AllReal s at pitch w h → absent_in s at pitch w h ≡ 0
  unfolding absent_in
  counts_none k = sum_none h {f = row} (λ y l. sum_none w {f = λ x. one y x} (λ x m. real_counts (reads_from s at pitch y x) (k y x l m)))

  none_real : absent_in s at pitch w h ≡ w * h → NoneReal s at pitch w h
  unfolding absent_in
  none_real e y x l m =
      outside_only (reads_from s at pitch y x)
      (full w 1 (λ i. one y i) (λ i b. absence_most (reads_from s at pitch y i)) (omega (arith, full h w row (λ i b. row_most i) e y l)) x m)

  counts_all : NoneReal s at pitch w h → absent_in s at pitch w h ≡ w * h
  unfolding absent_in
  counts_all k =
      all_of h w {f = row} (λ y l. all_of w 1 {f = λ x. one y x} (λ x m. outside_counts (reads_from s at pitch y x) (k y x l m)) ∙ omega arith)

  pub none_absent : (absent_in s at pitch w h ≡ 0) ↔ AllReal s at pitch w h
  none_absent = (all_real, counts_none)

  pub all_absent : (absent_in s at pitch w h ≡ w * h) ↔ NoneReal s at pitch w h
  all_absent = (none_real, counts_all)

-- ---- a block that lies in the data, with a row more, lacks nothing
pub lacks_nothing : (s : List ℕ) (n pitch w h : ℕ) → n + (h * pitch + w) ≤ length s → absent_in s (pos n) pitch w h ≡ 0
unfolding read_at
lacks_nothing s n pitch w h l =
    (none_absent s (pos n) pitch w h).1
    (λ y x a b.
    let above = mul-le-mul_right {m = y} {n = h} pitch (omega arith) in
    record { byte = get_or s (n + (y * pitch + x)) 0; is = rw (lt-ltb (n + (y * pitch + x)) (length s) (omega arith)) refl })
