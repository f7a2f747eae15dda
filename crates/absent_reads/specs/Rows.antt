-- Counting by rows: of the places of a row, those that are absent and those that the row shares with the data are all. Assumes nothing.
use Rattle.std.specs.Prelude.{◌≡◌, refl, List, ℕ, zero, suc, ◌+◌, ◌-◌, ◌*◌, ◌≤◌, ◌<◌, min, ℤ, pos, negsuc, ◌+ℤ◌, length}
use Rattle.std.proofs.Common.{ap, ⊎_elim, arith, lt-ltb, le-ltb}
use Rattle.std.proofs.Math.Nat.{zero-min, min-zero}
use Rattle.whole.specs.Signed.{P, N, add_is, eq_of, lt_or_ge}
use Rattle.distance.specs.Distance.{sum}
use Rattle.distance.specs.Sums.{sum_zero, sum_suc, sum_eq}
use Rattle.plane.specs.Samples.{read_at}
use Rattle.absent_reads.specs.Absent.{absence, absent_in}

-- ---- how many of the w places from one on are in the data: from the first of them, or the front of the data, to their end, or the data's.
-- A number's `P` is how far it lies above zero.
abbrev pub shared_by : ℕ → ℤ → ℕ → ℕ
shared_by length at w = min (P (at +ℤ pos w)) length - P at

-- how many of them are absent
abbrev pub row_absent : List ℕ → ℤ → ℕ → ℕ
row_absent s at w = sum w (λ x. absence (read_at s (at +ℤ pos x)))

-- ---- a place before the data, in them, and behind them
before : (s : List ℕ) (z : ℤ) → 1 ≤ N z → absence (read_at s z) ≡ 1
unfolding absence read_at
before s (pos n) l = absurd (omega arith)
before s (negsuc n) l = refl

inside : (s : List ℕ) (z : ℤ) → N z ≡ 0 → P z < length s → absence (read_at s z) ≡ 0
unfolding absence read_at
inside s (pos n) e l = rw (lt-ltb n (length s) l)
inside s (negsuc n) e l = absurd (omega arith)

behind : (s : List ℕ) (z : ℤ) → N z ≡ 0 → length s ≤ P z → absence (read_at s z) ≡ 1
unfolding absence read_at
behind s (pos n) e l = rw (le-ltb n (length s) l)
behind s (negsuc n) e l = absurd (omega arith)

-- ---- one place more: it is absent, or it is shared
one_sided : (z : ℤ) → min (P z) (N z) ≡ 0
one_sided (pos n) = min-zero n
one_sided (negsuc n) = zero-min (suc n)

one_more : (s : List ℕ) (at : ℤ) (w : ℕ) → absence (read_at s (at +ℤ pos w)) + shared_by (length s) at (suc w) ≡ 1 + shared_by (length s) at w
one_more s at w =
    let z = at +ℤ pos w in
    let next = at +ℤ pos (suc w) in
    let d = add_is at (pos w) in
    let e = add_is at (pos (suc w)) in
    ⊎_elim
    (λ (low : N z < 1).
    let further : P next ≡ P z + 1 = omega (arith, d, e, one_sided next) in
    let behind-first : P at ≤ P z = omega (arith, d, one_sided at) in
    ⊎_elim
    (λ (l : P z < length s). omega (arith, further, behind-first, inside s z (omega arith) l))
    (λ (l : length s ≤ P z). omega (arith, further, behind-first, behind s z (omega arith) l))
    (lt_or_ge (P z) (length s)))
    (λ (low : 1 ≤ N z).
    let here : P z ≡ 0 = omega (arith, one_sided z) in
    let there : P next ≡ 0 = omega (arith, d, e, one_sided z, one_sided next) in
    omega (arith, here, there, before s z low))
    (lt_or_ge (N z) 1)

pub row_counted : (s : List ℕ) (at : ℤ) (w : ℕ) → row_absent s at w + shared_by (length s) at w ≡ w
row_counted s at zero =
    let same : P (at +ℤ pos 0) ≡ P at = omega (arith, add_is at (pos 0), one_sided at, one_sided (at +ℤ pos 0)) in
    omega (arith, same, sum_zero (λ x. absence (read_at s (at +ℤ pos x))))
row_counted s at (suc w) = omega (arith, sum_suc w (λ x. absence (read_at s (at +ℤ pos x))), row_counted s at w, one_more s at w)

-- ---- what is left of a row
pub shared_most : (s : List ℕ) (at : ℤ) (w : ℕ) → shared_by (length s) at w ≤ w
shared_most s at w = omega (arith, row_counted s at w)

pub ends_further : (at : ℤ) (w : ℕ) → P at ≤ P (at +ℤ pos w)
ends_further at w = omega (arith, add_is at (pos w), one_sided at, one_sided (at +ℤ pos w))

-- ---- a block's count, a row further
further : (at : ℤ) (a b : ℕ) → at +ℤ pos (a + b) ≡ at +ℤ pos a +ℤ pos b
further at a b = eq_of _ _ (omega (arith, add_is at (pos (a + b)), add_is at (pos a), add_is (at +ℤ pos a) (pos b)))

row_of : (s : List ℕ) (at : ℤ) (pitch w y : ℕ) → sum w (λ x. absence (read_at s (at +ℤ pos (y * pitch + x)))) ≡ row_absent s (at +ℤ pos (y * pitch)) w
row_of s at pitch w y = sum_eq w (λ x l. ap (λ (z : ℤ). absence (read_at s z)) (further at (y * pitch) x))

pub rows_none : (s : List ℕ) (at : ℤ) (pitch w : ℕ) → absent_in s at pitch w 0 ≡ 0
unfolding absent_in
rows_none s at pitch w = sum_zero (λ y. sum w (λ x. absence (read_at s (at +ℤ pos (y * pitch + x)))))

pub rows_next : (s : List ℕ) (at : ℤ) (pitch w y : ℕ) →
    absent_in s at pitch w (suc y) ≡ absent_in s at pitch w y + (w - shared_by (length s) (at +ℤ pos (y * pitch)) w)
unfolding absent_in
rows_next s at pitch w y =
    omega (arith, sum_suc y (λ i. sum w (λ x. absence (read_at s (at +ℤ pos (i * pitch + x))))), row_of s at pitch w y, row_counted s (at +ℤ pos (y * pitch)) w)
