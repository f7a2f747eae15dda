-- Laws of averages: the sum of a block is its SAD against zeros, and the areas of 01's sizes are powers of two. Assumes nothing.
use Rattle.std.specs.Prelude.{◌≡◌, refl, List, ℕ, ◌+◌, ◌*◌, ◌/◌, ◌^◌, ◌≤◌, ◌<◌, replicate}
use Rattle.std.proofs.Common.{ap, ◌∙◌, ⊎_elim, div-lt_iff_lt-mul, mul-le-mul, arith}
use Rattle.std.proofs.Math.Nat.{one-le-pow}
use Rattle.whole.specs.Signed.{lt_or_ge}
use Rattle.distance.specs.Distance.{Block, block_of, sad}
use Rattle.distance.specs.Sums.{sum_eq}
use Rattle.plane.specs.Samples.{nth, gathered, log2, total}
use Rattle.plane.specs.Reads.{zeros_at, gathered_block}

pub total_gathered : (w h : ℕ) (block : Block) → w ≤ 16 → h ≤ 16 → (out : List ℕ) → out ≡ gathered (h * w) (nth w block) →
    sad w h (block_of out w) (block_of (replicate 256 0) w) ≡ total w h block
total_gathered w h block k l out e =
    ap (λ (s : List ℕ). sad w h (block_of s w) (block_of (replicate 256 0) w)) e
    ∙ sum_eq h (λ y m. sum_eq w (λ x n. rw (gathered_block w h block k l y x m n, zeros_at (y * w + x)) (omega arith)))

-- ---- "16x16, 16x8, 8x8, 8x4, 4x4": a shift by log2 of the area divides by the area
abbrev pub Power : ℕ → ℕ → Type 0
Power w h = 2 ^ log2 (w * h) ≡ w * h

pub powers : Power 16 16 × (Power 16 8 × (Power 8 8 × (Power 8 4 × Power 4 4)))
powers = (refl, (refl, (refl, (refl, refl))))

-- such an area is not 0, and with four rows it is at least 4, so that a sum of 32 bits divided by it fits 31
pub some_area : (w h : ℕ) → Power w h → 1 ≤ w * h
some_area w h e = omega (arith, one-le-pow (log2 (w * h)) 2 (omega arith))

pub average_small : (w h n : ℕ) → Power w h → 4 ≤ h → n < 4294967296 → n / (w * h) < 2147483648
average_small w h n e l m =
    let some : 1 ≤ w * h = some_area w h e in
    let wide : 1 ≤ w = ⊎_elim (λ (k : w < 1). let none : w ≡ 0 = omega arith in absurd (omega (arith, ap (λ (i : ℕ). i * h) none))) (λ k. k) (lt_or_ge w 1) in
    let four = mul-le-mul wide l in
    (div-lt_iff_lt-mul {k = w * h} {x = n} {y = 2147483648} some).1 (omega arith)
