-- Laws of Samples: what a read is from the front of the data on and before it, what a gathered array holds, and that both tell of a block. Assumes nothing.
use Rattle.std.specs.Prelude.{◌≡◌, refl, Bool, List, ℕ, zero, suc, ◌+◌, ◌*◌, ◌/◌, ◌%◌, ◌≤◌, ◌<◌, ltb, ℤ, negsuc, ◌+ℤ◌, get_or, length, set, replicate}
use Rattle.std.specs.Prelude.{None, Option, Some}
use Rattle.std.proofs.Common.{sym, ap, ◌∙◌, ⊎_elim, mul-le-mul, add-one, length-set, get_or-set_same, get_or-set_other, lt-ltb, le-ltb}
use Rattle.std.proofs.Math.Bool.{true, false, cond}
use native.Mathlib.Omega.{arith}
use Rattle.std.proofs.Math.Arith.{digits_lt, digits_div, digits_mod}
use Rattle.std.proofs.Math.IntN.{pos}
use Rattle.std.proofs.lemmas.List.{length-replicate, get_or-replicate, set-get_or}
use Rattle.std.proofs.Math.ListN.{get_or-eq_default}
use Rattle.whole.specs.Signed.{lt_or_ge}
use Rattle.distance.specs.Distance.{Block, block_of, cost_of}
use Rattle.distance.specs.Laws.{Agree, Bytes}
use Rattle.distance.proofs.Views.{cost_same}
use Rattle.plane.specs.Samples.{read_at, weight, sample_at, placed_from, nth, overlaid, source_at, gathered}

-- ---- reads. From the front on a sample is the list's own, which counts 0 past its end
pub sample_from_front : (s : List ℕ) (n : ℕ) → sample_at s (pos n) ≡ get_or s n 0
unfolding sample_at read_at weight
sample_from_front s n =
    ⊎_elim
    (λ (l : n < length s). rw (lt-ltb n (length s) l))
    (λ (l : length s ≤ n). rw (le-ltb n (length s) l, get_or-eq_default s 0 l))
    (lt_or_ge n (length s))

pub sample_before : (s : List ℕ) (n : ℕ) → sample_at s (negsuc n) ≡ 0
unfolding sample_at read_at weight
sample_before s n = refl

-- bytes are read as bytes, wherever they are read
either_byte : {m n : ℕ} (t : Bool) → m < 256 → n < 256 → cond t m n < 256
either_byte true k l = k
either_byte false k l = l

module _ (s : List ℕ) (bytes : (n : ℕ) → get_or s n 0 < 256) where
  pub sample_byte : (at : ℤ) → sample_at s at < 256
  sample_byte (pos n) = rw (sample_from_front s n) (bytes n)
  sample_byte (negsuc n) = rw (sample_before s n) (omega arith)

  pub placed_byte : (origin : Option ℤ) (pitch : ℕ) → Bytes (placed_from s origin pitch)
  unfolding placed_from
  placed_byte (Some at) pitch y x = sample_byte (at +ℤ pos (y * pitch + x))
  placed_byte None pitch y x = omega arith

  -- by the cases of both origins, and not by the law above
  pub source_byte : (pitch : ℕ) (full overlay : Option ℤ) (w h b : ℕ) → source_at s pitch full overlay w h b < 256
  unfolding source_at placed_from
  source_byte pitch (Some full) (Some at) w h b =
      either_byte (ltb b (overlaid w h)) (sample_byte (at +ℤ pos ((b / (w / 2)) * pitch + b % (w / 2))))
      (sample_byte (full +ℤ pos ((b / w) * pitch + b % w)))
  source_byte pitch None (Some at) w h b =
      either_byte (ltb b (overlaid w h)) (sample_byte (at +ℤ pos ((b / (w / 2)) * pitch + b % (w / 2)))) (omega arith)
  source_byte pitch (Some full) None w h b = sample_byte (full +ℤ pos ((b / w) * pitch + b % w))
  source_byte pitch None None w h b = omega arith

-- ---- what a gathered array holds
pub gathered_none : (f : ℕ → ℕ) → gathered 0 f ≡ replicate 256 0
unfolding gathered
gathered_none f = refl

pub gathered_more : (n : ℕ) (f : ℕ → ℕ) → gathered (n + 1) f ≡ set (gathered n f) n (f n)
unfolding gathered
gathered_more n f = rw add-one

-- as a loop has it: one more is stored in the array that is there
pub gathered_next : {out : List ℕ} (n : ℕ) (f : ℕ → ℕ) {v : ℕ} → v ≡ f n → out ≡ gathered n f → set out n v ≡ gathered (n + 1) f
gathered_next n f {v} e p =
    ap (λ (l : List ℕ). set l n v) p ∙ ap (λ (k : ℕ). set (gathered n f) n k) e ∙ sym (gathered_more n f)

pub gathered_long : (n : ℕ) (f : ℕ → ℕ) → length (gathered n f) ≡ 256
unfolding gathered
gathered_long zero f = length-replicate {A = ℕ} 256 0
gathered_long (suc n) f = simp length-set (gathered_long n f)

pub gathered_at : (n : ℕ) (f : ℕ → ℕ) → n ≤ 256 → (b : ℕ) → b < n → get_or (gathered n f) b 0 ≡ f b
unfolding gathered
gathered_at zero f k b l = absurd (omega arith)
gathered_at (suc n) f k b l =
    ⊎_elim
    (λ (m : b < n). get_or-set_other (gathered n f) n b (f n) 0 (λ e. omega arith) ∙ gathered_at n f (omega arith) b m)
    (λ (m : n ≤ b). let e : b ≡ n = omega arith in rw e (get_or-set_same (gathered n f) n (f n) 0 (omega (arith, gathered_long n f))))
    (lt_or_ge b n)

pub zeros_at : (b : ℕ) → get_or {A = ℕ} (replicate 256 0) b 0 ≡ 0
zeros_at b =
    ⊎_elim
    (λ (l : b < 256). get_or-replicate {A = ℕ} 256 b 0 0 l)
    (λ (l : 256 ≤ b). let past : length {A = ℕ} (replicate 256 0) ≤ b = omega (arith, length-replicate {A = ℕ} 256 0) in
    get_or-eq_default {A = ℕ} (replicate 256 0) 0 past)
    (lt_or_ge b 256)

-- zeros gathered are zeros
pub gathered_zeros : (n : ℕ) → gathered n (λ b. 0) ≡ replicate 256 0
unfolding gathered
gathered_zeros zero = refl
gathered_zeros (suc n) =
    ap (λ (l : List ℕ). set l n 0) (gathered_zeros n)
    ∙ ap (λ (v : ℕ). set {A = ℕ} (replicate 256 0) n v) (sym (zeros_at n))
    ∙ set-get_or {A = ℕ} (replicate 256 0) n 0

-- ---- sixteen rows of sixteen
pub in_sixteen : (w h : ℕ) {y x : ℕ} → w ≤ 16 → h ≤ 16 → y < h → x < w → y * w + x < 256
in_sixteen w h {y} k l m n = let t = mul-le-mul {n₁ = y} {m₁ = w} {n₂ = 15} {m₂ = 16} (omega arith) k in omega arith

pub area_small : (w h : ℕ) → w ≤ 16 → h ≤ 16 → h * w ≤ 256
area_small w h k l = mul-le-mul {n₁ = h} {m₁ = w} {n₂ = 16} {m₂ = 16} l k

-- sample y * w + x of a block is its sample (y, x)
pub nth_of : (w : ℕ) (block : Block) (y : ℕ) {x : ℕ} → x < w → nth w block (y * w + x) ≡ block y x
nth_of w block y l = rw (digits_div y l, digits_mod y l)

-- the rows of an array, and the block that was gathered into it
pub gathered_rows : (w h : ℕ) (f : ℕ → ℕ) → w ≤ 16 → h ≤ 16 → Agree w h (block_of (gathered (h * w) f) w) (λ y x. f (y * w + x))
gathered_rows w h f k l y x m n = gathered_at (h * w) f (area_small w h k l) (y * w + x) (digits_lt m n)

pub gathered_block : (w h : ℕ) (block : Block) → w ≤ 16 → h ≤ 16 → Agree w h (block_of (gathered (h * w) (nth w block)) w) block
gathered_block w h block k l y x m n = gathered_rows w h (nth w block) k l y x m n ∙ nth_of w block y n

-- ---- costs against either
module _ (measure : Bool) (w h : ℕ) (a : Block) where
  pub cost_gathered : (block : Block) → w ≤ 16 → h ≤ 16 → (out : List ℕ) → out ≡ gathered (h * w) (nth w block) →
      cost_of measure w h a (block_of out w) ≡ cost_of measure w h a block
  cost_gathered block k l out e =
      ap (λ (s : List ℕ). cost_of measure w h a (block_of s w)) e
      ∙ cost_same w h a a (block_of (gathered (h * w) (nth w block)) w) block (λ y x m n. refl) (gathered_block w h block k l) measure
