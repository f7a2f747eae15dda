-- Laws of Samples: a block whose first sample is not before the data is one of the slice from there on, and its cost is the same. Assumes nothing.
use Rattle.std.proofs.Common.{◌≡◌, refl, sym, ◌∙◌, Bool, true, List, ℕ, ◌+◌, ◌-◌, ◌*◌, length, take, drop, ℤ, pos, negsuc}
use Rattle.std.proofs.Math.IntN.{nat_abs}
use Rattle.std.specs.Int.Signed.{le_z}
use Rattle.whole.specs.Signed.{signed}
use Rattle.distance.specs.Distance.{Block, block_of, cost_of}
use Rattle.distance.proofs.Views.{tail_block, cost_same}
use Rattle.plane.specs.Samples.{placed_at}
use Rattle.plane.specs.Reads.{sample_from_front}

-- a block whose first sample is not before the data is one of the slice from there on, as `&s[at..]` lends it
pub block_in_place : (s : List ℕ) (at : ℤ) (pitch : ℕ) → le_z (pos 0) at ≡ true → (y x : ℕ) →
    block_of (take (length s - nat_abs at) (drop (nat_abs at) s)) pitch y x ≡ placed_at s at pitch y x
block_in_place s (pos n) pitch e y x = tail_block s n pitch y x ∙ sym (sample_from_front s (n + (y * pitch + x)))
block_in_place s (negsuc n) pitch e y x = absurd (omega signed)

pub cost_in_place : (measure : Bool) (w h : ℕ) (a : Block) (s : List ℕ) (at : ℤ) (pitch : ℕ) → le_z (pos 0) at ≡ true →
    cost_of measure w h a (block_of (take (length s - nat_abs at) (drop (nat_abs at) s)) pitch) ≡ cost_of measure w h a (placed_at s at pitch)
cost_in_place measure w h a s at pitch e =
    cost_same w h a a (block_of (take (length s - nat_abs at) (drop (nat_abs at) s)) pitch) (placed_at s at pitch) (λ y x m n. refl)
    (λ y x m n. block_in_place s at pitch e y x) measure
