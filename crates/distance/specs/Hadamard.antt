-- What the laws of the Hadamard values speak of beside them: the values of four numbers, and a tile's absolute sum. Definitions alone.
-- The laws are in proofs/HadamardLaws.
use Rattle.std.specs.Prelude.{ℕ, ℤ, ◌*ℤ◌, nat_abs}
use Rattle.distance.specs.Distance.{sum, sum_z, sign}

-- four numbers: value i is their sum with the signs of row i
abbrev pub along : (ℕ → ℤ) → ℕ → ℤ
along v i = sum_z 4 (λ k. sign i k *ℤ v k)

-- a tile's sixteen differences by their absolute sizes: the tile's SAD
abbrev pub plain : (ℕ → ℕ → ℤ) → ℕ
plain d = sum 4 (λ y. sum 4 (λ x. nat_abs (d y x)))
