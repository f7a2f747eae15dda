-- A vector's number as a size or a sample.
use Rattle.std.specs.Prelude.{◌≡◌, ℕ, cond, ℤ, pos, FitsSigned, unsigned_abs, unwrap_or, Option, Some, None}
use Rattle.std.proofs.Common.{to_z-of_z, to_z, of_z}
use Rattle.std.specs.Int.{w64}
use Rattle.whole.specs.Numbers.{lies_in}

-- itself, where it lies from 0 to the most that is accepted
abbrev pub up_to : ℕ → ℤ → Option ℕ
up_to most number = cond (lies_in (pos 0) (pos most) number) (Some (unsigned_abs number)) None

-- the same, or 0
abbrev pub limited_to : ℕ → ℤ → ℕ
limited_to most number = unwrap_or (up_to most number) 0

-- what the machine reads of a number is the number
pub read_limited : (most : ℕ) (z : ℤ) {r : ℕ} → FitsSigned w64 z → r ≡ limited_to most (to_z w64 (of_z w64 z)) → r ≡ limited_to most z
read_limited most z f e = simp to_z-of_z at e
