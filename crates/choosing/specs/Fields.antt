-- A field that fits i16 is read back as it was stored: so what is asked of it holds, and what is worked out from it is worked out from the field. Assumes
-- nothing.
use Rattle.std.specs.Prelude.{◌≡◌, ℕ, ℤ, pos, ◌+ℤ◌}
use Rattle.std.specs.Int.{w32}
use Rattle.std.proofs.Common.{to_z, of_z}
use Rattle.whole.specs.Interval.{Within, is_within}
use Rattle.choosing.specs.Choosing.{count_of}

-- what the machine reads of a number of 32 bits
abbrev pub read : ℤ → ℤ
read z = to_z w32 (of_z w32 z)

module _ {z : ℤ} (p : Within 32768 32767 z) where
  same : read z ≡ z
  same = (is_within w32 p tt tt).same

  pub read_within : Within 32768 32767 (read z)
  read_within = rw same p

  pub read_along : (n : ℕ) {r : ℤ} → r ≡ read z +ℤ pos n → r ≡ z +ℤ pos n
  read_along n e = let s = same in cc

pub read_count : {a b : ℤ} {r : ℕ} → Within 32768 32767 a → Within 32768 32767 b → r ≡ count_of (read a) (read b) → r ≡ count_of a b
read_count p q e = let s = same p in let t = same q in cc
