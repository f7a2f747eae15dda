-- 01, "Planning": "Quarter lambda is the setting shifted right by 2 .. lambda and `bad_sad` are divided by 3. A shift right rounds down; division by 3 rounds
-- toward zero." Definitions alone; proofs/Rounding has what holds of them.
use Rattle.std.specs.Prelude.{ℤ, pos}
use Rattle.std.specs.Int.Signed.{quot_z, shr_z}

abbrev pub quarter_of : ℤ → ℤ
quarter_of lambda = shr_z lambda 4

abbrev pub third_of : ℤ → ℤ
third_of value = quot_z value (pos 3)
