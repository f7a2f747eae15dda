-- What the machine reads of a number that was cast and of a call's answer, in the form of whole's `Is`. Assumes nothing.
use Rattle.std.proofs.Common.{◌≡◌, ℕ, ◌^◌, ◌≤◌, ◌<◌, ℤ, pos, arith, to_z, of_z}
use Rattle.std.proofs.Math.Dec.{T, ltb, ltb→lt}
use Rattle.std.proofs.Math.Facts.{to_z_pos}
use Rattle.std.specs.Int.{Width, w64}
use lib.Signed.{mag}
use mir.Val.{hbits}
use Rattle.whole.specs.Signed.{got}
use Rattle.whole.specs.Interval.{Within, Is}

-- a number kept in 64 bits, and read back
abbrev pub as_64 : ℤ → ℤ
as_64 z = to_z w64 (of_z w64 z)

-- an unsigned number, cast to a signed width
pub is_natural : {w : Width} {n : ℕ} (h : ℕ) → n ≤ h → T (ltb h (2 ^ hbits w)) → Is w h h (to_z w n) (pos n)
is_natural {w} h l t = record { same = to_z_pos w (omega (arith, ltb→lt h (2 ^ hbits w) t)); lies = omega arith }

-- a call's answer
pub is_answer : {w : Width} {l h : ℕ} {z y : ℤ} → mag z < 2 ^ hbits w → z ≡ y → Within l h y → Is w l h (to_z w (of_z w z)) y
is_answer {w} small e lies = record { same = got w small e; lies = lies }
