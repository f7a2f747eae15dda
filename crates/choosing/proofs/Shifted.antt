-- A wrapped product, shifted right by 8 bits, is read back as it was stored. Assumes nothing.
use mathlib.Core.Path.{◌≡◌, ap, ◌∙◌}
use lib.IntN.{ℤ}
use lib.Signed.{shr_z}
use mir.Facts.{to_z-of_z}
use mir.Syntax.{w32}
use mir.Val.{to_z, of_z}
use Rattle.whole.specs.Numbers.{wrapped}
use Rattle.whole.specs.Interval.{within_32, within_shr, fits}
use Rattle.whole.specs.Wrapping.{wrapped_fits}

pub shifted : (z : ℤ) {X : ℤ} → X ≡ wrapped w32 z → to_z w32 (of_z w32 (shr_z X 256)) ≡ shr_z (wrapped w32 z) 256
shifted z e =
    ap (λ (y : ℤ). to_z w32 (of_z w32 (shr_z y 256))) e ∙ to_z-of_z (fits {w = w32} (within_shr 256 (within_32 (wrapped_fits w32 z))) tt tt)
