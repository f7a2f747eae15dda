-- 01, "Numbers to hold on to": "lambda setting -13: -4; negative block -1. Setting -1: -1, then 0." By computation.
use Rattle.std.specs.Prelude.{◌≡◌, refl, true, false, ℤ, pos, negsuc}
use Rattle.block.specs.declared.Weights.{Weights}
use Rattle.block.specs.Shapes.{lambda_of}

abbrev pub setting : ℤ → Weights
setting lambda = record { lambda = lambda; bad_sad = pos 0 }

pub minus_13 : lambda_of (setting (negsuc 12)) false ≡ negsuc 3
minus_13 = refl

pub minus_13_negative : lambda_of (setting (negsuc 12)) true ≡ negsuc 0
minus_13_negative = refl

pub minus_1 : lambda_of (setting (negsuc 0)) false ≡ negsuc 0
minus_1 = refl

pub minus_1_negative : lambda_of (setting (negsuc 0)) true ≡ pos 0
minus_1_negative = refl
