-- 01, "Numbers to hold on to": its line about lambda settings, by computation.
use Rattle.std.specs.Prelude.{◌≡◌, refl, pos, negsuc}
use Rattle.records.specs.Lambda.{quarter_of, third_of}

-- "lambda setting -13: -4; negative block -1. Setting -1: -1, then 0"
pub setting_minus_13 : quarter_of (negsuc 12) ≡ negsuc 3
setting_minus_13 = refl

pub setting_minus_13_negative : third_of (quarter_of (negsuc 12)) ≡ negsuc 0
setting_minus_13_negative = refl

pub setting_minus_1 : quarter_of (negsuc 0) ≡ negsuc 0
setting_minus_1 = refl

pub setting_minus_1_negative : third_of (quarter_of (negsuc 0)) ≡ pos 0
setting_minus_1_negative = refl
