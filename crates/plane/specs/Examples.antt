-- 01, "Numbers to hold on to": "pel 2, base 0, pitch 8, height 4: (3,1) is 97, (-1,0) is 31", each by computation. With them the same place at
-- pel 1 and 4, the length rule at its ends, and what a read and a log2 are.
use Rattle.std.specs.Prelude.{◌≡◌, refl, true, false, List, [], ◌∷◌, ℕ, ℤ, pos, negsuc, None, Some}
use Rattle.plane.specs.declared.Place.{Place}
use Rattle.plane.specs.Places.{subpel_of, keeps_length, limits_hold}
use Rattle.plane.specs.Samples.{read_at, weight, log2}

abbrev place : ℤ → Place
place pel = record { base = 0; pitch = pos 8; width = pos 8; height = pos 4; pel = pel }

pub at_3_1 : subpel_of (place (pos 2)) (pos 3) (pos 1) ≡ pos 97
unfolding subpel_of
at_3_1 = refl

pub at_minus_1_0 : subpel_of (place (pos 2)) (negsuc 0) (pos 0) ≡ pos 31
unfolding subpel_of
at_minus_1_0 = refl

pub at_pel_1 : subpel_of (place (pos 1)) (pos 3) (pos 1) ≡ pos 11
unfolding subpel_of
at_pel_1 = refl

pub at_pel_4 : subpel_of (place (pos 4)) (negsuc 0) (negsuc 0) ≡ pos 471
unfolding subpel_of
at_pel_4 = refl

-- four rows of eight end at 32
pub length_32 : keeps_length (place (pos 1)) 32 ≡ true
length_32 = refl

pub length_31 : keeps_length (place (pos 1)) 31 ≡ false
length_31 = refl

pub length_greatest : keeps_length (place (pos 1)) 1073741823 ≡ true
length_greatest = refl

pub length_over : keeps_length (place (pos 1)) 1073741824 ≡ false
length_over = refl

pub pel_3 : limits_hold (place (pos 3)) ≡ false
pel_3 = refl

-- a byte of 0 is read inside, and what lies beside it outside; both count 0
abbrev black : List ℕ
black = 0 ∷ []

pub read_0 : read_at black (pos 0) ≡ Some 0
unfolding read_at
read_0 = refl

pub read_1 : read_at black (pos 1) ≡ None
unfolding read_at
read_1 = refl

pub read_minus_1 : read_at black (negsuc 0) ≡ None
unfolding read_at
read_minus_1 = refl

pub both_count_0 : (weight (Some 0) ≡ 0) × (weight None ≡ 0)
unfolding weight
both_count_0 = (refl, refl)

-- an area of 8x4 is 2^5, and log2 of what is no power is rounded down
pub log2_32 : log2 32 ≡ 5
log2_32 = refl

pub log2_31 : log2 31 ≡ 4
log2_31 = refl
