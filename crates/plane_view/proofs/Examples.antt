-- What is read of a plane, by computation. Assumes nothing.
use Rattle.std.specs.Prelude.{None, Some}
use Rattle.std.proofs.Common.{◌≡◌, refl, [], ◌∷◌, pos, negsuc}
use Rattle.plane.specs.declared.Place.{Place}
use Rattle.plane.specs.Places.{subpel_of}
use Rattle.plane.specs.Samples.{read_at}
use Rattle.plane_view.specs.View.{place_read}

-- of two bytes in a row from base 0 on, (1,0) is the second, and (-1,0) is no byte
abbrev row : Place
row = record { base = 0; pitch = pos 2; width = pos 2; height = pos 1; pel = pos 1 }

pub second : place_read (7 ∷ 9 ∷ []) row (pos 1) (pos 0) ≡ Some 9
unfolding subpel_of read_at
second = refl

pub none : place_read (7 ∷ 9 ∷ []) row (negsuc 0) (pos 0) ≡ None
unfolding subpel_of read_at
none = refl
