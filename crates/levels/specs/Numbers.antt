-- A level as a host gets it: fifteen numbers in a lent slice, or 5 where it is shorter, which is asked last. Definitions alone.
use Rattle.refusals.specs.declared.Refusal.{Refusal}
use Rattle.refusals.specs.Numbers.{number_of}
use Rattle.std.specs.Prelude.{cond, List, [], ◌∷◌, ◌++◌, ℕ, leb, ℤ, pos, length, drop, Err, Ok, Result}
use Rattle.plane.specs.declared.Place.{Place}
use Rattle.planes.specs.declared.Planes.{Planes}

-- base, pitch, width, height and pel
abbrev pub numbers_per_place : ℕ
numbers_per_place = 5

abbrev pub place_numbers : Place → List ℤ
place_numbers p = pos p.base ∷ p.pitch ∷ p.width ∷ p.height ∷ p.pel ∷ []

-- of luma, of U and of V
abbrev pub numbers_per_level : ℕ
numbers_per_level = 15

abbrev pub planes_numbers : Planes → List ℤ
planes_numbers p = place_numbers p.luma ++ place_numbers p.u ++ place_numbers p.v

-- the number answered, where so many numbers are lent
abbrev pub given_number : Result Planes Refusal → ℕ → ℕ
given_number (Ok planes) room = cond (leb numbers_per_level room) 0 5
given_number (Err refusal) room = number_of refusal

-- the lent numbers afterwards: a refusal leaves them as they were, and a longer slice keeps its tail
abbrev pub given_numbers : Result Planes Refusal → List ℤ → List ℤ
given_numbers (Ok planes) held = cond (leb numbers_per_level (length held)) (planes_numbers planes ++ drop numbers_per_level held) held
given_numbers (Err refusal) held = held
