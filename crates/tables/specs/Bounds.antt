-- What the functions of a table ask of their callers. Assumes nothing.
use Rattle.std.specs.Prelude.{List, ℕ, ◌≤◌, ℤ, pos, get_or}
use Rattle.whole.specs.Interval.{Within}
use Rattle.plane.specs.Places.{Placed, Near}
use Rattle.tables.specs.declared.Reference.{Reference}

-- a plane that can be read, from a position whose parts fit i16
pub record Reached (r : Reference) : Type 0 where
  pub placed : Placed r.place
  pub x_in : Within 32768 32767 r.x
  pub y_in : Within 32768 32767 r.y

-- a table of offsets that are all near
pub record Nearby (offsets : List ℤ) : Type 0 where
  pub near : (slot : ℕ) → Near (get_or offsets slot (pos 0))

-- a table whose costs are at most m
pub record Most (m : ℕ) (table : List ℕ) : Type 0 where
  pub most : (slot : ℕ) → get_or table slot 0 ≤ m
