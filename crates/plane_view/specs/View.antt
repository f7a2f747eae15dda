-- 01, "Port order and what changes shape": "A plane is a view: its bytes, base, pitch, sides and pel in one struct that refers to them; few functions
-- take it." What is told of a plane's bytes and place, and what a cost asks of its callers.
use Rattle.std.specs.Prelude.{Bool, List, ℕ, ◌*◌, ◌≤◌, ◌<◌, ℤ, nat_abs, length, Option}
use Rattle.distance.specs.Distance.{Block, cost_of}
use Rattle.plane.specs.declared.Place.{Place}
use Rattle.plane.specs.Places.{subpel_of, Placed, Near}
use Rattle.plane.specs.Samples.{read_at, placed_at}

-- what is read of a plane at a place: the byte at the place's offset, or that there is none
abbrev pub place_read : List ℕ → Place → ℤ → ℤ → Option ℕ
place_read bytes place x y = read_at bytes (subpel_of place x y)

-- the samples of a plane from an offset on, in rows that step by its own pitch, and the cost of a block against them
abbrev pub place_block : List ℕ → Place → ℤ → Block
place_block bytes place at = placed_at bytes at (nat_abs place.pitch)

abbrev pub place_cost : Bool → ℕ → ℕ → Block → List ℕ → Place → ℤ → ℕ
place_cost measure w h block bytes place at = cost_of measure w h block (place_block bytes place at)

-- a packed block of at most 16 x 16 samples
pub record PackedBlock (w h : ℕ) (block : List ℕ) : Type 0 where
  pub wide : w ≤ 16
  pub some : 0 < h
  pub high : h ≤ 16
  pub held : h * w ≤ length block

-- what a cost asks: a plane that can be read, a packed block, and an offset whose steps stay in 64 bits
pub record Costed (place : Place) (w h : ℕ) (block : List ℕ) (at : ℤ) : Type 0 where
  pub placed : Placed place
  pub packed : PackedBlock w h block
  pub near : Near at
