-- What the functions of a block's plan ask of their callers. Reach shows that planning's refusals leave all of it. Definitions alone.
use Rattle.std.specs.Prelude.{◌≡◌, Bool, false, ℤ, pos, ◌+ℤ◌, ◌-ℤ◌, ◌*ℤ◌, ◌≤ℤ◌, ◌<ℤ◌}
use Rattle.whole.specs.Interval.{Within}
use Rattle.limits.specs.Limits.{shifted_by}
use Rattle.plane.specs.declared.Place.{Place}
use Rattle.plane.specs.Places.{pel1_of, Placed}
use Rattle.axis.specs.Bounds.{Bounded}
use Rattle.planes.specs.declared.Planes.{Planes}
use Rattle.planes.specs.Lying.{Lies}
use Rattle.block.specs.declared.Settings.{Settings}
use Rattle.block.specs.declared.Block.{Block}
use Rattle.block.specs.declared.Shape.{Shape}
use Rattle.block.specs.declared.Spot.{Spot}

-- a place whose offset lies in its plane's data
pub record Addressed (p : Place) (x y : ℤ) : Type 0 where
  pub placed : Placed p
  pub offset_in : Within 0 1073741822 (pel1_of p x y)

-- the numbers that a shape is made of
pub record Shaped (s : Settings) (b : Block) : Type 0 where
  pub grid_x : Within 0 2048 s.grid.x
  pub grid_y : Within 0 2048 s.grid.y
  pub search : Within 3 3 s.search.search_param
  pub step_x : Within 16 16 s.step.x
  pub step_y : Within 16 16 s.step.y
  pub side_x : Within 0 16 s.block.x
  pub side_y : Within 0 16 s.block.y
  pub x : Within 2048 2048 b.x
  pub y : Within 2048 2048 b.y

-- a spot in all three planes; a negative block has no chroma
pub record SpotHeld (p : Planes) (negative : Bool) (spot : Spot) : Type 0 where
  pub luma : Addressed p.luma spot.x spot.y
  pub u : negative ≡ false → Addressed p.u spot.cx spot.cy
  pub v : negative ≡ false → Addressed p.v spot.cx spot.cy

pub record Held (h : Shape) (spot : Spot) : Type 0 where
  pub across : Bounded h.across
  pub down : Bounded h.down
  pub x : Within 16384 16384 spot.x
  pub y : Within 16384 16384 spot.y
  pub cx : Within 65536 65536 spot.cx
  pub cy : Within 65536 65536 spot.cy

-- ---- what the refusals leave
-- of one axis: the grid's side, the step, the block's side, the frame's side, and a place in the grid
pub record Along (count step side frame place : ℤ) : Type 0 where
  pub first : pos 0 ≤ℤ place
  pub last : place <ℤ count
  pub count_most : count ≤ℤ pos 2048
  pub step_least : pos 1 ≤ℤ step
  pub step_most : step ≤ℤ side
  pub side_least : pos 8 ≤ℤ side
  pub side_most : side ≤ℤ pos 16
  pub frame_most : frame ≤ℤ pos 16384
  pub ends : ((count -ℤ pos 1) *ℤ step +ℤ side) ≤ℤ frame

-- of the settings and one block of the order
pub record Ready (s : Settings) (b : Block) : Type 0 where
  pub across : Along s.grid.x s.step.x s.block.x s.planes.luma.width b.x
  pub down : Along s.grid.y s.step.y s.block.y s.planes.luma.height b.y
  pub search : Within 3 3 s.search.search_param
  pub pel : Within 4 4 s.level.pel
  pub px : Within 32768 32767 b.px
  pub py : Within 32768 32767 b.py
  pub luma : Lies s.planes.luma s.planes.luma.width s.planes.luma.height
  pub u : Lies s.planes.u (shifted_by s.planes.luma.width s.shift.x) (shifted_by s.planes.luma.height s.shift.y)
  pub v : Lies s.planes.v (shifted_by s.planes.luma.width s.shift.x) (shifted_by s.planes.luma.height s.shift.y)
