-- 01, "Planning, block by block in the given order": a block's shape, its lambda, whether it is bad, and where its samples are taken. Definitions alone.
use Rattle.std.specs.Prelude.{Bool, ◌&&◌, ◌||◌, not, cond, ℤ, pos, ◌+ℤ◌, ◌-ℤ◌, ◌*ℤ◌}
use Rattle.std.specs.Int.Signed.{lt_z, le_z, shr_z}
use Rattle.whole.specs.Numbers.{lies_in}
use Rattle.limits.specs.Limits.{shifted_by, radius_of}
use Rattle.records.specs.Lambda.{quarter_of, third_of}
use Rattle.axis.specs.declared.Axis.{Axis}
use Rattle.axis.specs.Axis.{excess_of, place_of}
use Rattle.planes.specs.declared.Sides.{Sides}
use Rattle.block.specs.declared.Weights.{Weights}
use Rattle.block.specs.declared.Level.{Level}
use Rattle.block.specs.declared.Settings.{Settings}
use Rattle.block.specs.declared.Block.{Block}
use Rattle.block.specs.declared.Shape.{Shape}
use Rattle.block.specs.declared.Spot.{Spot}

-- "A block is negative when the level is the smallest and the block is on the grid's rim": first or last in its row or column
abbrev pub rim_of : ℤ → ℤ → Bool
rim_of place count = le_z place (pos 0) || le_z (count -ℤ pos 1) place

unfoldable pub negative_of : Level → Sides → Block → Bool
negative_of level grid b = level.smallest && (rim_of b.x grid.x || rim_of b.y grid.y)

-- of a negative block "origin moves by a quarter of the sides, sides halve"
abbrev pub origin_of : ℤ → ℤ → ℤ → Bool → ℤ
origin_of step side place negative = cond negative (place *ℤ step +ℤ shr_z side 4) (place *ℤ step)

abbrev pub side_of : ℤ → Bool → ℤ
side_of side negative = cond negative (shr_z side 2) side

unfoldable pub axis_of : ℤ → ℤ → ℤ → ℤ → ℤ → ℤ → ℤ → Bool → Axis
axis_of pel frame step side place predictor radius negative =
    record { pel = pel; frame = frame; origin = origin_of step side place negative; side = side_of side negative; predictor = predictor; radius = radius }

-- the block's two axes. Frame sides are the source luma's.
unfoldable pub shape_of : Settings → Block → Shape
shape_of s b =
    let negative = negative_of s.level s.grid b in
    let radius = radius_of s.search.search_param in
    record {
      across = axis_of s.level.pel s.planes.luma.width s.step.x s.block.x b.x b.px radius negative;
      down = axis_of s.level.pel s.planes.luma.height s.step.y s.block.y b.y b.py radius negative;
      negative = negative;
    }

-- "Quarter lambda is the setting shifted right by 2 .. lambda and `bad_sad` are divided by 3."
abbrev pub lambda_of : Weights → Bool → ℤ
lambda_of weights negative = cond negative (third_of (quarter_of weights.lambda)) (quarter_of weights.lambda)

-- "Bad means SAD above `bad_sad`."
abbrev pub is_bad : Weights → Bool → ℤ → Bool
is_bad weights negative sad = lt_z (cond negative (third_of weights.bad_sad) weights.bad_sad) sad

-- "Both axes 0 .. Otherwise the origin less the excess is clamped into the frame"
abbrev pub moves_of : Shape → Bool
moves_of h = not (lies_in (pos 0) (pos 0) (excess_of h.across) && lies_in (pos 0) (pos 0) (excess_of h.down))

-- "d = old - moved .. chroma place is (origin >> s) - (d >> s)". A block that does not move has d = 0.
unfoldable pub chroma_place : ℤ → ℤ → ℤ → ℤ
chroma_place origin place shift = shifted_by origin shift -ℤ shifted_by (origin -ℤ place) shift

unfoldable pub spot_of : Sides → Bool → Shape → Spot
spot_of shift moves h =
    let x = place_of moves h.across in
    let y = place_of moves h.down in
    record { x = x; y = y; cx = chroma_place h.across.origin x shift.x; cy = chroma_place h.down.origin y shift.y }
