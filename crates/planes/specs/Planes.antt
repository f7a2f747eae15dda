-- A frame's three planes: 01, "Numbers accepted", what its limits ask of them together, and its refusals 2 and 3. Definitions alone.
use Rattle.std.specs.Prelude.{Bool, ◌&&◌, ℕ}
use Rattle.limits.specs.Limits.{same, shifted_by}
use Rattle.plane.specs.declared.Place.{Place}
use Rattle.plane.specs.Places.{limits_hold, keeps_length}
use Rattle.planes.specs.declared.Sides.{Sides}
use Rattle.planes.specs.declared.Planes.{Planes}

-- "chroma sides are the luma sides shifted right"
unfoldable pub chroma_holds : Place → Sides → Place → Bool
chroma_holds luma shift place = same (shifted_by luma.width shift.x) place.width && same (shifted_by luma.height shift.y) place.height

-- ---- of "2: another number outside the limits above": what it asks of the planes
unfoldable pub planes_hold : Planes → Sides → Bool
planes_hold p shift =
    limits_hold p.luma && limits_hold p.u && limits_hold p.v && chroma_holds p.luma shift p.u && chroma_holds p.luma shift p.v

-- ---- "3: a plane breaks its length rule": the lengths of the three planes' bytes
unfoldable pub holds3 : Planes → ℕ → ℕ → ℕ → Bool
holds3 p luma u v = keeps_length p.luma luma && keeps_length p.u u && keeps_length p.v v
