-- When a level is refused: 02, "One": "9 when the level is outside 0 to 15 or a side comes to 0, asked between 2 and 3". Each `holds` says that a number
-- does not apply. Definitions alone.
use Rattle.refusals.specs.declared.Refusal.{Refusal}
use Rattle.refusals.specs.Numbers.{answered, answer_number}
use Rattle.std.specs.Prelude.{Bool, ◌&&◌, not, cond, ℕ, ℤ, pos, Result}
use Rattle.whole.specs.Numbers.{lies_in}
use Rattle.limits.specs.Limits.{same, is_frame_side, is_pel, are_shifts, is_pitch, shifted_by}
use Rattle.limits.specs.Refusals.{first}
use Rattle.plane.specs.declared.Place.{Place}
use Rattle.planes.specs.declared.Sides.{Sides}
use Rattle.planes.specs.declared.Planes.{Planes}
use Rattle.planes.specs.Planes.{holds3}
use Rattle.level_places.specs.declared.Pitches.{Pitches}
use Rattle.level_places.specs.declared.SuperFrame.{SuperFrame}
use Rattle.level_places.specs.Levels.{plane_size, from_source, planes_of}

-- ---- 2: "another number outside the limits". It does not look at the level.
-- "Pitch from the plane's width to 65,536", of three raw planes whose widest level is so wide
unfoldable pub pitches_hold : ℤ → Sides → Pitches → Bool
pitches_hold width shift p =
    is_pitch width p.luma && is_pitch (shifted_by width shift.x) p.u && is_pitch (shifted_by width shift.x) p.v

-- of every raw plane that is lent: a packed one begins with the frame itself, or, beside a separate source, with level 1; the source is as wide as the frame
unfoldable pub raw_pitches_hold : SuperFrame → Bool
raw_pitches_hold f =
    cond f.separate
    (pitches_hold (plane_size f.frame.x (pos 1)) f.shift f.pitch && pitches_hold f.frame.x f.shift f.source_pitch)
    (pitches_hold f.frame.x f.shift f.pitch)

unfoldable pub holds2 : SuperFrame → Bool
holds2 f =
    is_frame_side f.frame.x && is_frame_side f.frame.y && is_pel f.pel && are_shifts f.shift.x f.shift.y && raw_pitches_hold f

-- ---- 9: "the level is outside 0 to 15 or a side comes to 0"
unfoldable pub has_sides : Place → Bool
has_sides p = not (same (pos 0) p.width) && not (same (pos 0) p.height)

unfoldable pub all_have_sides : Planes → Bool
all_have_sides p = has_sides p.luma && has_sides p.u && has_sides p.v

abbrev pub holds9 : SuperFrame → Bool
holds9 f = lies_in (pos 0) (pos 15) f.level && all_have_sides (planes_of f)

-- ---- 3: "a plane breaks its length rule": each of the three with the bytes that it is cut from. Of bytes the lengths alone are looked at: those of the packed
-- planes, and then the separate source's.
module _ (f : SuperFrame) (luma u v source_luma source_u source_v : ℕ) where
  unfoldable pub lengths_kept : Planes → Bool
  lengths_kept planes = cond (from_source f) (holds3 planes source_luma source_u source_v) (holds3 planes luma u v)

  -- ---- 2, then 9, then 3
  unfoldable pub refusal_of : ℕ
  refusal_of = first (not (holds2 f)) 2 (first (not (holds9 f)) 9 (first (not (lengths_kept (planes_of f))) 3 0))

-- ---- the three planes, or the refusal
unfoldable pub level_answer : SuperFrame → ℕ → ℕ → ℕ → ℕ → ℕ → ℕ → Result Planes Refusal
level_answer f luma u v source_luma source_u source_v = answered (refusal_of f luma u v source_luma source_u source_v) (planes_of f)

-- the number of an answer
abbrev pub level_number : Result Planes Refusal → ℕ
level_number = answer_number
