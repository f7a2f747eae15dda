-- When evaluating refuses: 01, "Numbers accepted", its limits and its table. Each `holds` says that a number of the table does not apply. Definitions alone.
use Rattle.std.specs.Prelude.{Bool, ◌&&◌, not, List, ℕ, ◌*◌, ◌/◌, ◌%◌, eqb, leb, ℤ, pos, negsuc, length}
use Rattle.whole.specs.Numbers.{lies_in}
use Rattle.limits.specs.Sizes.{words_per_record, numbers_per_best}
use Rattle.limits.specs.Limits.{same, is_block, is_frame_side, is_pel, are_shifts, radius_of}
use Rattle.limits.specs.Refusals.{first}
use Rattle.plane.specs.declared.Place.{Place}
use Rattle.plane.specs.Places.{limits_hold}
use Rattle.planes.specs.declared.Planes.{Planes}
use Rattle.record_slice.specs.RecordSlice.{any_wide}
use Rattle.planes.specs.Planes.{planes_hold, holds3}
use Rattle.evaluation.specs.declared.Request.{Request}

-- ---- "1: .. another block size, .. or radius over 3"
unfoldable pub holds1 : Request → Bool
holds1 q = is_block q.block.x q.block.y && lies_in (negsuc 2) (pos 3) q.search_param

-- ---- "2: another number outside the limits above"
-- "Reference planes have the source's sides and the plan's pel."
unfoldable pub reference_holds : ℤ → Place → Place → Bool
reference_holds pel source reference =
    limits_hold reference && same source.width reference.width && same source.height reference.height && same pel reference.pel

unfoldable pub references_hold : ℤ → Planes → Planes → Bool
references_hold pel source reference =
    reference_holds pel source.luma reference.luma && reference_holds pel source.u reference.u && reference_holds pel source.v reference.v

unfoldable pub holds2 : Request → Bool
holds2 q =
    is_pel q.pel
    && are_shifts q.shift.x q.shift.y
    && is_frame_side q.source.luma.width
    && is_frame_side q.source.luma.height
    && planes_hold q.source q.shift
    && references_hold q.pel q.source q.reference

-- ---- "5: a lent output is too short, or .. (evaluation has no indices: not a multiple of 12 words)"
abbrev pub has_room : ℕ → ℕ → Bool
has_room words bests = eqb (words % words_per_record) 0 && leb (numbers_per_best * (words / words_per_record)) bests

-- ---- "7: a BAD record's window has both sides non-empty and one over 2 x radius + 1": asked of all records. "Radius is the absolute value of `search_param`."
-- ---- "If several apply, the lowest is given". 3: "a plane breaks its length rule", the reference's too
unfoldable pub refusal_of : Request → List ℤ → ℕ → ℕ → ℕ → ℕ → ℕ → ℕ → ℕ → ℕ
refusal_of q records luma u v referenceLuma referenceU referenceV bests =
    first (not (holds1 q)) 1
    (first (not (holds2 q)) 2
    (first (not (holds3 q.source luma u v && holds3 q.reference referenceLuma referenceU referenceV)) 3
    (first (not (has_room (length records) bests)) 5
    (first (any_wide (radius_of q.search_param) records (length records / words_per_record)) 7 0))))
