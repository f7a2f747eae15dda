-- 02, Two: "Each best gains a fifth number: how many reference samples at the reported vector (luma, and both chroma planes of a plain block) lie outside the
-- data, or -1 for a block that wasn't bad." The first four are best's `best_of`, as they were. Definitions alone.
use Rattle.std.specs.Prelude.{Bool, true, false, cond, List, ℕ, ◌+◌, ℤ, pos, negsuc, None, Option, Some}
use Rattle.records.specs.declared.Record.{Record}
use Rattle.window.specs.Windows.{is_bad, is_negative}
use Rattle.plane.specs.declared.Place.{Place}
use Rattle.absent_reads.specs.Absent.{place_absent}
use Rattle.tables.specs.Tables.{vector_offset}
use Rattle.best.specs.declared.Task.{Task}
use Rattle.best.specs.Best.{width_of, height_of, luma_reference, chroma_width, chroma_height, chroma_reference, best_of}
use Rattle.five_numbers.specs.declared.Five.{Five}

-- ---- a count, of a bad block alone
abbrev pub absences_of : Bool → ℕ → Option ℤ
absences_of true absent = Some (pos absent)
absences_of false absent = None

-- "or -1 for a block that wasn't bad"
unfoldable pub number_of : Option ℤ → ℤ
number_of (Some absent) = absent
number_of None = negsuc 0

module _ (task : Task) (given : Record) where
  -- ---- luma at a vector: over the sides compared, from the offset that its cost is taken from
  unfoldable pub luma_absent : List ℕ → ℤ → ℤ → ℕ
  luma_absent referenceLuma x y =
      place_absent referenceLuma task.reference.luma (vector_offset (luma_reference task given) x y) (width_of task given) (height_of task given)

  -- ---- one chroma plane at a vector, likewise: "Reference V starts at the offset worked out for U and steps by V's own pitch", and lies in V's own data
  unfoldable pub plane_absent : Place → List ℕ → ℤ → ℤ → ℕ
  plane_absent own reference x y =
      place_absent reference own (vector_offset (chroma_reference task given) x y) (chroma_width task given) (chroma_height task given)

  unfoldable pub chroma_absent : List ℕ → List ℕ → ℤ → ℤ → ℕ
  chroma_absent referenceU referenceV x y = plane_absent task.reference.u referenceU x y + plane_absent task.reference.v referenceV x y

  -- ---- together: "both chroma planes of a plain block"
  unfoldable pub absent_at : List ℕ → List ℕ → List ℕ → ℤ → ℤ → ℕ
  absent_at referenceLuma referenceU referenceV x y = luma_absent referenceLuma x y + cond (is_negative given) 0 (chroma_absent referenceU referenceV x y)

  -- ---- the five numbers: the best, and the count "at the reported vector"
  unfoldable pub five_of : List ℕ → List ℕ → List ℕ → List ℕ → List ℕ → List ℕ → Five
  five_of luma u v referenceLuma referenceU referenceV =
      let best = best_of task given luma u v referenceLuma referenceU referenceV in
      record { best = best; outside = absences_of (is_bad given) (absent_at referenceLuma referenceU referenceV best.x best.y) }
