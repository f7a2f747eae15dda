-- The table of refusals, number by number: each is given exactly where its own test refuses and none before it does. Assumes nothing.
use Rattle.std.specs.Prelude.{◌≡◌, refl, Bool, true, false, ◌&&◌, not, List, ℕ, ◌/◌, eqb, ℤ, length}
use Rattle.limits.specs.Sizes.{words_per_record}
use Rattle.limits.specs.Limits.{radius_of}
use Rattle.limits.specs.Refusals.{first}
use Rattle.record_slice.specs.RecordSlice.{any_wide}
use Rattle.planes.specs.Planes.{holds3}
use Rattle.evaluation.specs.declared.Request.{Request}
use Rattle.evaluation.specs.Refusals.{holds1, holds2, has_room, refusal_of}

-- a number, by the five tests in the table's order: where each of them refuses
pub record Exactly (one two three five seven : Bool) (number : ℕ) : Type 0 where
  pub is_1 : eqb number 1 ≡ one
  pub is_2 : eqb number 2 ≡ (not one && two)
  pub is_3 : eqb number 3 ≡ (not one && not two && three)
  pub is_5 : eqb number 5 ≡ (not one && not two && not three && five)
  pub is_7 : eqb number 7 ≡ (not one && not two && not three && not five && seven)
  pub is_0 : eqb number 0 ≡ (not one && not two && not three && not five && not seven)

exactly : (one two three five seven : Bool) → Exactly one two three five seven (first one 1 (first two 2 (first three 3 (first five 5 (first seven 7 0)))))
exactly true two three five seven = record { is_1 = refl; is_2 = refl; is_3 = refl; is_5 = refl; is_7 = refl; is_0 = refl }
exactly false true three five seven = record { is_1 = refl; is_2 = refl; is_3 = refl; is_5 = refl; is_7 = refl; is_0 = refl }
exactly false false true five seven = record { is_1 = refl; is_2 = refl; is_3 = refl; is_5 = refl; is_7 = refl; is_0 = refl }
exactly false false false true seven = record { is_1 = refl; is_2 = refl; is_3 = refl; is_5 = refl; is_7 = refl; is_0 = refl }
exactly false false false false true = record { is_1 = refl; is_2 = refl; is_3 = refl; is_5 = refl; is_7 = refl; is_0 = refl }
exactly false false false false false = record { is_1 = refl; is_2 = refl; is_3 = refl; is_5 = refl; is_7 = refl; is_0 = refl }

pub given_exactly : (q : Request) (records : List ℤ) (luma u v referenceLuma referenceU referenceV bests : ℕ) →
    Exactly (not (holds1 q)) (not (holds2 q)) (not (holds3 q.source luma u v && holds3 q.reference referenceLuma referenceU referenceV))
    (not (has_room (length records) bests)) (any_wide (radius_of q.search_param) records (length records / words_per_record))
    (refusal_of q records luma u v referenceLuma referenceU referenceV bests)
unfolding refusal_of
given_exactly q records luma u v referenceLuma referenceU referenceV bests =
    exactly (not (holds1 q)) (not (holds2 q)) (not (holds3 q.source luma u v && holds3 q.reference referenceLuma referenceU referenceV))
    (not (has_room (length records) bests)) (any_wide (radius_of q.search_param) records (length records / words_per_record))
