-- What the fifth number says, of one record: the first four are as they were, and a bad block's fifth is how many samples are absent at the vector answered.
-- Beside that the words of two laws, which are in proofs/Counted: it is 0 exactly where every one of them was there, and all of them exactly where none was.
-- Assumes nothing.
use Rattle.std.specs.Prelude.{◌≡◌, refl, Bool, true, false, cond, List, ℕ, ◌+◌, ◌*◌, ℤ, pos, negsuc, nat_abs}
use Rattle.records.specs.declared.Record.{Record}
use Rattle.window.specs.Windows.{is_bad, is_negative}
use Rattle.absent_reads.specs.Absent.{AllReal, NoneReal}
use Rattle.tables.specs.Tables.{vector_offset}
use Rattle.best.specs.declared.Task.{Task}
use Rattle.best.specs.Best.{width_of, height_of, luma_reference, chroma_width, chroma_height, chroma_reference, best_of}
use Rattle.five_numbers.specs.Five.{absences_of, number_of, absent_at, five_of}

-- ---- the first four numbers
pub first_four : (task : Task) (given : Record) (luma u v referenceLuma referenceU referenceV : List ℕ) →
    (five_of task given luma u v referenceLuma referenceU referenceV).best ≡ best_of task given luma u v referenceLuma referenceU referenceV
unfolding five_of
first_four task given luma u v referenceLuma referenceU referenceV = refl

-- ---- the fifth, as a number
absences_bad : (bad : Bool) (n : ℕ) → bad ≡ true → number_of (absences_of bad n) ≡ pos n
unfolding number_of
absences_bad bad n e = rw e refl

absences_fine : (bad : Bool) (n : ℕ) → bad ≡ false → number_of (absences_of bad n) ≡ negsuc 0
unfolding number_of
absences_fine bad n e = rw e refl

module _ (task : Task) (given : Record) (luma u v referenceLuma referenceU referenceV : List ℕ) where
  abbrev number : ℤ
  number = number_of (five_of task given luma u v referenceLuma referenceU referenceV).outside

  pub fifth_bad : is_bad given ≡ true →
      let best = best_of task given luma u v referenceLuma referenceU referenceV in
      number ≡ pos (absent_at task given referenceLuma referenceU referenceV best.x best.y)
  unfolding five_of
  fifth_bad bad = absences_bad (is_bad given) _ bad

  pub fifth_fine : is_bad given ≡ false → number ≡ negsuc 0
  unfolding five_of
  fifth_fine fine = absences_fine (is_bad given) _ fine

-- ---- the samples of the reference at a vector, plane by plane: luma's, and of a plain block U's and V's
-- What is said of each plane is said of its data, the offset, the pitch and the sides compared.
abbrev pub OfSamples : Type 1
OfSamples = List ℕ → ℤ → ℕ → ℕ → ℕ → Type 0

module _ (task : Task) (given : Record) (referenceLuma referenceU referenceV : List ℕ) (x y : ℤ) where
  abbrev luma_at : ℤ
  luma_at = vector_offset (luma_reference task given) x y

  abbrev chroma_at : ℤ
  chroma_at = vector_offset (chroma_reference task given) x y

  pub record EachPlane (Q : OfSamples) : Type 0 where
    pub in_luma : Q referenceLuma luma_at (nat_abs task.reference.luma.pitch) (width_of task given) (height_of task given)
    pub in_u : is_negative given ≡ false → Q referenceU chroma_at (nat_abs task.reference.u.pitch) (chroma_width task given) (chroma_height task given)
    pub in_v : is_negative given ≡ false → Q referenceV chroma_at (nat_abs task.reference.v.pitch) (chroma_width task given) (chroma_height task given)

  -- every one was there; none was
  abbrev pub RealAt : Type 0
  RealAt = EachPlane AllReal

  abbrev pub NoneRealAt : Type 0
  NoneRealAt = EachPlane NoneReal

-- how many there are: three planes' of a plain block, luma's alone of a negative one
abbrev pub in_all : Bool → ℕ → ℕ → ℕ
in_all negative luma chroma = luma + cond negative 0 (chroma + chroma)

abbrev pub compared_of : Task → Record → ℕ
compared_of task given = in_all (is_negative given) (width_of task given * height_of task given) (chroma_width task given * chroma_height task given)
