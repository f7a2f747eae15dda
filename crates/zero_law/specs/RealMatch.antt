-- The third demand, as 02, Two, completes it: at pel 2 or 4 a SAD of 0 with a count of 0 is a match of real samples. Every sample compared at the vector in the
-- buffer was there in the reference, and the source's weighs what that byte weighs: "two blocks of nothing" are told apart from it. Assumes nothing.
use Rattle.std.specs.Prelude.{◌≡◌, true, false, List, ◌⊎◌, ℕ, ◌+◌, ◌*◌, ◌/◌, ◌<◌, ℤ, pos, nat_abs, length, get_or, Option, Some}
use Rattle.std.proofs.Common.{◌∙◌}
use Rattle.limits.specs.Sizes.{words_per_record, numbers_per_best}
use Rattle.records.specs.declared.Record.{Record}
use Rattle.window.specs.Windows.{is_bad, is_negative}
use Rattle.record_slice.specs.RecordSlice.{record_at}
use Rattle.distance.specs.Distance.{Block}
use Rattle.distance.specs.Laws.{Agree}
use Rattle.plane.specs.declared.Place.{Place}
use Rattle.plane.specs.Samples.{placed_from, sample_at}
use Rattle.plane_view.specs.View.{place_block}
use Rattle.absent_reads.specs.Absent.{reads_from, AllReal}
use Rattle.absent_reads.specs.Counts.{real_weighs}
use Rattle.tables.specs.Tables.{vector_offset}
use Rattle.best.specs.declared.Task.{Task}
use Rattle.best.specs.Best.{width_of, height_of, source_block, luma_reference, chroma_width, chroma_height, chroma_reference}
use Rattle.best.specs.Zero.{AgreeAt}
use Rattle.five_numbers.specs.Counted.{RealAt}
use Rattle.evaluation.specs.declared.Request.{Request}
use Rattle.evaluation.specs.Evaluated.{task_of}
use Rattle.evaluation.specs.Zero.{ZeroLaw}
use Rattle.zero_law.specs.Counted.{CountLaw}

-- ---- a sample of the source beside what was read in the reference: a byte was there, and both are it
pub record Matched (read : Option ℕ) (source : ℕ) : Type 0 where
  pub byte : ℕ
  pub there : read ≡ Some byte
  pub weighs : source ≡ byte

-- a block of the source, from an offset on in a plane of the reference
abbrev pub Matches : ℕ → ℕ → Block → List ℕ → Place → ℤ → Type 0
Matches w h source samples own at = (y x : ℕ) → y < h → x < w → Matched (reads_from samples at (nat_abs own.pitch) y x) (source y x)

pub record MatchedAt (task : Task) (given : Record) (luma u v referenceLuma referenceU referenceV : List ℕ) (x y : ℤ) : Type 0 where
  pub in_luma : Matches (width_of task given) (height_of task given) (source_block task given luma)
      referenceLuma task.reference.luma (vector_offset (luma_reference task given) x y)
  pub in_u : is_negative given ≡ false → Matches (chroma_width task given) (chroma_height task given) (placed_from u given.u (nat_abs task.source.u.pitch))
      referenceU task.reference.u (vector_offset (chroma_reference task given) x y)
  pub in_v : is_negative given ≡ false → Matches (chroma_width task given) (chroma_height task given) (placed_from v given.v (nat_abs task.source.v.pitch))
      referenceV task.reference.v (vector_offset (chroma_reference task given) x y)

-- ---- samples that agree with real ones match them
matches : {w h : ℕ} {source : Block} (samples : List ℕ) (own : Place) (at : ℤ) →
    Agree w h source (place_block samples own at) → AllReal samples at (nat_abs own.pitch) w h → Matches w h source samples own at
unfolding sample_at
matches samples own at agree real y x l m =
    let r = real y x l m in
    record { byte = r.byte; there = r.is; weighs = agree y x l m ∙ real_weighs (reads_from samples at (nat_abs own.pitch) y x) r }

matched : (task : Task) (given : Record) (luma u v referenceLuma referenceU referenceV : List ℕ) (x y : ℤ) →
    AgreeAt task given luma u v referenceLuma referenceU referenceV x y → RealAt task given referenceLuma referenceU referenceV x y →
    MatchedAt task given luma u v referenceLuma referenceU referenceV x y
matched task given luma u v referenceLuma referenceU referenceV x y agree real =
    record {
      in_luma = matches referenceLuma task.reference.luma (vector_offset (luma_reference task given) x y) agree.in_luma real.in_luma;
      in_u = λ plain. matches referenceU task.reference.u (vector_offset (chroma_reference task given) x y) (agree.in_u plain) (real.in_u plain);
      in_v = λ plain. matches referenceV task.reference.v (vector_offset (chroma_reference task given) x y) (agree.in_v plain) (real.in_v plain);
    }

-- ---- of the buffer
abbrev pub RealLaw : Request → List ℤ → List ℕ → List ℕ → List ℕ → List ℕ → List ℕ → List ℕ → List ℤ → Type 0
RealLaw q records luma u v referenceLuma referenceU referenceV bests =
    (i : ℕ) → i < length records / words_per_record → is_bad (record_at records i) ≡ true → (q.pel ≡ pos 2) ⊎ (q.pel ≡ pos 4) →
    get_or bests (numbers_per_best * i + 2) (pos 0) ≡ pos 0 → get_or bests (numbers_per_best * i + 4) (pos 0) ≡ pos 0 →
    MatchedAt (task_of q) (record_at records i) luma u v referenceLuma referenceU referenceV
    (get_or bests (numbers_per_best * i) (pos 0)) (get_or bests (numbers_per_best * i + 1) (pos 0))

-- it follows from the zero law and the law of counts, of any buffer that has both
pub real_law : (q : Request) (records : List ℤ) (luma u v referenceLuma referenceU referenceV : List ℕ) (bests : List ℤ) →
    ZeroLaw q records luma u v referenceLuma referenceU referenceV bests → CountLaw q records referenceLuma referenceU referenceV bests →
    RealLaw q records luma u v referenceLuma referenceU referenceV bests
real_law q records luma u v referenceLuma referenceU referenceV bests zero count i there bad pel sad fifth =
    matched (task_of q) (record_at records i) luma u v referenceLuma referenceU referenceV _ _
    ((zero i there bad pel).0 sad) (((count i there).all_real bad).0 fifth)
