-- The paper's third demand, last sentence, of the lent buffer: after an accepted evaluation at pel 2 or 4 the SAD that stands in the buffer for a bad record is
-- 0 exactly when all samples compared at the vector that stands beside it agree, a sample outside plane data or without an offset read as 0. What agreeing
-- means is best's `AgreeAt`. A sample of a plane is a byte: that is all that is asked of the planes' data, and every lent u8 slice has it. Assumes nothing.
use Rattle.std.specs.Prelude.{◌≡◌, refl, true, false, ◌⊎◌, ◌↔◌, ℕ, ◌+◌, ◌*◌, ◌/◌, ◌<◌, ℤ, pos, length, get_or, drop}
use Rattle.std.proofs.Common.{sym, ◌∙◌, ⊎_elim}
use Rattle.std.proofs.Math.Path.{subst}
use mathlib.Core.List.{List}
use Rattle.whole.specs.Numbers.{lies_in}
use Rattle.limits.specs.Sizes.{words_per_record, numbers_per_best}
use Rattle.limits.specs.Refused.{kept_done}
use Rattle.window.specs.Windows.{is_bad}
use Rattle.record_slice.specs.RecordSlice.{record_at}
use Rattle.best.specs.declared.Best.{Best}
use Rattle.best.specs.Fair.{Comparable}
use Rattle.best.specs.Zero.{AgreeAt}
use Rattle.best.proofs.Zero.{zero_where_agreed, zero_only}
use Rattle.evaluation.specs.declared.Request.{Request}
use Rattle.evaluation.specs.Evaluated.{task_of, best_at, fifth_at, evaluate_answer, evaluate_bests}
use Rattle.evaluation.specs.Accepted.{Accepted, accepted}
use Rattle.evaluation.specs.BestsRead.{Reads, best_reads}

-- ---- what is said of the buffer `bests`, five numbers a record: x, y, SAD, average and the count
abbrev pub ZeroLaw : Request → List ℤ → List ℕ → List ℕ → List ℕ → List ℕ → List ℕ → List ℕ → List ℤ → Type 0
ZeroLaw q records luma u v referenceLuma referenceU referenceV bests =
    (i : ℕ) → i < length records / words_per_record → is_bad (record_at records i) ≡ true → (q.pel ≡ pos 2) ⊎ (q.pel ≡ pos 4) →
    (get_or bests (numbers_per_best * i + 2) (pos 0) ≡ pos 0)
    ↔ AgreeAt (task_of q) (record_at records i) luma u v referenceLuma referenceU referenceV
    (get_or bests (numbers_per_best * i) (pos 0)) (get_or bests (numbers_per_best * i + 1) (pos 0))

abbrev pub Bytes : List ℕ → Type 0
Bytes samples = (n : ℕ) → get_or samples n 0 < 256

not_1 : (pel : ℤ) → (pel ≡ pos 2) ⊎ (pel ≡ pos 4) → lies_in (pos 1) (pos 1) pel ≡ false
not_1 pel = ⊎_elim (λ e. rw e refl) (λ e. rw e refl)

module _ (q : Request) (records : List ℤ) (luma u v referenceLuma referenceU referenceV : List ℕ) (bests : List ℤ)
    (done : evaluate_answer q records luma u v referenceLuma referenceU referenceV (length bests) ≡ 0) where
  -- what evaluating leaves in the lent buffer
  abbrev pub after : List ℤ
  after = evaluate_bests q records luma u v referenceLuma referenceU referenceV bests

  taken : Accepted q records (length bests)
  unfolding evaluate_answer
  taken = accepted q records (length luma) (length u) (length v) (length referenceLuma) (length referenceU) (length referenceV) (length bests) done

  module _ (i : ℕ) (there : i < length records / words_per_record) where
    abbrev best : Best
    best = best_at (task_of q) records luma u v referenceLuma referenceU referenceV i

    abbrev fifth : ℤ
    fifth = fifth_at (task_of q) records luma u v referenceLuma referenceU referenceV i

    -- what stands there for record i
    pub reads : Reads after i best fifth
    unfolding evaluate_bests
    reads =
        subst (λ (l : List ℤ). Reads l i best fifth) (sym (kept_done _ _ bests done))
        (best_reads (task_of q) records luma u v referenceLuma referenceU referenceV (length records / words_per_record) i
        (drop (numbers_per_best * (length records / words_per_record)) bests) there)

    -- all samples compared at a vector agree
    abbrev Alike : ℤ → ℤ → Type 0
    Alike x y = AgreeAt (task_of q) (record_at records i) luma u v referenceLuma referenceU referenceV x y

    -- at the vector in the buffer as at the best's own
    to_buffer : Alike best.x best.y → Alike (get_or after (numbers_per_best * i) (pos 0)) (get_or after (numbers_per_best * i + 1) (pos 0))
    to_buffer a = rw (reads.x, reads.y) a

    to_best : Alike (get_or after (numbers_per_best * i) (pos 0)) (get_or after (numbers_per_best * i + 1) (pos 0)) → Alike best.x best.y
    to_best a = rw (reads.x, reads.y) at a

    module _ (bad : is_bad (record_at records i) ≡ true) (pel : (q.pel ≡ pos 2) ⊎ (q.pel ≡ pos 4)) (bytes : Bytes luma)
        (reference-bytes : Bytes referenceLuma) where
      known : Comparable (task_of q) (record_at records i)
      known = taken.comparable i there

      only_there : get_or after (numbers_per_best * i + 2) (pos 0) ≡ pos 0 →
          Alike (get_or after (numbers_per_best * i) (pos 0)) (get_or after (numbers_per_best * i + 1) (pos 0))
      only_there e =
          to_buffer (zero_only (task_of q) (record_at records i) luma u v referenceLuma referenceU referenceV known bad
          (not_1 q.pel pel) bytes reference-bytes (sym reads.sad ∙ e))

      where_all_agree : Alike (get_or after (numbers_per_best * i) (pos 0)) (get_or after (numbers_per_best * i + 1) (pos 0)) →
          get_or after (numbers_per_best * i + 2) (pos 0) ≡ pos 0
      where_all_agree a =
          reads.sad ∙ zero_where_agreed (task_of q) (record_at records i) luma u v referenceLuma referenceU referenceV known bad (not_1 q.pel pel) (to_best a)

  -- ---- the law
  pub zero_law : Bytes luma → Bytes referenceLuma → ZeroLaw q records luma u v referenceLuma referenceU referenceV after
  zero_law bytes reference-bytes i there bad pel = (only_there i there bad pel bytes reference-bytes, where_all_agree i there bad pel bytes reference-bytes)
