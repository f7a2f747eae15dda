-- 02, Two, of the lent buffer. After an accepted evaluation the fifth number that stands in it for a bad record is how many of the reference's samples at the
-- vector beside it are absent: 0 exactly where each of them was real, and all exactly where none was. A record that isn't bad has -1 there. What the samples
-- are is five_numbers' `EachPlane`, the shapes that best's `AgreeAt` compares. Assumes nothing.
use Rattle.std.specs.Prelude.{◌≡◌, true, false, List, ◌↔◌, ℕ, ◌+◌, ◌*◌, ◌/◌, ◌<◌, ℤ, pos, negsuc, nat_abs, length, get_or}
use Rattle.std.proofs.Common.{sym, ap, ◌∙◌}
use Rattle.limits.specs.Sizes.{words_per_record, numbers_per_best}
use Rattle.records.specs.declared.Record.{Record}
use Rattle.window.specs.Windows.{is_bad}
use Rattle.record_slice.specs.RecordSlice.{record_at}
use Rattle.best.specs.declared.Task.{Task}
use Rattle.five_numbers.specs.Five.{absent_at}
use Rattle.five_numbers.specs.Counted.{RealAt, NoneRealAt, compared_of, fifth_bad, fifth_fine}
use Rattle.five_numbers.proofs.Counted.{count_none, count_all}
use Rattle.evaluation.specs.declared.Request.{Request}
use Rattle.evaluation.specs.Evaluated.{task_of, evaluate_answer}
use Rattle.evaluation.specs.Zero.{after, reads}

-- ---- what is said of three numbers that stand in the buffer for a record: x, y and the fifth
pub record CountedAt (task : Task) (given : Record) (referenceLuma referenceU referenceV : List ℕ) (x y fifth : ℤ) : Type 0 where
  pub not_bad : is_bad given ≡ false → fifth ≡ negsuc 0
  pub counted : is_bad given ≡ true → fifth ≡ pos (absent_at task given referenceLuma referenceU referenceV x y)
  pub all_real : is_bad given ≡ true → (fifth ≡ pos 0) ↔ RealAt task given referenceLuma referenceU referenceV x y
  pub none_real : is_bad given ≡ true → (fifth ≡ pos (compared_of task given)) ↔ NoneRealAt task given referenceLuma referenceU referenceV x y

abbrev pub CountLaw : Request → List ℤ → List ℕ → List ℕ → List ℕ → List ℤ → Type 0
CountLaw q records referenceLuma referenceU referenceV bests =
    (i : ℕ) → i < length records / words_per_record →
    CountedAt (task_of q) (record_at records i) referenceLuma referenceU referenceV
    (get_or bests (numbers_per_best * i) (pos 0)) (get_or bests (numbers_per_best * i + 1) (pos 0)) (get_or bests (numbers_per_best * i + 4) (pos 0))

-- ---- from the count to all four
module _ (task : Task) (given : Record) (referenceLuma referenceU referenceV : List ℕ) (x y fifth : ℤ) where
  counts : (is_bad given ≡ false → fifth ≡ negsuc 0) → (is_bad given ≡ true → fifth ≡ pos (absent_at task given referenceLuma referenceU referenceV x y)) →
      CountedAt task given referenceLuma referenceU referenceV x y fifth
  counts fine bad =
      record {
        not_bad = fine;
        counted = bad;
        all_real = λ b. (
          (λ e. (count_none task given referenceLuma referenceU referenceV x y).0 (ap nat_abs (sym (bad b) ∙ e))),
          (λ k. bad b ∙ ap pos ((count_none task given referenceLuma referenceU referenceV x y).1 k)),
        );
        none_real = λ b. (
          (λ e. (count_all task given referenceLuma referenceU referenceV x y).0 (ap nat_abs (sym (bad b) ∙ e))),
          (λ k. bad b ∙ ap pos ((count_all task given referenceLuma referenceU referenceV x y).1 k)),
        );
      }

module _ (q : Request) (records : List ℤ) (luma u v referenceLuma referenceU referenceV : List ℕ) (bests : List ℤ)
    (done : evaluate_answer q records luma u v referenceLuma referenceU referenceV (length bests) ≡ 0) where
  pub count_law : CountLaw q records referenceLuma referenceU referenceV (after q records luma u v referenceLuma referenceU referenceV bests done)
  count_law i there =
      let r = reads q records luma u v referenceLuma referenceU referenceV bests done i there in
      let given = record_at records i in
      rw (r.x, r.y, r.outside)
      (counts (task_of q) given referenceLuma referenceU referenceV _ _ _
      (fifth_fine (task_of q) given luma u v referenceLuma referenceU referenceV)
      (fifth_bad (task_of q) given luma u v referenceLuma referenceU referenceV))
