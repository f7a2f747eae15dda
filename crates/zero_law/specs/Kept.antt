-- 02, Three, of the lent buffer. After an accepted evaluation a BAD record whose window is empty, which the report counts as `kept`, has its own predictor
-- in the buffer, and the cost of the predictor: the plain one, tripled where the record is negative. Assumes nothing.
use Rattle.std.specs.Prelude.{◌≡◌, true, List, ℕ, ◌+◌, ◌*◌, ◌/◌, ◌<◌, ℤ, pos, length, get_or}
use Rattle.std.proofs.Common.{ap, ◌∙◌}
use Rattle.limits.specs.Sizes.{words_per_record, numbers_per_best}
use Rattle.records.specs.declared.Record.{Record}
use Rattle.window.specs.Windows.{is_negative, is_kept}
use Rattle.record_slice.specs.RecordSlice.{record_at}
use Rattle.choosing.specs.Choosing.{tripled_of}
use Rattle.best.specs.declared.Task.{Task}
use Rattle.best.specs.declared.Best.{Best}
use Rattle.best.specs.Kept.{predictor_cost}
use Rattle.best.proofs.Kept.{kept_best}
use Rattle.evaluation.specs.declared.Request.{Request}
use Rattle.evaluation.specs.Evaluated.{task_of, evaluate_answer}
use Rattle.evaluation.specs.Zero.{after, reads}

-- ---- what is said of three numbers that stand in the buffer for a record: x, y and SAD
pub record KeepsPredictor (task : Task) (given : Record) (luma u v referenceLuma referenceU referenceV : List ℕ) (x y sad : ℤ) : Type 0 where
  pub x_is : x ≡ given.predictor.first
  pub y_is : y ≡ given.predictor.second
  pub sad_is : sad ≡ tripled_of (is_negative given) (pos (predictor_cost task given luma u v referenceLuma referenceU referenceV))

abbrev pub KeptLaw : Request → List ℤ → List ℕ → List ℕ → List ℕ → List ℕ → List ℕ → List ℕ → List ℤ → Type 0
KeptLaw q records luma u v referenceLuma referenceU referenceV bests =
    (i : ℕ) → i < length records / words_per_record → is_kept (record_at records i) ≡ true →
    KeepsPredictor (task_of q) (record_at records i) luma u v referenceLuma referenceU referenceV
    (get_or bests (numbers_per_best * i) (pos 0)) (get_or bests (numbers_per_best * i + 1) (pos 0)) (get_or bests (numbers_per_best * i + 2) (pos 0))

module _ (q : Request) (records : List ℤ) (luma u v referenceLuma referenceU referenceV : List ℕ) (bests : List ℤ)
    (done : evaluate_answer q records luma u v referenceLuma referenceU referenceV (length bests) ≡ 0) where
  pub kept_law : KeptLaw q records luma u v referenceLuma referenceU referenceV (after q records luma u v referenceLuma referenceU referenceV bests done)
  kept_law i there kept =
      let r = reads q records luma u v referenceLuma referenceU referenceV bests done i there in
      let best = kept_best (task_of q) (record_at records i) luma u v referenceLuma referenceU referenceV kept in
      record {
        x_is = r.x ∙ ap (λ (b : Best). b.x) best;
        y_is = r.y ∙ ap (λ (b : Best). b.y) best;
        sad_is = r.sad ∙ ap (λ (b : Best). b.sad) best;
      }
