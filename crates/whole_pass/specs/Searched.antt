-- 02, Three: after a plan that is done, every record of which the report says `searched` really has a candidate in the table, and all its candidates stand
-- there, in slots that the header counts, whatever it is evaluated against. It is said of the lent buffer, and of a plan file in which the plan's words stand.
-- What a candidate in the table is, is best's `InTable`. Assumes nothing.
use Rattle.std.specs.Prelude.{◌≡◌, true, false, List, ◌++◌, ℕ, ◌*◌, ◌<◌, ℤ, length, take, drop}
use Rattle.std.proofs.Common.{ap, ◌∙◌}
use Rattle.limits.specs.Sizes.{words_per_record}
use Rattle.limits.specs.Limits.{radius_of}
use Rattle.limits.specs.Ranges.{radius_within}
use Rattle.window.specs.Windows.{is_searched, is_wide, slots_of}
use Rattle.record_slice.specs.RecordSlice.{record_at}
use Rattle.plan_file.specs.PlanFile.{words_of}
use Rattle.best.specs.declared.Task.{Task}
use Rattle.best.specs.Searched.{Candidates}
use Rattle.best.proofs.SearchedLaws.{candidates}
use Rattle.block.specs.declared.Settings.{Settings}
use Rattle.passes.specs.Fold.{block_at, slots_at, words_upto}
use Rattle.planning.specs.Refusals.{block_count, refusal_of}
use Rattle.planning.specs.Accepted.{Accepted}
use Rattle.plan_laws.specs.Windows.{planned_narrow}
use Rattle.plan_laws.specs.ReadBack.{record_read}
use Rattle.whole_pass.specs.AfterPlanning as planning

module _ (s : Settings) (order vectors : List ℤ) (luma u v : List ℕ) (records indices : List ℤ)
    (planned : refusal_of s order vectors (length luma) (length u) (length v) (length records) (length indices) ≡ 0) where
  abbrev n : ℕ
  n = block_count s.grid

  abbrev pub radius : ℤ
  radius = radius_of s.search.search_param

  -- what planning leaves in the lent buffer
  abbrev pub written : List ℤ
  written = planning.written s order vectors luma u v records indices planned

  taken : Accepted s order vectors (length records) (length indices)
  taken = planning.taken s order vectors luma u v records indices planned

  -- ---- words that begin with the plan's
  module _ (words tail : List ℤ) (begins : words ≡ words_upto s order vectors n ++ tail) (i : ℕ) (there : i < n) where
    tame : is_wide radius (record_at words i) ≡ false
    tame =
        ap (λ (l : List ℤ). is_wide radius (record_at l i)) begins
        ∙ ap (is_wide radius) (record_read s order vectors n i tail there taken.fit)
        ∙ planned_narrow s (block_at s.grid order vectors i) (slots_at s order vectors i)

    in_words : is_searched (record_at words i) ≡ true → (task : Task) (referenceLuma referenceU referenceV : List ℕ) →
        Candidates task (record_at words i) luma u v referenceLuma referenceU referenceV (slots_of radius)
    in_words searched task referenceLuma referenceU referenceV =
        candidates task (record_at words i) luma u v referenceLuma referenceU referenceV radius (radius_within taken.set.search) tame searched

  -- ---- the buffer that planning leaves
  pub planned_candidates : (i : ℕ) → i < n → is_searched (record_at written i) ≡ true → (task : Task) (referenceLuma referenceU referenceV : List ℕ) →
      Candidates task (record_at written i) luma u v referenceLuma referenceU referenceV (slots_of radius)
  planned_candidates =
      in_words written (drop (words_per_record * n) records) (planning.written_is s order vectors luma u v records indices planned)

  -- ---- a plan file whose words begin with those that planning wrote: `record_at (words_of file)` is what its report counts
  module _ (file : List ℕ) (tail : List ℤ) (begins : words_of file ≡ take (words_per_record * n) written ++ tail) where
    pub reported_candidates : (i : ℕ) → i < n → is_searched (record_at (words_of file) i) ≡ true →
        (task : Task) (referenceLuma referenceU referenceV : List ℕ) →
        Candidates task (record_at (words_of file) i) luma u v referenceLuma referenceU referenceV (slots_of radius)
    reported_candidates =
        in_words (words_of file) tail
        (begins ∙ ap (λ (l : List ℤ). l ++ tail) (planning.records_are s order vectors luma u v records indices planned))
