-- After a plan that is done, evaluating its records with the plan's radius is never refused with 7. Assumes nothing.
use Rattle.std.specs.Prelude.{◌≡◌, refl, Bool, ◌&&◌, List, [], ◌++◌, ℕ, ◌+◌, ◌/◌, ℤ, length}
use Rattle.std.proofs.Common.{sym, subst, ◌∙◌, append-nil, arith}
use Rattle.std.proofs.Math.Path.{ap}
use Rattle.std.proofs.Math.Bool.{true, false, not}
use Rattle.std.proofs.Math.Dec.{eqb}
use Rattle.limits.specs.Sizes.{words_per_record}
use Rattle.limits.specs.Limits.{radius_of}
use Rattle.whole.specs.Signed.{holds}
use Rattle.record_slice.specs.RecordSlice.{any_wide}
use Rattle.block.specs.declared.Settings.{Settings}
use Rattle.passes.specs.Fold.{all_fit, words_upto}
use Rattle.passes.specs.FoldLaws.{words_long}
use Rattle.planes.specs.Planes.{holds3}
use Rattle.evaluation.specs.declared.Request.{Request}
use Rattle.evaluation.specs.Refusals.{holds1, holds2, has_room, refusal_of}
use Rattle.evaluation.specs.Evaluated.{evaluate_answer}
use Rattle.evaluation.specs.Table.{given_exactly}
use Rattle.plan_laws.specs.NeverWide.{never_wide}

module _ (s : Settings) (q : Request) (order vectors : List ℤ) (n : ℕ) (same : q.search_param ≡ s.search.search_param)
    (fit : all_fit s order vectors n ≡ true) where
  abbrev records : List ℤ
  records = words_upto s order vectors n

  pub record_count : length records / words_per_record ≡ n
  record_count = let long = words_long s order vectors n in omega arith

  radius_same : radius_of s.search.search_param ≡ radius_of q.search_param
  radius_same = ap radius_of (sym same)

  pub none_wide : any_wide (radius_of q.search_param) records (length records / words_per_record) ≡ false
  none_wide =
      let whole : records ++ [] ≡ records = append-nil records in
      ap (any_wide (radius_of q.search_param) records) record_count
      ∙ ap (λ (r : ℤ). any_wide r records n) (sym radius_same)
      ∙ subst (λ (l : List ℤ). any_wide (radius_of s.search.search_param) l n ≡ false) whole (never_wide s order vectors n [] fit)

  never : (t : Bool) {u : Bool} → u ≡ false → (t && u) ≡ false
  never true e = e
  never false e = refl

  module _ (luma u v referenceLuma referenceU referenceV : List ℕ) (room : ℕ) where
    pub never_7 : evaluate_answer q records luma u v referenceLuma referenceU referenceV room ≡ 7 → ⊥
    unfolding evaluate_answer
    never_7 e =
        let number = refusal_of q records (length luma) (length u) (length v) (length referenceLuma) (length referenceU) (length referenceV) room in
        let seven = (given_exactly q records (length luma) (length u) (length v) (length referenceLuma) (length referenceU) (length referenceV) room).is_7 in
        let planes = holds3 q.source (length luma) (length u) (length v) && holds3 q.reference (length referenceLuma) (length referenceU)
        (length referenceV) in
        let before = not (not (holds1 q)) && not (not (holds2 q)) && not (not planes) && not (not (has_room (length records) room)) in
        let no : eqb number 7 ≡ false = seven ∙ never before none_wide in
        let yes : eqb number 7 ≡ true = ap (λ (k : ℕ). eqb k 7) e in
        holds (sym (sym yes ∙ no))
