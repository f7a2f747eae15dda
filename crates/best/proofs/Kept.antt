-- 02, Three: what `kept` means. A bad record whose window is empty answers its predictor with the predictor's plain cost: "An empty window keeps the
-- predictor." Nothing else is asked: it holds at every pel, of any planes and any lambda. Assumes nothing.
use Rattle.std.specs.Prelude.{◌≡◌, refl, Bool, true, ◌&&◌, not, List, ◌⊎◌, ℕ, ltb, pos}
use Rattle.std.proofs.Common.{sym, ap, ◌∙◌, inl, inr, ⊎_elim, arith}
use Rattle.std.proofs.Math.Bool.{false}
use borrow.Author.Tests.{ltb-false, not-true}
use Rattle.whole.specs.Truth.{left_of, right_of}
use Rattle.records.specs.declared.Record.{Record}
use Rattle.window.specs.Windows.{is_bad, is_negative, has_candidate, is_kept}
use Rattle.choosing.specs.declared.Choice.{Choice}
use Rattle.choosing.specs.Choosing.{columns_of, rows_of, predictor_with, plain_sad, chosen, tripled_of, selected}
use Rattle.choosing.specs.Answers.{empty_rows, empty_columns}
use Rattle.tables.specs.Laws.{slot_0}
use Rattle.best.specs.declared.Task.{Task}
use Rattle.best.specs.declared.Best.{Best}
use Rattle.best.specs.Best.{choice_of, luma_table, chromas_of, average_at, best_of}
use Rattle.best.specs.Sides.{has_candidate_is}
use Rattle.best.proofs.VectorCosts.{held}
use Rattle.best.specs.Kept.{predictor_cost}

-- of two counts that are not both above 0 one is 0
one_is_0 : (a b : ℕ) → (ltb 0 a && ltb 0 b) ≡ false → (a ≡ 0) ⊎ (b ≡ 0)
one_is_0 a b e = by (ltb 0 a) refl
  where
    by : (t : Bool) → ltb 0 a ≡ t → (a ≡ 0) ⊎ (b ≡ 0)
    by true f = let g : ltb 0 b ≡ false = rw f at e in inr (let l = ltb-false 0 b g in omega arith)
    by false f = inl (let l = ltb-false 0 a f in omega arith)

module _ (task : Task) (given : Record) (luma u v referenceLuma referenceU referenceV : List ℕ) where
  abbrev k : Choice
  k = choice_of task given

  abbrev lumas : List ℕ
  lumas = luma_table task given luma referenceLuma

  abbrev chromas : List ℕ
  chromas = chromas_of task given u v referenceU referenceV

  abbrev cost_of_predictor : ℕ
  cost_of_predictor = predictor_cost task given luma u v referenceLuma referenceU referenceV

  -- slot 0 of the tables is the predictor's
  plain_is : plain_sad k lumas chromas ≡ pos cost_of_predictor
  plain_is = held task given luma u v referenceLuma referenceU referenceV (omega arith) (slot_0 0 k)

  no_candidate : is_kept given ≡ true → (columns_of k ≡ 0) ⊎ (rows_of k ≡ 0)
  unfolding is_kept
  no_candidate e =
      let none : has_candidate given ≡ false = not-true _ (right_of (is_bad given) (not (has_candidate given)) e) in
      one_is_0 (columns_of k) (rows_of k) (sym (has_candidate_is task given) ∙ none)

  chosen_is : is_kept given ≡ true → chosen k lumas chromas ≡ predictor_with k (pos cost_of_predictor)
  chosen_is e =
      ⊎_elim (empty_columns k lumas chromas) (empty_rows k lumas chromas) (no_candidate e) ∙ ap (predictor_with k) plain_is

  pub kept_best : is_kept given ≡ true →
      ◌≡◌ {A = Best} (best_of task given luma u v referenceLuma referenceU referenceV)
      (record {
        x = given.predictor.first;
        y = given.predictor.second;
        sad = tripled_of (is_negative given) (pos cost_of_predictor);
        average = average_at task given luma;
      })
  unfolding best_of selected is_kept
  kept_best e = rw (left_of (is_bad given) (not (has_candidate given)) e, chosen_is e)
