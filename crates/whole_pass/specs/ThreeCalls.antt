-- The three calls as a host makes them, in buffers that are long enough or longer. Planning is done; the request is made of the plan's settings, and the
-- reference planes pass 2's and 3's tests. Then evaluating is done and finishing is done, what finishing leaves is the pass, and behind what each call writes
-- its buffer holds what it held. Evaluating is handed the words that planning wrote, finishing the indices and the bests: the fronts of the buffers. Assumes
-- nothing.
use Rattle.std.specs.Prelude.{◌≡◌, Bool, true, cond, ℕ, ◌*◌, ◌/◌, ◌≤◌, ℤ, length, take}
use Rattle.std.proofs.Math.Path.{refl, ap}
use Rattle.std.proofs.Common.{◌∙◌, take_at, drop_at}
use mathlib.Core.List.{List, ◌++◌}
use Rattle.std.proofs.Math.ListN.{drop}
use Rattle.limits.specs.Sizes.{words_per_record, numbers_per_best}
use Rattle.limits.specs.Refused.{kept_done}
use Rattle.planes.specs.declared.Planes.{Planes}
use Rattle.block.specs.declared.Settings.{Settings}
use Rattle.passes.specs.Fold.{words_upto, indices_upto}
use Rattle.planning.specs.Refusals.{block_count, refusal_of}
use Rattle.planning.specs.Planned.{made_of}
use Rattle.planning.specs.Accepted.{Accepted}
use Rattle.evaluation.specs.declared.Request.{Request}
use Rattle.evaluation.specs.Evaluated.{task_of, bests_upto, evaluate_answer, evaluate_bests}
use Rattle.evaluation.specs.BestsLaws.{bests_long}
use Rattle.finishing.specs.Finish.{finish_answer, finish_vectors, finish_output}
use Rattle.finishing.proofs.Finished.{tail_stays}
use Rattle.whole_pass.specs.Pass.{request_of, pass_vectors, pass_output}
use Rattle.whole_pass.specs.AfterPlanning as planning
use Rattle.whole_pass.specs.Evaluates.{record_count}
use Rattle.whole_pass.specs.Done.{Referred, evaluation_done}
use Rattle.whole_pass.specs.Finishes.{finishing_done, pass_vectors_lem, pass_output_lem}

module _ (s : Settings) (measure : Bool) (pnew : ℤ) (reference : Planes) (order vectors : List ℤ) (luma u v referenceLuma referenceU referenceV : List ℕ)
    (records indices bests : List ℤ)
    (planned : refusal_of s order vectors (length luma) (length u) (length v) (length records) (length indices) ≡ 0)
    (referred : Referred s reference (length referenceLuma) (length referenceU) (length referenceV))
    (enough : numbers_per_best * block_count s.grid ≤ length bests) where
  abbrev pub q : Request
  q = request_of s measure pnew reference

  abbrev pub n : ℕ
  n = block_count s.grid

  -- ---- what planning leaves: its words and indices, and then the tails (AfterPlanning)
  abbrev pub written : List ℤ
  written = planning.written s order vectors luma u v records indices planned

  abbrev pub named : List ℤ
  named = planning.named s order vectors luma u v records indices planned

  records_are : take (words_per_record * n) written ≡ words_upto s order vectors n
  records_are = planning.records_are s order vectors luma u v records indices planned

  indices_are : take n named ≡ indices_upto s order vectors n
  indices_are = planning.indices_are s order vectors luma u v records indices planned

  taken : Accepted s order vectors (length records) (length indices)
  taken = planning.taken s order vectors luma u v records indices planned

  -- ---- evaluating the words is done, and leaves five numbers a block, and then the tail
  pub evaluated : evaluate_answer q (take (words_per_record * n) written) luma u v referenceLuma referenceU referenceV (length bests) ≡ 0
  evaluated =
      rw records_are
      (evaluation_done s measure pnew reference order vectors luma u v referenceLuma referenceU referenceV (length records) (length indices) planned referred
      (length bests) enough)

  abbrev pub found : List ℤ
  found = evaluate_bests q (take (words_per_record * n) written) luma u v referenceLuma referenceU referenceV bests

  abbrev each : List ℤ
  each = bests_upto (task_of q) (words_upto s order vectors n) luma u v referenceLuma referenceU referenceV n

  found_is : found ≡ each ++ drop (numbers_per_best * n) bests
  unfolding evaluate_bests
  found_is =
      kept_done _ _ bests evaluated
      ∙ ap (λ (w : List ℤ). bests_upto (task_of q) w luma u v referenceLuma referenceU referenceV (length w / words_per_record)
      ++ drop (numbers_per_best * (length w / words_per_record)) bests) records_are
      ∙ ap (λ (k : ℕ). bests_upto (task_of q) (words_upto s order vectors n) luma u v referenceLuma referenceU referenceV k
      ++ drop (numbers_per_best * k) bests)
      (record_count s q order vectors n refl taken.fit)

  each_long : length each ≡ numbers_per_best * n
  each_long = bests_long (task_of q) (words_upto s order vectors n) luma u v referenceLuma referenceU referenceV n

  pub bests_are : take (numbers_per_best * n) found ≡ each
  bests_are = ap (take (numbers_per_best * n)) found_is ∙ take_at each _ (numbers_per_best * n) each_long

  pub bests_tail : drop (numbers_per_best * n) found ≡ drop (numbers_per_best * n) bests
  bests_tail = ap (drop (numbers_per_best * n)) found_is ∙ drop_at each _ (numbers_per_best * n) each_long

  -- ---- finishing them is done, and leaves the pass. The vectors have no tail: their length is the grid's.
  module _ (asked : Bool) (output : List ℤ) (room : asked ≡ true → 2 * n ≤ length output) where
    pub finished : finish_answer s.grid.x s.grid.y (take n named) (take (numbers_per_best * n) found) (made_of s).diagonal asked
        (length vectors) (length output) ≡ 0
    finished = rw (indices_are, bests_are) (finishing_done s q order vectors luma u v referenceLuma referenceU referenceV taken asked (length output) room)

    pub vectors_are : finish_vectors s.grid.x s.grid.y (take n named) (take (numbers_per_best * n) found) (made_of s).diagonal asked
        vectors (length output)
        ≡ pass_vectors s q order vectors luma u v referenceLuma referenceU referenceV
    vectors_are = rw (indices_are, bests_are) (pass_vectors_lem s q order vectors luma u v referenceLuma referenceU referenceV taken asked output room)

    -- what finishing leaves of the output
    abbrev pub shown : List ℤ
    shown = finish_output s.grid.x s.grid.y (take n named) (take (numbers_per_best * n) found) (made_of s).diagonal asked (length vectors) output

    pub output_is : shown ≡ cond asked (pass_output s q order vectors luma u v referenceLuma referenceU referenceV output) output
    output_is = rw (indices_are, bests_are) (pass_output_lem s q order vectors luma u v referenceLuma referenceU referenceV taken asked output room)

    pub output_tail : drop (2 * n) shown ≡ drop (2 * n) output
    output_tail = tail_stays s.grid.x s.grid.y (take n named) (take (numbers_per_best * n) found) (made_of s).diagonal asked (length vectors) output
