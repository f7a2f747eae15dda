-- After a plan that is done, evaluating its records is done: the request is made of the plan's own settings, the reference planes pass 2's and 3's tests, and
-- there is room for five numbers a block. Nothing else is asked. Assumes nothing.
use Rattle.std.specs.Prelude.{◌≡◌, Bool, ◌&&◌, List, ℕ, ◌+◌, ◌*◌, ◌/◌, ◌%◌, ◌≤◌, ℤ, pos, negsuc, ◌+ℤ◌, ◌-ℤ◌, ◌*ℤ◌, length}
use Rattle.std.proofs.Math.Path.{refl}
use Rattle.std.proofs.Math.Bool.{true}
use Rattle.std.proofs.Common.{arith}
use borrow.Author.Tests.{eq-eqb, le-leb}
use Rattle.std.proofs.Math.Dec.{eqb, leb}
use Rattle.std.specs.Int.Signed.{le_z}
use Rattle.whole.specs.Numbers.{lies_in}
use Rattle.whole.specs.Truth.{left_of, right_of, four_of, five_of, six_of}
use Rattle.limits.specs.Sizes.{words_per_record, numbers_per_best}
use Rattle.limits.specs.Limits.{is_block, is_frame_side, is_pel, are_shifts, is_step, is_grid_side}
use Rattle.limits.specs.Refused.{let_through}
use Rattle.planes.specs.declared.Planes.{Planes}
use Rattle.block.specs.declared.Settings.{Settings}
use Rattle.passes.specs.Fold.{all_fit, words_upto}
use Rattle.passes.specs.FoldLaws.{words_long}
use Rattle.planes.specs.Planes.{planes_hold, holds3}
use Rattle.planning.specs.Refusals.{block_count, holds1, axis_holds, sides_hold, holds2, vectors_fit, order_holds, has_room, refusal_of}
use Rattle.evaluation.specs.declared.Request.{Request}
use Rattle.evaluation.specs.Refusals as evaluation
use Rattle.evaluation.specs.Evaluated.{evaluate_answer}
use Rattle.whole_pass.specs.Pass.{request_of}
use Rattle.whole_pass.specs.Evaluates.{none_wide}

-- a frame's side, among what planning asks of an axis
frame_side : (count step side frame : ℤ) → axis_holds count step side frame ≡ true → is_frame_side frame ≡ true
unfolding axis_holds
frame_side count step side frame e = (four_of (is_grid_side count) (is_step side step) (is_frame_side frame)
    (le_z ((count -ℤ pos 1) *ℤ step +ℤ side) frame) e).2

-- reference planes that evaluating takes: 2's test beside the source planes, and 3's
pub record Referred (s : Settings) (reference : Planes) (luma u v : ℕ) : Type 0 where
  pub alike : evaluation.references_hold s.level.pel s.planes reference ≡ true
  pub long : holds3 reference luma u v ≡ true

module _ (s : Settings) (measure : Bool) (pnew : ℤ) (reference : Planes) (order vectors : List ℤ) (luma u v referenceLuma referenceU referenceV : List ℕ)
    (words indices : ℕ)
    (planned : refusal_of s order vectors (length luma) (length u) (length v) words indices ≡ 0)
    (referred : Referred s reference (length referenceLuma) (length referenceU) (length referenceV))
    (room : ℕ) (enough : numbers_per_best * block_count s.grid ≤ room) where
  abbrev q : Request
  q = request_of s measure pnew reference

  abbrev n : ℕ
  n = block_count s.grid

  abbrev records : List ℤ
  records = words_upto s order vectors n

  pub evaluation_done : evaluate_answer q records luma u v referenceLuma referenceU referenceV room ≡ 0
  unfolding evaluate_answer refusal_of evaluation.refusal_of holds1 holds2 evaluation.holds1 evaluation.holds2
  evaluation_done =
      let t₁ = let_through (holds1 s (length order)) 0 _ planned in
      let t₂ = let_through (holds2 s (length vectors) && vectors_fit vectors n) 1 _ t₁.1 in
      let t₃ = let_through (holds3 s.planes (length luma) (length u) (length v)) 2 _ t₂.1 in
      let t₄ = let_through (order_holds s.grid order n) 3 _ t₃.1 in
      let t₅ = let_through (has_room n words indices) 4 _ t₄.1 in
      let t₆ = let_through (all_fit s order vectors n) 5 _ t₅.1 in
      let param = lies_in (negsuc 2) (pos 3) s.search.search_param in
      let a = six_of s.search.exhaustive (is_block s.block.x s.block.y) (le_z (pos 2) s.grid.x) (le_z (pos 2) s.grid.y)
      (eqb (length order) (2 * n)) param t₁.0 in
      let two = left_of (holds2 s (length vectors)) (vectors_fit vectors n) t₂.0 in
      let b = five_of (sides_hold s) (is_pel s.level.pel) (are_shifts s.shift.x s.shift.y) (planes_hold s.planes s.shift)
      (eqb (length vectors) (3 * n)) two in
      let x = axis_holds s.grid.x s.step.x s.block.x s.planes.luma.width in
      let y = axis_holds s.grid.y s.step.y s.block.y s.planes.luma.height in
      let wide = frame_side s.grid.x s.step.x s.block.x s.planes.luma.width (left_of x y b.0) in
      let tall = frame_side s.grid.y s.step.y s.block.y s.planes.luma.height (right_of x y b.0) in
      let long = words_long s order vectors n in
      let whole : eqb (length records % words_per_record) 0 ≡ true = eq-eqb (length records % words_per_record) 0 (omega arith) in
      let numbers = numbers_per_best * (length records / words_per_record) in
      let fits : leb numbers room ≡ true = le-leb numbers room (omega arith) in
      let narrow = none_wide s q order vectors n refl t₆.0 in
      rw (a.1, a.5, b.1, b.2, wide, tall, b.3, referred.alike, t₃.0, referred.long, whole, fits, narrow)
