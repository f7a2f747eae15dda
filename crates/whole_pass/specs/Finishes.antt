-- The three entries one behind the other: after a plan that is done and its evaluation, finishing is done too, and the vectors and output words are those of
-- the pass's own definition. Assumes nothing.
use Rattle.std.specs.Prelude.{◌≡◌, refl, Bool, true, false, ◌&&◌, ◌||◌, eqb, ltb, ℤ, pos, nat_abs, ◌*ℤ◌, length, get_or, ◌≤ℤ◌}
use Rattle.std.proofs.Common.{sym, ◌∙◌, mul-le-mul, eq-eqb, le-ltb}
use Rattle.std.proofs.Math.Path.{ap, subst}
use Rattle.std.proofs.Math.Bool.{cond}
use mathlib.Core.List.{List, [], append-nil}
use Rattle.std.proofs.Math.Logic.{⊎_elim}
use Prim.Native.Nat.{ℕ, zero, suc, ◌+◌, ◌*◌, ◌≤◌, ◌<◌}
use native.Mathlib.Omega.{arith}
use Rattle.std.specs.Int.Signed.{lt_z, le_z}
use Rattle.evaluation.specs.BestsRead.{Reads, best_reads}
use Rattle.limits.specs.Sizes.{numbers_per_best}
use Rattle.limits.specs.Ranges.{at_each_pel}
use Rattle.whole.specs.Numbers.{root_of, fits_i16}
use Rattle.whole.specs.Root.{root_is}
use Rattle.whole.specs.Signed.{signed, abs_is, lt_or_ge}
use Rattle.whole.specs.Truth.{left_of, right_of}
use Rattle.whole.specs.Interval.{within_i16}
use Rattle.limits.specs.Limits.{is_pel, blocks_of}
use Rattle.limits.specs.Refusals.{any_upto}
use Rattle.limits.specs.Refused.{none_passes, kept_done}
use Rattle.records.specs.declared.Record.{Record}
use Rattle.records.specs.Packing.{offsets_fit, pairs_fit, last_fits, record_fits}
use Rattle.window.specs.Windows.{is_bad, is_negative}
use Rattle.score.specs.Diagonal.{squared, diagonal_of}
use Rattle.choosing.specs.Answers.{selected_ranged}
use Rattle.record_slice.specs.RecordSlice.{record_at}
use Rattle.block.specs.declared.Settings.{Settings}
use Rattle.best.specs.declared.Task.{Task}
use Rattle.best.specs.declared.Best.{Best}
use Rattle.best.specs.Best.{choice_of, best_of}
use Rattle.passes.specs.Fold.{index_at, turn_at, turn_of, all_fit, words_upto, indices_upto}
use Rattle.passes.specs.FoldLaws.{indices_long}
use Rattle.planning.specs.Refusals.{block_count}
use Rattle.planning.specs.Planned.{made_of}
use Rattle.planning.specs.Accepted.{Set, Accepted}
use Rattle.evaluation.specs.declared.Request.{Request}
use Rattle.evaluation.specs.Evaluated.{task_of, best_at, fifth_at, bests_upto}
use Rattle.evaluation.specs.BestsLaws.{bests_long}
use Rattle.evaluation.specs.Accepted.{ranged}
use Rattle.finishing.specs.Finish.{refused1, refused2, is_stray, refused4, refused5, is_wild, refused7, finish_answer, finish_vectors, finish_output}
use Rattle.finishing.specs.Finish.{written_upto}
use Rattle.finishing.specs.Finish as finish
use Rattle.finishing.specs.Written.{written_alike}
use Rattle.plan_laws.specs.ReadBack.{planned, record_read}
use Rattle.whole_pass.specs.Pass.{pass_best, storing, putting, pass_vectors, pass_output}
use Rattle.whole_pass.specs.Lists.{index_reads}

-- ---- a best's vector fits i16
best_tame : (task : Task) (r : Record) (luma u v referenceLuma referenceU referenceV : List ℕ) → pairs_fit r ≡ true →
    (fits_i16 (best_of task r luma u v referenceLuma referenceU referenceV).x ≡ true) ×
    (fits_i16 (best_of task r luma u v referenceLuma referenceU referenceV).y ≡ true)
unfolding best_of
best_tame task r luma u v referenceLuma referenceU referenceV pairs =
    let vector = selected_ranged (choice_of task r) (is_bad r) (is_negative r) r.sad _ _ (ranged task r pairs) in
    (within_i16 vector.x, within_i16 vector.y)

-- ---- the diagonal of accepted sides is above 0
root_some : (n : ℕ) → 1 ≤ n → n < 4294967296 → 1 ≤ root_of n
root_some n l h = (root_is n h).largest 1 (omega arith)

squares : {w h : ℤ} → pos 2 ≤ℤ w → w ≤ℤ pos 16384 → pos 2 ≤ℤ h → h ≤ℤ pos 16384 → (1 ≤ squared w + squared h) × (squared w + squared h < 4294967296)
squares {w} {h} a b c d =
    let ww : nat_abs w ≤ 16384 = omega (signed, abs_is w) in
    let hh : nat_abs h ≤ 16384 = omega (signed, abs_is h) in
    let w1 : 2 ≤ nat_abs w = omega (signed, abs_is w) in
    (omega (arith, mul-le-mul w1 w1), omega (arith, mul-le-mul ww ww, mul-le-mul hh hh))

times_some : (pel : ℤ) (r : ℕ) → is_pel pel ≡ true → 1 ≤ r → le_z (pel *ℤ pos r) (pos 0) ≡ false
times_some pel r e l = at_each_pel (λ (z : ℤ). le_z (z *ℤ pos r) (pos 0) ≡ false) (omega signed) (omega signed) (omega signed) pel e

diagonal_some : (s : Settings) → Set s → le_z (made_of s).diagonal (pos 0) ≡ false
unfolding made_of diagonal_of
diagonal_some s k =
    let sq = squares k.across.frame_least k.across.frame_most k.down.frame_least k.down.frame_most in
    times_some s.level.pel (root_of (squared s.planes.luma.width + squared s.planes.luma.height)) k.pel (root_some _ sq.0 sq.1)

module _ (s : Settings) (q : Request) (order vectors : List ℤ) (luma u v referenceLuma referenceU referenceV : List ℕ) {words marks : ℕ}
    (k : Accepted s order vectors words marks) where
  -- what the plan wrote, and what evaluating made of it
  abbrev pub n : ℕ
  n = block_count s.grid

  abbrev pub records : List ℤ
  records = words_upto s order vectors n

  abbrev pub indices : List ℤ
  indices = indices_upto s order vectors n

  abbrev pub bests : List ℤ
  bests = bests_upto (task_of q) records luma u v referenceLuma referenceU referenceV n

  -- ---- what is read of them
  fit_each : (m i : ℕ) → i < m → all_fit s order vectors m ≡ true → record_fits (planned s order vectors i) ≡ true
  unfolding all_fit turn_at
  fit_each zero i l e = absurd (omega arith)
  fit_each (suc m) i l e =
      ⊎_elim
      (λ h. fit_each m i h (left_of (all_fit s order vectors m) (turn_of s order vectors m).fits e))
      (λ h. let same : m ≡ i = omega arith in subst (λ (j : ℕ). record_fits (planned s order vectors j) ≡ true) same
      (right_of (all_fit s order vectors m) (turn_of s order vectors m).fits e))
      (lt_or_ge i m)

  pairs_each : (i : ℕ) → i < n → pairs_fit (planned s order vectors i) ≡ true
  unfolding record_fits
  pairs_each i l =
      let r = planned s order vectors i in
      right_of (offsets_fit r) (pairs_fit r) (left_of (offsets_fit r && pairs_fit r) (last_fits r.lambda r.flags) (fit_each n i l k.fit))

  record_is : (i : ℕ) → i < n → record_at records i ≡ planned s order vectors i
  record_is i l = subst (λ (x : List ℤ). record_at x i ≡ planned s order vectors i) (append-nil records) (record_read s order vectors n i [] l k.fit)

  best_is : (i : ℕ) → i < n → best_at (task_of q) records luma u v referenceLuma referenceU referenceV i
      ≡ pass_best s q order vectors luma u v referenceLuma referenceU referenceV i
  best_is i l = ap (λ (r : Record). best_of (task_of q) r luma u v referenceLuma referenceU referenceV) (record_is i l)

  abbrev fifth : ℕ → ℤ
  fifth = fifth_at (task_of q) records luma u v referenceLuma referenceU referenceV

  reads : (i : ℕ) → i < n → Reads bests i (pass_best s q order vectors luma u v referenceLuma referenceU referenceV i) (fifth i)
  reads i l =
      subst (λ (b : Best). Reads bests i b (fifth i)) (best_is i l)
      (subst (λ (x : List ℤ). Reads x i (best_at (task_of q) records luma u v referenceLuma referenceU referenceV i) (fifth i)) (append-nil bests)
      (best_reads (task_of q) records luma u v referenceLuma referenceU referenceV n i [] l))

  index_is : (i : ℕ) → i < n → get_or indices i (pos 0) ≡ pos (index_at s.grid order i)
  index_is i l = subst (λ (x : List ℤ). get_or x i (pos 0) ≡ pos (index_at s.grid order i)) (append-nil indices) (index_reads s order vectors n i [] l)

  -- ---- finishing refuses nothing of it
  not_1 : refused1 s.grid.x s.grid.y ≡ false
  not_1 =
      let a = k.set.across.count_least in
      let b = k.set.down.count_least in
      let p : lt_z s.grid.x (pos 2) ≡ false = omega signed in
      let r : lt_z s.grid.y (pos 2) ≡ false = omega signed in
      rw (p, r)

  not_2 : refused2 s.grid.x s.grid.y (made_of s).diagonal (length vectors) ≡ false
  not_2 =
      let a = k.set.across.count_most in
      let b = k.set.down.count_most in
      let p : lt_z (pos 2048) s.grid.x ≡ false = omega signed in
      let r : lt_z (pos 2048) s.grid.y ≡ false = omega signed in
      let held : eqb (length vectors) (3 * blocks_of s.grid.x s.grid.y) ≡ true =
      eq-eqb (length vectors) (3 * blocks_of s.grid.x s.grid.y) k.held in
      rw (p, r, held, diagonal_some s k.set)

  stray_none : (blocks index : ℕ) → index < blocks → is_stray (pos blocks) (pos index) ≡ false
  stray_none blocks index l =
      let a : lt_z (pos index) (pos 0) ≡ false = omega signed in
      let b : le_z (pos blocks) (pos index) ≡ false = omega signed in
      rw (a, b)

  not_4 : refused4 s.grid.x s.grid.y indices ≡ false
  not_4 =
      ap (λ (m : ℕ). any_upto (λ j. is_stray (pos (blocks_of s.grid.x s.grid.y)) (get_or indices j (pos 0))) m) (indices_long s order vectors n)
      ∙ none_passes (λ j. is_stray (pos (blocks_of s.grid.x s.grid.y)) (get_or indices j (pos 0))) n
      (λ i l.
      ap (is_stray (pos (blocks_of s.grid.x s.grid.y))) (index_is i l)
      ∙ stray_none (blocks_of s.grid.x s.grid.y) (index_at s.grid order i) (let h = (k.serves i l).held in let g = k.held in omega arith))

  not_5 : (asked : Bool) (room : ℕ) → (asked ≡ true → 2 * n ≤ room) → refused5 s.grid.x s.grid.y indices bests asked room ≡ false
  not_5 asked room h =
      let bests-5 : eqb (length bests) (numbers_per_best * length indices) ≡ true = eq-eqb (length bests) (numbers_per_best * length indices)
      (bests_long (task_of q) records luma u v referenceLuma referenceU referenceV n
      ∙ ap (λ (m : ℕ). numbers_per_best * m) (sym (indices_long s order vectors n))) in
      rw bests-5 (by asked refl)
    where
      by : (a : Bool) → asked ≡ a → (a && ltb room (2 * blocks_of s.grid.x s.grid.y) || false) ≡ false
      by true e = let enough = h e in rw (le-ltb room (2 * blocks_of s.grid.x s.grid.y) (omega arith))
      by false e = refl

  not_7 : refused7 indices bests ≡ false
  not_7 =
      ap (λ (m : ℕ). any_upto (λ j. is_wild (get_or bests (numbers_per_best * j) (pos 0)) (get_or bests (numbers_per_best * j + 1) (pos 0))) m)
      (indices_long s order vectors n)
      ∙ none_passes (λ j. is_wild (get_or bests (numbers_per_best * j) (pos 0)) (get_or bests (numbers_per_best * j + 1) (pos 0))) n
      (λ i l.
      let tame = best_tame (task_of q) (planned s order vectors i) luma u v referenceLuma referenceU referenceV (pairs_each i l) in
      let r = reads i l in
      rw (r.x, r.y, tame.0, tame.1))

  pub finishing_done : (asked : Bool) (room : ℕ) → (asked ≡ true → 2 * n ≤ room) →
      finish_answer s.grid.x s.grid.y indices bests (made_of s).diagonal asked (length vectors) room ≡ 0
  unfolding finish_answer
  finishing_done asked room h = rw (not_1, not_2, not_4, not_5 asked room h, not_7)

  -- ---- and what it writes is the pass
  stored_alike : (i : ℕ) (held : List ℤ) → i < n → finish.storing indices bests i held
      ≡ storing s q order vectors luma u v referenceLuma referenceU referenceV i held
  stored_alike i held l = let r = reads i l in rw (index_is i l, r.x, r.y, r.sad)

  put_alike : (i : ℕ) (held : List ℤ) → i < n → finish.putting indices bests (made_of s).diagonal i held
      ≡ putting s q order vectors luma u v referenceLuma referenceU referenceV i held
  put_alike i held l = let r = reads i l in rw (index_is i l, r.x, r.y, r.sad, r.average)

  module _ (asked : Bool) (output : List ℤ) (room : asked ≡ true → 2 * n ≤ length output) where
    pub pass_vectors_lem : finish_vectors s.grid.x s.grid.y indices bests (made_of s).diagonal asked vectors (length output)
        ≡ pass_vectors s q order vectors luma u v referenceLuma referenceU referenceV
    unfolding finish_vectors pass_vectors
    pass_vectors_lem =
        kept_done _ _ vectors (finishing_done asked (length output) room)
        ∙ ap (written_upto (finish.storing indices bests) vectors) (indices_long s order vectors n)
        ∙ written_alike _ _ vectors n stored_alike

    pub pass_output_lem : finish_output s.grid.x s.grid.y indices bests (made_of s).diagonal asked (length vectors) output
        ≡ cond asked (pass_output s q order vectors luma u v referenceLuma referenceU referenceV output) output
    unfolding finish_output pass_output
    pass_output_lem =
        kept_done _ _ output (finishing_done asked (length output) room)
        ∙ ap (λ (x : List ℤ). cond asked x output) (ap (written_upto (finish.putting indices bests (made_of s).diagonal) output)
        (indices_long s order vectors n) ∙ written_alike _ _ output n put_alike)
