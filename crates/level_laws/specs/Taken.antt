-- 02, "One": "Demands 1 to 3 read on, with planes so made." Planes that `level` answers are taken by planning and evaluating: 3 is never given for them, and 2
-- never for their numbers; and where a plan on them is done, so are evaluating and finishing. So every theorem of the pass speaks of them. Assumes nothing.
use Rattle.std.specs.Prelude.{◌≡◌, Bool, false, ◌&&◌, cond, List, ℕ, ◌*◌, ◌≤◌, eqb, ℤ, pos, ◌+ℤ◌, ◌-ℤ◌, ◌*ℤ◌, length, take, Ok}
use Rattle.std.proofs.Math.Path.{sym}
use Rattle.std.proofs.Common.{ap, subst, ◌∙◌}
use Rattle.std.proofs.Math.Bool.{true}
use Rattle.std.proofs.lemmas.Bool.{eqb-false}
use Rattle.std.specs.Int.Signed.{le_z}
use Rattle.whole.specs.Truth.{both_of, and_true, and_false}
use Rattle.limits.specs.Sizes.{words_per_record, numbers_per_best}
use Rattle.limits.specs.Limits.{same, is_frame_side, is_grid_side, is_step, is_pel, are_shifts, shifted_by}
use Rattle.limits.specs.Ranges.{same_of}
use Rattle.plane.specs.declared.Place.{Place}
use Rattle.planes.specs.declared.Sides.{Sides}
use Rattle.planes.specs.declared.Planes.{Planes}
use Rattle.planes.specs.Planes.{planes_hold, holds3}
use Rattle.level_places.specs.declared.SuperFrame.{SuperFrame}
use Rattle.level_places.specs.Levels.{plane_size, level_pel, unshifted, planes_of}
use Rattle.levels.specs.Accepted.{Sized, SizedThree, Accepted, framed, pel_holds, all_sized, wide, tall, planes_hold_lem, kept_by, cut_means}
use Rattle.block.specs.declared.Settings.{Settings}
use Rattle.planning.specs.Refusals.{block_count, axis_holds, holds2, refusal_of}
use Rattle.planning.specs.Table.{given_exactly}
use Rattle.planning.specs.Planned.{made_of, plan_records, plan_indices}
use Rattle.evaluation.specs.declared.Request.{Request}
use Rattle.evaluation.specs.Refusals as evaluation
use Rattle.evaluation.specs.Table as table
use Rattle.evaluation.specs.Evaluated.{evaluate_answer, evaluate_bests}
use Rattle.finishing.specs.Finish.{finish_answer, finish_vectors}
use Rattle.whole_pass.specs.Pass.{request_of, pass_vectors}
use Rattle.whole_pass.specs.Done.{Referred}
use Rattle.whole_pass.specs.ThreeCalls.{evaluated, finished, vectors_are}
use Rattle.level_laws.specs.Asked.{Bytes, answer_of, luma_of, u_of, v_of}

-- a number is not given where its test says no
never : (k : ℕ) {n : ℕ} {test : Bool} → n ≡ k → eqb n k ≡ test → test ≡ false → ⊥
never k {n} e by says = eqb-false n k (by ∙ says) e

-- ---- what an answer that is not refused says of its planes
pub record Good (f : SuperFrame) (b : Bytes) (p : Planes) : Type 0 where
  pub wide : is_frame_side p.luma.width ≡ true
  pub tall : is_frame_side p.luma.height ≡ true
  pub pel : is_pel (level_pel f) ≡ true
  pub shifts : are_shifts f.shift.x f.shift.y ≡ true
  pub planes : planes_hold p f.shift ≡ true
  pub long : holds3 p (length (luma_of f b)) (length (u_of f b)) (length (v_of f b)) ≡ true
  pub sizes : SizedThree f p

module _ (f : SuperFrame) (b : Bytes) where
  good_of : Accepted f (length b.luma) (length b.u) (length b.v) (length b.source_luma) (length b.source_u) (length b.source_v) →
      Good f b (planes_of f)
  good_of k =
      record {
        wide = wide f k.two k.ranged k.sided;
        tall = tall f k.two k.ranged k.sided;
        pel = pel_holds f k.two;
        shifts = (framed f k.two).shifts;
        planes = planes_hold_lem f k.two k.ranged;
        long = kept_by f _ _ _ _ _ _ k _ (λ e h. rw e h) (λ e h. rw e h);
        sizes = all_sized f k.two k.ranged;
      }

  pub good : {p : Planes} → answer_of f b ≡ Ok p → Good f b p
  good e = let means = cut_means f _ _ _ _ _ _ e in subst (Good f b) (sym means.1) (good_of means.0)

-- ---- planning: of 2 the planes' part is met
-- what 2 still asks: the grid, the steps, that the last block ends inside the frame, the pel and the vectors' count
abbrev pub axis_fits : ℤ → ℤ → ℤ → ℤ → Bool
axis_fits count step side frame = is_grid_side count && is_step side step && le_z ((count -ℤ pos 1) *ℤ step +ℤ side) frame

abbrev pub rest_holds : Settings → ℕ → Bool
rest_holds s held =
    axis_fits s.grid.x s.step.x s.block.x s.planes.luma.width
    && axis_fits s.grid.y s.step.y s.block.y s.planes.luma.height
    && is_pel s.level.pel
    && eqb held (3 * block_count s.grid)

module _ (f : SuperFrame) (b : Bytes) (s : Settings) (cut : answer_of f b ≡ Ok s.planes) (shifts : s.shift ≡ f.shift) where
  pub planning_2 : (held : ℕ) → holds2 s held ≡ rest_holds s held
  unfolding holds2 axis_holds
  planning_2 held =
      let k = good f b cut in
      let planes : planes_hold s.planes s.shift ≡ true = rw shifts k.planes in
      let allowed : are_shifts s.shift.x s.shift.y ≡ true = rw shifts k.shifts in
      simp (k.wide, k.tall, planes, allowed, and_true)

  pub planning_not_3 : (order vectors : List ℤ) (words indices : ℕ) →
      refusal_of s order vectors (length (luma_of f b)) (length (u_of f b)) (length (v_of f b)) words indices ≡ 3 → ⊥
  planning_not_3 order vectors words indices e =
      let l = length (luma_of f b) in
      let c = length (u_of f b) in
      let d = length (v_of f b) in
      never 3 e (given_exactly s order vectors l c d words indices).is_3 (simp ((good f b cut).long, and_false))

-- ---- evaluating: the source's planes of one frame, the reference's of another with the same sides, shifts, pel and level
pub record Alike (f g : SuperFrame) : Type 0 where
  pub frame : f.frame ≡ g.frame
  pub shift : f.shift ≡ g.shift
  pub pel : f.pel ≡ g.pel
  pub level : f.level ≡ g.level

-- a plane of the one has the sides and the pel of the same plane of the other
module _ (f g : SuperFrame) (alike : Alike f g) where
  level_alike : (side : Sides → ℤ) (s : ℤ) → shifted_by (plane_size (side f.frame) f.level) s ≡ shifted_by (plane_size (side g.frame) g.level) s
  level_alike side s =
      ap (λ (z : Sides). shifted_by (plane_size (side z) f.level) s) alike.frame
      ∙ ap (λ (z : ℤ). shifted_by (plane_size (side g.frame) z) s) alike.level

  pub pel_alike : level_pel f ≡ level_pel g
  pel_alike = ap (λ (z : ℤ). cond (same (pos 0) f.level) z (pos 1)) alike.pel ∙ ap (λ (z : ℤ). cond (same (pos 0) z) g.pel (pos 1)) alike.level

  reference_holds_lem : (shift : Sides) {p r : Place} → Sized f shift p → Sized g shift r → evaluation.reference_holds (level_pel f) p r ≡ true
  unfolding evaluation.reference_holds
  reference_holds_lem shift a b =
      both_of
      (both_of
      (both_of b.limits (same_of (a.width_is ∙ level_alike (λ z. z.x) shift.x ∙ sym b.width_is)))
      (same_of (a.height_is ∙ level_alike (λ z. z.y) shift.y ∙ sym b.height_is)))
      (same_of (pel_alike ∙ sym b.pel_is))

  pub references_hold_lem : (b c : Bytes) {p r : Planes} → answer_of f b ≡ Ok p → answer_of g c ≡ Ok r → evaluation.references_hold (level_pel f) p r ≡ true
  unfolding evaluation.references_hold
  references_hold_lem b c {p} {r} source reference =
      let k = (good f b source).sizes in
      let h = (good g c reference).sizes in
      let u : Sized g f.shift r.u = rw alike.shift h.u in
      let v : Sized g f.shift r.v = rw alike.shift h.v in
      both_of (both_of (reference_holds_lem unshifted k.luma h.luma) (reference_holds_lem f.shift k.u u)) (reference_holds_lem f.shift k.v v)

module _ (f g : SuperFrame) (alike : Alike f g) (b c : Bytes) (q : Request) (source : answer_of f b ≡ Ok q.source)
    (reference : answer_of g c ≡ Ok q.reference) (shifts : q.shift ≡ f.shift) (pel : q.pel ≡ level_pel f) where
  -- of 2 nothing is left to ask
  pub evaluating_2 : evaluation.holds2 q ≡ true
  unfolding evaluation.holds2
  evaluating_2 =
      let k = good f b source in
      rw (pel, shifts)
      (both_of (both_of (both_of (both_of (both_of k.pel k.shifts) k.wide) k.tall) k.planes) (references_hold_lem f g alike b c source reference))

  module _ (records : List ℤ) (bests : ℕ) where
    abbrev answer : ℕ
    answer = evaluate_answer q records (luma_of f b) (u_of f b) (v_of f b) (luma_of g c) (u_of g c) (v_of g c) bests

    pub evaluating_not_2 : answer ≡ 2 → ⊥
    unfolding evaluate_answer
    evaluating_not_2 e =
        never 2 e
        (table.given_exactly q records (length (luma_of f b)) (length (u_of f b)) (length (v_of f b))
        (length (luma_of g c)) (length (u_of g c)) (length (v_of g c)) bests).is_2
        (simp (evaluating_2, and_false))

    pub evaluating_not_3 : answer ≡ 3 → ⊥
    unfolding evaluate_answer
    evaluating_not_3 e =
        never 3 e
        (table.given_exactly q records (length (luma_of f b)) (length (u_of f b)) (length (v_of f b))
        (length (luma_of g c)) (length (u_of g c)) (length (v_of g c)) bests).is_3
        (simp ((good f b source).long, (good g c reference).long, and_false))

-- ---- the whole pass: a plan that is done, and a reference frame beside it, are all that evaluating and finishing ask (whole_pass, ThreeCalls)
module _ (f g : SuperFrame) (alike : Alike f g) (b c : Bytes) (s : Settings) (reference : Planes) (source-cut : answer_of f b ≡ Ok s.planes)
    (reference-cut : answer_of g c ≡ Ok reference) (pel : s.level.pel ≡ level_pel f) where
  pub referred : Referred s reference (length (luma_of g c)) (length (u_of g c)) (length (v_of g c))
  referred = record { alike = rw pel (references_hold_lem f g alike b c source-cut reference-cut); long = (good g c reference-cut).long }

  module _ (measure : Bool) (pnew : ℤ) (order vectors records indices bests : List ℤ)
      (planned : refusal_of s order vectors (length (luma_of f b)) (length (u_of f b)) (length (v_of f b)) (length records) (length indices) ≡ 0)
      (enough : numbers_per_best * block_count s.grid ≤ length bests) where
    abbrev n : ℕ
    n = block_count s.grid

    abbrev q : Request
    q = request_of s measure pnew reference

    -- what planning leaves in the records and the indices, and evaluating in the bests
    abbrev written : List ℤ
    written = plan_records s order vectors (length (luma_of f b)) (length (u_of f b)) (length (v_of f b)) records (length indices)

    abbrev named : List ℤ
    named = plan_indices s order vectors (length (luma_of f b)) (length (u_of f b)) (length (v_of f b)) (length records) indices

    abbrev found : List ℤ
    found = evaluate_bests q (take (words_per_record * n) written) (luma_of f b) (u_of f b) (v_of f b) (luma_of g c) (u_of g c) (v_of g c) bests

    pub evaluating_done : evaluate_answer q (take (words_per_record * n) written) (luma_of f b) (u_of f b) (v_of f b) (luma_of g c) (u_of g c) (v_of g c)
        (length bests) ≡ 0
    evaluating_done =
        evaluated s measure pnew reference order vectors (luma_of f b) (u_of f b) (v_of f b) (luma_of g c) (u_of g c) (v_of g c)
        records indices bests planned referred enough

    module _ (asked : Bool) (output : List ℤ) (room : asked ≡ true → 2 * n ≤ length output) where
      pub finishing_done : finish_answer s.grid.x s.grid.y (take n named) (take (numbers_per_best * n) found) (made_of s).diagonal asked
          (length vectors) (length output) ≡ 0
      finishing_done =
          finished s measure pnew reference order vectors (luma_of f b) (u_of f b) (v_of f b) (luma_of g c) (u_of g c) (v_of g c)
          records indices bests planned referred enough asked output room

      -- and the vectors that finishing leaves are the pass's
      pub pass_done : finish_vectors s.grid.x s.grid.y (take n named) (take (numbers_per_best * n) found) (made_of s).diagonal asked
          vectors (length output) ≡ pass_vectors s q order vectors (luma_of f b) (u_of f b) (v_of f b) (luma_of g c) (u_of g c) (v_of g c)
      pass_done =
          vectors_are s measure pnew reference order vectors (luma_of f b) (u_of f b) (v_of f b) (luma_of g c) (u_of g c) (v_of g c)
          records indices bests planned referred enough asked output room
