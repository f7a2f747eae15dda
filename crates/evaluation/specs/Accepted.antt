-- What passing the tests says: the refusals leave all that a block's best asks. Assumes nothing.
use Rattle.std.specs.Prelude.{◌≡◌, true, false, ◌&&◌, List, ℕ, ◌*◌, ◌/◌, ◌≤◌, ◌<◌, eqb, leb, ℤ, pos, negsuc, length, ◌%◌}
use Rattle.std.proofs.Common.{◌∙◌, leb-true}
use Rattle.limits.specs.Sizes.{words_per_record, numbers_per_best}
use Rattle.limits.specs.Ranges.{radius_within, shift_within, same_is, lies}
use Rattle.whole.specs.Numbers.{lies_in, fits_i16}
use Rattle.whole.specs.Signed.{signed}
use Rattle.whole.specs.Truth.{left_of, right_of, three_of, four_of, five_of, six_of}
use Rattle.whole.specs.Interval.{Within, i16_within}
use Rattle.limits.specs.Limits.{same, is_block, is_frame_side, is_pel, are_shifts, radius_of}
use Rattle.limits.specs.Refused.{first_passed, each_fails, let_through}
use Rattle.records.specs.declared.Pair.{Pair}
use Rattle.records.specs.declared.Record.{Record}
use Rattle.records.specs.Packing.{pair_fits, pairs_fit}
use Rattle.window.specs.Windows.{is_wide}
use Rattle.plane.specs.declared.Place.{Place}
use Rattle.plane.specs.Places.{limits_hold, keeps_length, Placed}
use Rattle.choosing.specs.Bounds.{Ranged}
use Rattle.best.specs.declared.Task.{Task}
use Rattle.best.specs.Best.{choice_of}
use Rattle.best.specs.Fair.{Fair, Comparable}
use Rattle.best.specs.Sides.{narrowed}
use Rattle.record_slice.specs.RecordSlice.{record_at, any_wide}
use Rattle.planes.specs.Planes.{planes_hold, holds3}
use Rattle.planes.specs.Lying.{Lies, lying, three_lie}
use Rattle.evaluation.specs.declared.Request.{Request}
use Rattle.evaluation.specs.Refusals.{holds1, reference_holds, references_hold, holds2, has_room, refusal_of}
use Rattle.evaluation.specs.Evaluated.{task_of}
use Rattle.evaluation.specs.Asked.{Searched, FairAll}

-- ---- a window that refusal 7 lets through
record Parts (p : Pair) : Type 0 where
  first : Within 32768 32767 p.first
  second : Within 32768 32767 p.second

parts : (p : Pair) → pair_fits p ≡ true → Parts p
parts p e =
    record {
      first = i16_within p.first (left_of (fits_i16 p.first) (fits_i16 p.second) e);
      second = i16_within p.second (right_of (fits_i16 p.first) (fits_i16 p.second) e);
    }

-- the pairs of a record that was read fit 16 bits
pub ranged : (task : Task) (r : Record) → pairs_fit r ≡ true → Ranged (choice_of task r)
ranged task r pairs =
    let t = five_of (pair_fits r.pos) (pair_fits r.cpos) (pair_fits r.predictor) (pair_fits r.window_x) (pair_fits r.window_y) pairs in
    let p = parts r.predictor t.2 in
    let x = parts r.window_x t.3 in
    let y = parts r.window_y t.4 in
    record { x = p.first; y = p.second; least_x = x.first; greatest_x = x.second; least_y = y.first; greatest_y = y.second }

-- ---- the planes
-- a reference plane lies as the source's does
reference_placed : (pel : ℤ) (source reference : Place) (n : ℕ) {width height : ℤ} → Lies source width height → reference_holds pel source reference ≡ true →
    keeps_length reference n ≡ true → Placed reference
unfolding reference_holds
reference_placed pel source reference n s e kept =
    let t = four_of (limits_hold reference) (same source.width reference.width) (same source.height reference.height)
    (same pel reference.pel) e in
    (lying reference n t.0 kept (same_is source.width reference.width t.1 ∙ s.width_is)
    (same_is source.height reference.height t.2 ∙ s.height_is) s.wide s.tall s.low).placed

pub searched : (q : Request) → holds1 q ≡ true → Searched q
unfolding holds1
searched q e =
    let l = lies (negsuc 2) (pos 3) q.search_param (right_of (is_block q.block.x q.block.y) (lies_in (negsuc 2) (pos 3) q.search_param) e) in
    let low = l.0 in
    let high = l.1 in
    record { search = omega signed }

block_of : (q : Request) → holds1 q ≡ true → is_block q.block.x q.block.y ≡ true
unfolding holds1
block_of q e = left_of (is_block q.block.x q.block.y) (lies_in (negsuc 2) (pos 3) q.search_param) e

pub fair : (q : Request) (r : Record) (luma u v referenceLuma referenceU referenceV : ℕ) → holds1 q ≡ true → holds2 q ≡ true →
    holds3 q.source luma u v ≡ true → holds3 q.reference referenceLuma referenceU referenceV ≡ true →
    pairs_fit r ≡ true → is_wide (radius_of q.search_param) r ≡ false → Fair (task_of q) r
unfolding holds1 holds2 holds3 references_hold
fair q r luma u v referenceLuma referenceU referenceV e₁ e₂ e₃ e₄ pairs wide =
    let s = q.source in
    let g = q.reference in
    let t = six_of (is_pel q.pel) (are_shifts q.shift.x q.shift.y) (is_frame_side s.luma.width) (is_frame_side s.luma.height)
    (planes_hold s q.shift) (references_hold q.pel s g) e₂ in
    let m = three_of (reference_holds q.pel s.luma g.luma) (reference_holds q.pel s.u g.u) (reference_holds q.pel s.v g.v) t.5 in
    let l = three_of (keeps_length g.luma referenceLuma) (keeps_length g.u referenceU) (keeps_length g.v referenceV) e₄ in
    let own = three_lie s q.shift luma u v t.2 t.3 t.4 e₃ in
    record {
      block_in = block_of q e₁;
      shift_in = shift_within q.shift.x q.shift.y t.1;
      source_luma = own.luma.placed;
      source_u = own.u.placed;
      source_v = own.v.placed;
      reference_luma = reference_placed q.pel s.luma g.luma referenceLuma own.luma m.0 l.0;
      reference_u = reference_placed q.pel s.u g.u referenceU own.u m.1 l.1;
      reference_v = reference_placed q.pel s.v g.v referenceV own.v m.2 l.2;
      pairs = pairs;
      served = λ b. record {
        ranged = ranged (task_of q) r pairs;
        narrow = narrowed (task_of q) (radius_of q.search_param) r
            (radius_within (searched q e₁).search) wide b;
      };
    }

-- ---- the chain: 0 where every test holds
pub record Accepted (q : Request) (records : List ℤ) (bests : ℕ) : Type 0 where
  pub fair_all : FairAll (task_of q) records
  pub comparable : (i : ℕ) → i < length records / words_per_record → Comparable (task_of q) (record_at records i)
  pub room : numbers_per_best * (length records / words_per_record) ≤ bests

pub accepted : (q : Request) (records : List ℤ) (luma u v referenceLuma referenceU referenceV bests : ℕ) →
    refusal_of q records luma u v referenceLuma referenceU referenceV bests ≡ 0 → Accepted q records bests
unfolding refusal_of
accepted q records luma u v referenceLuma referenceU referenceV bests e =
    let n = length records / words_per_record in
    let own = holds3 q.source luma u v in
    let other = holds3 q.reference referenceLuma referenceU referenceV in
    let t₁ = let_through (holds1 q) 0 _ e in
    let t₂ = let_through (holds2 q) 1 _ t₁.1 in
    let t₃ = let_through (own && other) 2 _ t₂.1 in
    let t₅ = let_through (has_room (length records) bests) 4 _ t₃.1 in
    let t₇ = first_passed (any_wide (radius_of q.search_param) records n) 6 0 t₅.1 in
    let each : (i : ℕ) → i < n → is_wide (radius_of q.search_param) (record_at records i) ≡ false = λ i l.
    each_fails (λ j. is_wide (radius_of q.search_param) (record_at records j)) n i t₇.0 l in
    record {
      fair_all = λ i l pairs.
          fair q (record_at records i) luma u v referenceLuma referenceU referenceV t₁.0 t₂.0 (left_of own other t₃.0)
          (right_of own other t₃.0) pairs
          (each i l);
      comparable = λ i l. record {
        block_in = block_of q t₁.0;
        narrow = narrowed (task_of q) (radius_of q.search_param) (record_at records i) (radius_within (searched q t₁.0).search) (each i l);
      };
      room = leb-true (numbers_per_best * n) bests (right_of (eqb (length records % words_per_record) 0) (leb (numbers_per_best * n) bests) t₅.0);
    }
