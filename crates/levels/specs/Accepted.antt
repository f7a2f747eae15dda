-- What passing the tests says: a level that is not refused has planes that planning and evaluating take. Assumes nothing.
use Rattle.refusals.specs.Laws.{done_means}
use Rattle.std.specs.Prelude.{◌≡◌, Bool, ◌&&◌, ℤ, negsuc, ◌≤ℤ◌, Ok}
use Rattle.std.proofs.Math.Path.{refl, subst}
use Rattle.std.proofs.Common.{sym, ap, ◌∙◌, ⊎_elim, arith}
use Rattle.std.proofs.Math.Bool.{true, false, not, cond}
use Prim.Native.Nat.{ℕ, zero, suc, ◌≤◌, ◌<◌}
use Rattle.std.proofs.Math.IntN.{pos}
use Rattle.whole.specs.Numbers.{lies_in}
use Rattle.whole.specs.Signed.{signed, holds, lt_or_ge}
use Rattle.whole.specs.Truth.{left_of, right_of, both_of, three_of, five_of, lies_low, lies_high}
use Rattle.whole.specs.Interval.{Within}
use Rattle.limits.specs.Limits.{same, is_frame_side, is_pel, are_shifts, is_pitch, shifted_by}
use Rattle.limits.specs.Ranges.{lies, lies_of, same_is, same_of, shifted_order, shifted_natural}
use Rattle.limits.specs.Refused.{let_through}
use Rattle.plane.specs.declared.Place.{Place}
use Rattle.plane.specs.Places.{limits_hold}
use Rattle.planes.specs.declared.Sides.{Sides}
use Rattle.planes.specs.declared.Planes.{Planes}
use Rattle.planes.specs.Planes.{chroma_holds, planes_hold, holds3}
use Rattle.planes.specs.Lying.{Three, three_lie}
use Rattle.level_places.specs.declared.SuperFrame.{SuperFrame}
use Rattle.level_places.specs.Levels.{size_after, turns_of, plane_size, is_finest, from_source, level_pel, level_offset, cut_at, place_of, unshifted, planes_of}
use Rattle.level_places.specs.Sizes.{size_natural, never_grows, two_or_more, gone}
use Rattle.level_places.specs.Areas.{Packed}
use Rattle.level_places.specs.Asked.{Cuttable}
use Rattle.levels.specs.Refusals.{pitches_hold, raw_pitches_hold, holds2, has_sides, all_have_sides, holds9, lengths_kept, refusal_of, level_answer}
use Rattle.levels.specs.Asked.{BasesFit}

-- ---- pitches
-- a pitch that is wide enough for a plane is so for a narrower one
narrower : (width wider pitch : ℤ) → width ≤ℤ wider → is_pitch wider pitch ≡ true → is_pitch width pitch ≡ true
narrower width wider pitch h e = let l = lies wider (pos 65536) pitch e in let low = l.0 in lies_of {least = width} {z = pitch} (omega signed) l.1

pitch_within : (width pitch : ℤ) → pos 0 ≤ℤ width → is_pitch width pitch ≡ true → Within 0 65536 pitch
pitch_within width pitch h e = let low = lies_low width (pos 65536) pitch e in let high = lies_high width (pos 65536) pitch e in omega signed

-- ---- one raw plane, with its pitch and the separate source's, where 2 does not apply
module _ (f : SuperFrame) where
  pub record Raw (shift pitch source : ℤ) : Type 0 where
    pub packed : (n : ℕ) → Packed f n → is_pitch (shifted_by (size_after n f.frame.x) shift) pitch ≡ true
    pub apart : f.separate ≡ true → is_pitch (shifted_by f.frame.x shift) source ≡ true
    pub within : Within 0 65536 pitch

  pub record Raws : Type 0 where
    pub luma : Raw (pos 0) f.pitch.luma f.source_pitch.luma
    pub u : Raw f.shift.x f.pitch.u f.source_pitch.u
    pub v : Raw f.shift.x f.pitch.v f.source_pitch.v

  -- the widest level of a packed plane
  abbrev widest : Bool → ℕ
  widest true = 1
  widest false = 0

  module _ (natural : pos 0 ≤ℤ f.frame.x) where
    raw : (t : Bool) → f.separate ≡ t → (shift pitch source : ℤ) → is_pitch (shifted_by (size_after (widest t) f.frame.x) shift) pitch ≡ true →
        (t ≡ true → is_pitch (shifted_by f.frame.x shift) source ≡ true) → Raw shift pitch source
    raw t e shift pitch source held source-held =
        let width = f.frame.x in
        record {
          packed = λ n packed.
              let later : widest t ≤ n = first t e n packed in
              narrower (shifted_by (size_after n width) shift) (shifted_by (size_after (widest t) width) shift) pitch
              (shifted_order shift (never_grows width natural (widest t) n later)) held;
          apart = λ d. source-held (sym e ∙ d);
          within = pitch_within (shifted_by (size_after (widest t) width) shift) pitch (shifted_natural shift (size_natural width natural (widest t))) held;
        }
      where
        first : (t : Bool) → f.separate ≡ t → (n : ℕ) → Packed f n → widest t ≤ n
        first true e n packed = let some = packed e in omega arith
        first false e n packed = omega arith

    raws : (t : Bool) → f.separate ≡ t → pitches_hold (size_after (widest t) f.frame.x) f.shift f.pitch ≡ true →
        (t ≡ true → pitches_hold f.frame.x f.shift f.source_pitch ≡ true) → Raws
    unfolding pitches_hold
    raws t e held source-held =
        let chroma = shifted_by (size_after (widest t) f.frame.x) f.shift.x in
        let width = size_after (widest t) f.frame.x in
        let three = three_of (is_pitch width f.pitch.luma) (is_pitch chroma f.pitch.u) (is_pitch chroma f.pitch.v) held in
        let whole = shifted_by f.frame.x f.shift.x in
        let first = is_pitch f.frame.x f.source_pitch.luma in
        let second = is_pitch whole f.source_pitch.u in
        let third = is_pitch whole f.source_pitch.v in
        let apart : t ≡ true → (first ≡ true) × (second ≡ true) × (third ≡ true) = λ d. three_of first second third (source-held d) in
        record {
          luma = raw t e (pos 0) f.pitch.luma f.source_pitch.luma three.0 (λ d. (apart d).0);
          u = raw t e f.shift.x f.pitch.u f.source_pitch.u three.1 (λ d. (apart d).1);
          v = raw t e f.shift.x f.pitch.v f.source_pitch.v three.2 (λ d. (apart d).2);
        }

    pub all_raw : raw_pitches_hold f ≡ true → Raws
    unfolding raw_pitches_hold size_after
    all_raw held = by f.separate refl
      where
        by : (t : Bool) → f.separate ≡ t → Raws
        by true e =
            let both = rw e at held in
            let first = pitches_hold (size_after 1 f.frame.x) f.shift f.pitch in
            let second = pitches_hold f.frame.x f.shift f.source_pitch in
            raws true e (left_of first second both) (λ d. right_of first second both)
        by false e = raws false e (rw e at held) (λ d. absurd (holds d))

-- ---- a plane of a level: its sides are the level's, shifted, and 2 takes its pel and its pitch
pub record Sized (f : SuperFrame) (shift : Sides) (p : Place) : Type 0 where
  pub width_is : p.width ≡ shifted_by (plane_size f.frame.x f.level) shift.x
  pub height_is : p.height ≡ shifted_by (plane_size f.frame.y f.level) shift.y
  pub pel_is : p.pel ≡ level_pel f
  pub limits : limits_hold p ≡ true

pub record SizedThree (f : SuperFrame) (p : Planes) : Type 0 where
  pub luma : Sized f unshifted p.luma
  pub u : Sized f f.shift p.u
  pub v : Sized f f.shift p.v

-- ---- what 2 leaves, before any plane is cut
pub record Framed (f : SuperFrame) : Type 0 where
  pub width : is_frame_side f.frame.x ≡ true
  pub height : is_frame_side f.frame.y ≡ true
  pub pel : is_pel f.pel ≡ true
  pub shifts : are_shifts f.shift.x f.shift.y ≡ true
  pub pitches : raw_pitches_hold f ≡ true

module _ (f : SuperFrame) (two : holds2 f ≡ true) where
  pub framed : Framed f
  unfolding holds2
  framed =
      let t = five_of (is_frame_side f.frame.x) (is_frame_side f.frame.y) (is_pel f.pel) (are_shifts f.shift.x f.shift.y) (raw_pitches_hold f) two in
      record { width = t.0; height = t.1; pel = t.2; shifts = t.3; pitches = t.4 }

  side_natural : (z : ℤ) → is_frame_side z ≡ true → pos 0 ≤ℤ z
  side_natural z e = let low = (lies (pos 2) (pos 16384) z e).0 in omega signed

  pub natural_width : pos 0 ≤ℤ f.frame.x
  natural_width = side_natural f.frame.x framed.width

  pub natural_height : pos 0 ≤ℤ f.frame.y
  natural_height = side_natural f.frame.y framed.height

  pub pel_holds : is_pel (level_pel f) ≡ true
  pel_holds = by (is_finest f)
    where
      by : (t : Bool) → is_pel (cond t f.pel (pos 1)) ≡ true
      by true = framed.pel
      by false = refl

  pub raw_planes : Raws f
  raw_planes = all_raw f natural_width framed.pitches

  module _ (ranged : lies_in (pos 0) (pos 15) f.level ≡ true) where
    pub level_within : Within 0 15 f.level
    level_within = let l = lies (pos 0) (pos 15) f.level ranged in let low = l.0 in let high = l.1 in omega signed

    pub cuttable : Cuttable f
    cuttable =
        let h = lies (pos 2) (pos 16384) f.frame.y framed.height in
        let low = h.0 in
        let high = h.1 in
        record {
          rowed = record { height_in = omega signed; pel_in = framed.pel; level_in = level_within };
          luma_in = raw_planes.luma.within;
          u_in = raw_planes.u.within;
          v_in = raw_planes.v.within;
        }

    -- ---- the level's number: 0, or some level that is packed
    finest_turns : is_finest f ≡ true → turns_of f.level ≡ 0
    finest_turns e = ap turns_of (same_is (pos 0) f.level e)

    later_turns : is_finest f ≡ false → 0 < turns_of f.level
    later_turns e = by f.level level_within e
      where
        by : (z : ℤ) → Within 0 15 z → same (pos 0) z ≡ false → 0 < turns_of z
        by (pos zero) w d = absurd (holds (sym d))
        by (pos (suc n)) w d = omega arith
        by (negsuc n) w d = let low = w.low in absurd (omega arith)

    packed_there : from_source f ≡ false → Packed f (turns_of f.level)
    packed_there e separate = later_turns (by f.separate separate e)
      where
        by : (t : Bool) → t ≡ true → (t && is_finest f) ≡ false → is_finest f ≡ false
        by true d k = k
        by false d k = absurd (holds d)

    -- ---- one of the three planes
    module _ (shift : Sides) (pitch source : ℤ) (raw : Raw f shift.x pitch source) where
      abbrev place : Place
      place = place_of f shift pitch source

      either_cut : (Q : Place → Type 0) → (from_source f ≡ true → Q (cut_at f shift 0 source)) →
          (from_source f ≡ false → Q (cut_at f shift (level_offset f f.level pitch shift.y) pitch)) → Q place
      unfolding place_of
      either_cut Q one other = by (from_source f) refl
        where
          by : (t : Bool) → from_source f ≡ t → Q (cond t (cut_at f shift 0 source) (cut_at f shift (level_offset f f.level pitch shift.y) pitch))
          by true e = one e
          by false e = other e

      width_is : place.width ≡ shifted_by (plane_size f.frame.x f.level) shift.x
      unfolding cut_at
      width_is = either_cut (λ p. p.width ≡ shifted_by (plane_size f.frame.x f.level) shift.x) (λ e. refl) (λ e. refl)

      height_is : place.height ≡ shifted_by (plane_size f.frame.y f.level) shift.y
      unfolding cut_at
      height_is = either_cut (λ p. p.height ≡ shifted_by (plane_size f.frame.y f.level) shift.y) (λ e. refl) (λ e. refl)

      pel_is : place.pel ≡ level_pel f
      unfolding cut_at
      pel_is = either_cut (λ p. p.pel ≡ level_pel f) (λ e. refl) (λ e. refl)

      pub pitch_holds : is_pitch place.width place.pitch ≡ true
      unfolding cut_at size_after
      pitch_holds =
          either_cut (λ p. is_pitch p.width p.pitch ≡ true)
          (λ e.
          let zero-turns = finest_turns (right_of f.separate (is_finest f) e) in
          subst (λ (n : ℕ). is_pitch (shifted_by (size_after n f.frame.x) shift.x) source ≡ true) (sym zero-turns)
          (raw.apart (left_of f.separate (is_finest f) e)))
          (λ e. raw.packed (turns_of f.level) (packed_there e))

      pub sized : Sized f shift place
      sized =
          let pel : is_pel place.pel ≡ true = rw pel_is pel_holds in
          record { width_is = width_is; height_is = height_is; pel_is = pel_is; limits = both_of pel pitch_holds }

    -- ---- the three of them
    abbrev planes : Planes
    planes = planes_of f

    pub all_sized : SizedThree f planes
    unfolding planes_of
    all_sized =
        record {
          luma = sized unshifted f.pitch.luma f.source_pitch.luma raw_planes.luma;
          u = sized f.shift f.pitch.u f.source_pitch.u raw_planes.u;
          v = sized f.shift f.pitch.v f.source_pitch.v raw_planes.v;
        }

    -- ---- where 9 does not apply
    module _ (sided : all_have_sides (planes_of f) ≡ true) where
      some_side : (z : ℤ) → not (same (pos 0) z) ≡ true → z ≡ pos 0 → ⊥
      some_side z e d = let none : not (same (pos 0) (pos 0)) ≡ true = subst (λ (y : ℤ). not (same (pos 0) y) ≡ true) d e in holds none

      -- a side that has not come to 0 is a frame's
      frame_side : (z : ℤ) → is_frame_side z ≡ true → (n : ℕ) → (size_after n z ≡ pos 0 → ⊥) → is_frame_side (size_after n z) ≡ true
      unfolding size_after
      frame_side z e zero some = e
      frame_side z e (suc n) some =
          let high = (lies (pos 2) (pos 16384) z e).1 in
          let least = two_or_more n z (side_natural z e) some in
          let falls = never_grows z (side_natural z e) 0 (suc n) (omega arith) in
          lies_of {greatest = pos 16384} {z = size_after (suc n) z} least (omega signed)

      luma_sides : (not (same (pos 0) planes.luma.width) ≡ true) × (not (same (pos 0) planes.luma.height) ≡ true)
      unfolding all_have_sides has_sides
      luma_sides =
          let first = (three_of (has_sides planes.luma) (has_sides planes.u) (has_sides planes.v) sided).0 in
          let across = not (same (pos 0) planes.luma.width) in
          let down = not (same (pos 0) planes.luma.height) in
          (left_of across down first, right_of across down first)

      pub wide : is_frame_side planes.luma.width ≡ true
      wide =
          let e = all_sized.luma.width_is in
          rw e (frame_side f.frame.x framed.width (turns_of f.level) (λ d. some_side planes.luma.width luma_sides.0 (e ∙ d)))

      pub tall : is_frame_side planes.luma.height ≡ true
      tall =
          let e = all_sized.luma.height_is in
          rw e (frame_side f.frame.y framed.height (turns_of f.level) (λ d. some_side planes.luma.height luma_sides.1 (e ∙ d)))

      -- so levels 14 and 15 are never cut
      pub level_most : turns_of f.level ≤ 13
      level_most =
          let e = all_sized.luma.width_is in
          let low = lies (pos 2) (pos 16384) f.frame.x framed.width in
          ⊎_elim
          (λ (early : turns_of f.level < 14). omega arith)
          (λ late. absurd (some_side planes.luma.width luma_sides.0 (e ∙ gone f.frame.x natural_width low.1 (turns_of f.level) late)))
          (lt_or_ge (turns_of f.level) 14)

    chroma_holds_lem : {p : Place} → Sized f f.shift p → chroma_holds planes.luma f.shift p ≡ true
    unfolding chroma_holds
    chroma_holds_lem k =
        rw (all_sized.luma.width_is, all_sized.luma.height_is, k.width_is, k.height_is)
        (both_of (same_of {x = shifted_by (plane_size f.frame.x f.level) f.shift.x} refl)
        (same_of {x = shifted_by (plane_size f.frame.y f.level) f.shift.y} refl))

    pub planes_hold_lem : planes_hold planes f.shift ≡ true
    unfolding planes_hold
    planes_hold_lem =
        let k = all_sized in
        both_of (both_of (both_of (both_of k.luma.limits k.u.limits) k.v.limits) (chroma_holds_lem k.u)) (chroma_holds_lem k.v)

-- ---- an answer that is not refused
module _ (f : SuperFrame) (luma u v source_luma source_u source_v : ℕ) where
  pub record Accepted : Type 0 where
    pub two : holds2 f ≡ true
    pub ranged : lies_in (pos 0) (pos 15) f.level ≡ true
    pub sided : all_have_sides (planes_of f) ≡ true
    pub kept : lengths_kept f luma u v source_luma source_u source_v (planes_of f) ≡ true

  pub accepted : refusal_of f luma u v source_luma source_u source_v ≡ 0 → Accepted
  unfolding refusal_of
  accepted e =
      let t₂ = let_through (holds2 f) 1 _ e in
      let t₉ = let_through (holds9 f) 8 _ t₂.1 in
      let t₃ = let_through (lengths_kept f luma u v source_luma source_u source_v (planes_of f)) 2 _ t₉.1 in
      record {
        two = t₂.0;
        ranged = left_of (lies_in (pos 0) (pos 15) f.level) (all_have_sides (planes_of f)) t₉.0;
        sided = right_of (lies_in (pos 0) (pos 15) f.level) (all_have_sides (planes_of f)) t₉.0;
        kept = t₃.0;
      }

  -- three planes are answered where no number applies, and they are the level's
  pub cut_means : {planes : Planes} → level_answer f luma u v source_luma source_u source_v ≡ Ok planes → Accepted × (planes ≡ planes_of f)
  unfolding level_answer
  cut_means e = let both = done_means (refusal_of f luma u v source_luma source_u source_v) e in (accepted both.0, both.1)

  -- 3 does not refuse them with the bytes that they are cut from
  pub kept_by : Accepted → (Q : Type 0) → (from_source f ≡ true → holds3 (planes_of f) source_luma source_u source_v ≡ true → Q) →
      (from_source f ≡ false → holds3 (planes_of f) luma u v ≡ true → Q) → Q
  unfolding lengths_kept
  kept_by k Q one other = by (from_source f) refl k.kept
    where
      by : (t : Bool) → from_source f ≡ t → cond t (holds3 (planes_of f) source_luma source_u source_v) (holds3 (planes_of f) luma u v) ≡ true → Q
      by true e = one e
      by false e = other e

  -- so offsets in them can be worked out
  pub three : Accepted → Three (planes_of f) f.shift
  three k = kept_by k (Three (planes_of f) f.shift) (λ e. of source_luma source_u source_v) (λ e. of luma u v)
    where
      of : (a b c : ℕ) → holds3 (planes_of f) a b c ≡ true → Three (planes_of f) f.shift
      of a b c =
          three_lie (planes_of f) f.shift a b c (wide f k.two k.ranged k.sided) (tall f k.two k.ranged k.sided)
          (planes_hold_lem f k.two k.ranged)

  pub bases_fit : Accepted → BasesFit (planes_of f)
  bases_fit k = let t = three k in record { luma = t.luma.placed.base_in; u = t.u.placed.base_in; v = t.v.placed.base_in }
