-- 02, "One": "Areas of two levels of the same packed plane share no row where their rows fit the buffer." Here of two calls that were not refused, on one frame
-- and the same bytes: no byte is in both levels' areas, and no sample inside the one is a sample inside the other. Both levels are packed: level 0 of a frame
-- whose source lies apart is in bytes of its own. Assumes nothing.
use Rattle.std.specs.Prelude.{◌≡◌, refl, ℕ, ◌*◌, ◌<◌, ℤ, pos, negsuc, nat_abs, length, ◌≤ℤ◌, Ok}
use Rattle.std.proofs.Common.{sym, ap, subst, ◌∙◌, arith}
use Rattle.whole.specs.Signed.{signed}
use Rattle.whole.specs.Truth.{lies_low}
use Rattle.limits.specs.Ranges.{at_each_pel, pel_within}
use Rattle.plane.specs.declared.Place.{Place}
use Rattle.plane.specs.Places.{subpel_of}
use Rattle.planes.specs.declared.Sides.{Sides}
use Rattle.planes.specs.declared.Planes.{Planes}
use Rattle.planes.specs.Lying.{Lies, Three}
use Rattle.level_places.specs.declared.SuperFrame.{SuperFrame}
use Rattle.level_places.specs.Levels.{place_of, unshifted, planes_of}
use Rattle.level_places.specs.Areas.{at_level, Packed, Covers}
use Rattle.level_places.specs.Apart.{packed_lies, no_byte_shared}
use Rattle.level_places.specs.Sampled.{sample_covered}
use Rattle.levels.specs.Accepted.{Raw, Accepted, cut_means, raw_planes, pitch_holds, three}
use Rattle.level_laws.specs.Asked.{Bytes, answer_of}

-- two planes that share no byte
abbrev pub Apart : Place → Place → Type 0
Apart p q = (byte : ℕ) → Covers p byte → Covers q byte → ⊥

-- what holds of luma and luma, U and U, V and V
pub record Each (Holds : Place → Place → Type 0) (p q : Planes) : Type 0 where
  pub luma : Holds p.luma q.luma
  pub u : Holds p.u q.u
  pub v : Holds p.v q.v

-- ---- a packed level's plane is no wider than its pitch
module _ (f : SuperFrame) (b : Bytes) where
  abbrev AcceptedAt : ℕ → Type 0
  AcceptedAt n = Accepted (at_level f n) (length b.luma) (length b.u) (length b.v) (length b.source_luma) (length b.source_u) (length b.source_v)

  wide : (n : ℕ) (k : AcceptedAt n) (shift : Sides) (pitch source : ℤ) → Raw (at_level f n) shift.x pitch source → Packed f n →
      (place_of (at_level f n) shift pitch source).width ≤ℤ pitch
  wide n k shift pitch source raw packed =
      let p = place_of (at_level f n) shift pitch source in
      let held = lies_low p.width (pos 65536) p.pitch (pitch_holds (at_level f n) k.two k.ranged shift pitch source raw) in
      subst (λ (z : ℤ). p.width ≤ℤ z) (packed_lies f shift pitch n source packed).pitch_is (omega signed)

  module _ (l m : ℕ) (k-l : AcceptedAt l) (k-m : AcceptedAt m) (packed-l : Packed f l) (packed-m : Packed f m) (other : l ≡ m → ⊥) where
    plane_apart : (shift : Sides) (pitch source : ℤ) → Raw (at_level f l) shift.x pitch source → Raw (at_level f m) shift.x pitch source →
        Apart (place_of (at_level f l) shift pitch source) (place_of (at_level f m) shift pitch source)
    plane_apart shift pitch source raw-l raw-m byte =
        no_byte_shared f shift pitch l m byte packed-l packed-m other
        (packed_lies f shift pitch l source packed-l) (packed_lies f shift pitch m source packed-m)
        (wide l k-l shift pitch source raw-l packed-l) (wide m k-m shift pitch source raw-m packed-m)

    planes_apart : Each Apart (planes_of (at_level f l)) (planes_of (at_level f m))
    unfolding planes_of
    planes_apart =
        let at-l = raw_planes (at_level f l) k-l.two in
        let at-m = raw_planes (at_level f m) k-m.two in
        record {
          luma = plane_apart unshifted f.pitch.luma f.source_pitch.luma at-l.luma at-m.luma;
          u = plane_apart f.shift f.pitch.u f.source_pitch.u at-l.u at-m.u;
          v = plane_apart f.shift f.pitch.v f.source_pitch.v at-l.v at-m.v;
        }

-- ---- samples
-- a place in pel steps that lies inside a plane
pub record InPlane (p : Place) (x y : ℕ) : Type 0 where
  pub across : x < nat_abs p.pel * nat_abs p.width
  pub down : y < nat_abs p.pel * nat_abs p.height

abbrev pub SamplesApart : Place → Place → Type 0
SamplesApart p q = (x y x' y' : ℕ) → InPlane p x y → InPlane q x' y' → subpel_of p (pos x) (pos y) ≡ subpel_of q (pos x') (pos y') → ⊥

natural : (z : ℤ) → pos 0 ≤ℤ z → z ≡ pos (nat_abs z)
natural (pos n) h = refl
natural (negsuc n) h = absurd (omega signed)

inside_covered : {p : Place} {width height : ℤ} → Lies p width height → (x y : ℕ) → InPlane p x y →
    (byte : ℕ) × ((subpel_of p (pos x) (pos y) ≡ pos byte) × Covers p byte)
inside_covered {p} {width} {height} lies x y inside =
    let pel_in = pel_within p.pel lies.placed.pel_in in
    let pel-low = pel_in.low in
    let pitch-low = lies.placed.pitch_in.low in
    let w = lies.width_is in
    let h = lies.height_is in
    let wide = lies.wide in
    let tall = lies.tall in
    sample_covered p (at_each_pel (λ (z : ℤ). 0 < nat_abs z) (omega arith) (omega arith) (omega arith) p.pel lies.placed.pel_in)
    (natural p.pel (omega signed)) (natural p.pitch (omega signed)) (natural p.width (omega signed)) (natural p.height (omega signed)) x y
    inside.across inside.down

samples_apart : {p q : Place} {w h w' h' : ℤ} → Lies p w h → Lies q w' h' → Apart p q → SamplesApart p q
samples_apart {p} {q} lies-p lies-q apart x y x' y' in_p in-q same =
    let a = inside_covered lies-p x y in_p in
    let b = inside_covered lies-q x' y' in-q in
    let equal : a.0 ≡ b.0 = ap nat_abs (sym a.1.0 ∙ same ∙ b.1.0) in
    apart b.0 (subst (Covers p) equal a.1.1) b.1.1

-- ---- of two answers
cut_three : (f : SuperFrame) (b : Bytes) (n : ℕ) {planes : Planes} → answer_of (at_level f n) b ≡ Ok planes → Three planes f.shift
cut_three f b n e =
    let means = cut_means (at_level f n) _ _ _ _ _ _ e in
    rw means.1 (three (at_level f n) _ _ _ _ _ _ means.0)

module _ (f : SuperFrame) (b : Bytes) (l m : ℕ) {p q : Planes} (first : answer_of (at_level f l) b ≡ Ok p) (second : answer_of (at_level f m) b ≡ Ok q)
    (packed-l : Packed f l) (packed-m : Packed f m) (other : l ≡ m → ⊥) where
  pub levels_apart : Each Apart p q
  levels_apart =
      let at-l = cut_means (at_level f l) _ _ _ _ _ _ first in
      let at-m = cut_means (at_level f m) _ _ _ _ _ _ second in
      rw (at-l.1, at-m.1) (planes_apart f b l m at-l.0 at-m.0 packed-l packed-m other)

  -- no sample of the one is a sample of the other: x and y count in pel steps from a plane's own corner, and stay inside it
  pub samples_lie_apart : Each SamplesApart p q
  samples_lie_apart =
      let a = cut_three f b l first in
      let c = cut_three f b m second in
      record {
        luma = samples_apart a.luma c.luma levels_apart.luma;
        u = samples_apart a.u c.u levels_apart.u;
        v = samples_apart a.v c.v levels_apart.v;
      }
