-- What planes that pass the tests of 2 and 3 have: offsets in them can be worked out, and their rows end before byte 2^30. Assumes nothing.
use Rattle.std.specs.Prelude.{◌≡◌, refl, true, ℕ, ℤ, pos, ◌≤ℤ◌}
use Rattle.std.proofs.Common.{sym, subst, leb-true}
use Rattle.std.specs.Int.Signed.{le_z}
use Rattle.whole.specs.Signed.{signed}
use Rattle.whole.specs.Truth.{left_of, right_of, three_of, five_of}
use Rattle.limits.specs.Limits.{same, is_frame_side, shifted_by, is_length, greatest_length}
use Rattle.limits.specs.Ranges.{same_is, lies, shifted_least}
use Rattle.plane.specs.declared.Place.{Place}
use Rattle.plane.specs.Places.{limits_hold, last_end, keeps_length, Placed}
use Rattle.plane.specs.Offsets.{accepted_placed}
use Rattle.planes.specs.declared.Sides.{Sides}
use Rattle.planes.specs.declared.Planes.{Planes}
use Rattle.planes.specs.Planes.{chroma_holds, planes_hold, holds3}

-- a plane of this width and height: offsets in it can be worked out, and its last row ends before byte 2^30
pub record Lies (p : Place) (width height : ℤ) : Type 0 where
  pub placed : Placed p
  pub end : last_end p ≤ℤ pos 1073741823
  pub width_is : p.width ≡ width
  pub height_is : p.height ≡ height
  pub wide : pos 1 ≤ℤ width
  pub tall : pos 1 ≤ℤ height
  pub low : height ≤ℤ pos 16384

ends_in : (p : Place) (n : ℕ) → keeps_length p n ≡ true → last_end p ≤ℤ pos 1073741823
ends_in p n e =
    let short = leb-true n greatest_length (left_of (is_length n) (le_z (last_end p) (pos n)) e) in
    let end = right_of (is_length n) (le_z (last_end p) (pos n)) e in
    omega signed

pub lying : (p : Place) (n : ℕ) {width height : ℤ} → limits_hold p ≡ true → keeps_length p n ≡ true → p.width ≡ width → p.height ≡ height →
    pos 1 ≤ℤ width → pos 1 ≤ℤ height → height ≤ℤ pos 16384 → Lies p width height
lying p n {width} {height} limits kept w h wide tall low =
    record {
      placed = accepted_placed p n limits kept (subst (λ (z : ℤ). pos 1 ≤ℤ z) (sym w) wide) (subst (λ (z : ℤ). pos 1 ≤ℤ z) (sym h) tall)
          (subst (λ (z : ℤ). z ≤ℤ pos 16384) (sym h) low);
      end = ends_in p n kept;
      width_is = w;
      height_is = h;
      wide = wide;
      tall = tall;
      low = low;
    }

-- luma with the frame's sides, U and V with these sides shifted
pub record Three (p : Planes) (shift : Sides) : Type 0 where
  pub luma : Lies p.luma p.luma.width p.luma.height
  pub u : Lies p.u (shifted_by p.luma.width shift.x) (shifted_by p.luma.height shift.y)
  pub v : Lies p.v (shifted_by p.luma.width shift.x) (shifted_by p.luma.height shift.y)

pub three_lie : (p : Planes) (shift : Sides) (luma u v : ℕ) → is_frame_side p.luma.width ≡ true → is_frame_side p.luma.height ≡ true →
    planes_hold p shift ≡ true → holds3 p luma u v ≡ true → Three p shift
unfolding planes_hold chroma_holds holds3
three_lie p shift luma u v wide tall e f =
    let width = p.luma.width in
    let height = p.luma.height in
    let w = lies (pos 2) (pos 16384) width wide in
    let h = lies (pos 2) (pos 16384) height tall in
    let wide-least = w.0 in
    let tall-least = h.0 in
    let cw = shifted_by width shift.x in
    let ch = shifted_by height shift.y in
    let across = shifted_least width shift.x w.0 w.1 in
    let down = shifted_least height shift.y h.0 h.1 in
    let t = five_of (limits_hold p.luma) (limits_hold p.u) (limits_hold p.v) (chroma_holds p.luma shift p.u)
    (chroma_holds p.luma shift p.v) e in
    let kept = three_of (keeps_length p.luma luma) (keeps_length p.u u) (keeps_length p.v v) f in
    let chroma : (q : Place) (n : ℕ) → limits_hold q ≡ true → chroma_holds p.luma shift q ≡ true → keeps_length q n ≡ true → Lies q cw ch =
    λ q n limits sides length-kept.
    lying q n limits length-kept (same_is cw q.width (left_of (same cw q.width) (same ch q.height) sides))
    (same_is ch q.height (right_of (same cw q.width) (same ch q.height) sides)) across.0 down.0 down.1 in
    record {
      luma = lying p.luma luma t.0 kept.0 refl refl (omega signed) (omega signed) h.1;
      u = chroma p.u u t.1 t.3 kept.1;
      v = chroma p.v v t.2 t.4 kept.2;
    }
