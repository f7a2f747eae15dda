-- That a block of the grid lies inside the frame, and the places of its samples inside the planes: what the refusals leave is all that a block's plan asks.
-- Assumes nothing.
use Rattle.std.specs.Prelude.{◌≡◌, Bool, true, cond, ◌+◌, ◌*◌, ◌≤◌, ◌<◌, ℤ, pos, negsuc, ◌+ℤ◌, ◌-ℤ◌, ◌*ℤ◌, ◌≤ℤ◌, ◌<ℤ◌}
use Rattle.std.proofs.Math.Path.{refl, subst}
use Rattle.std.proofs.Common.{sym, mul-le-mul_right, add-mul, lit<}
use Rattle.std.proofs.Math.Bool.{false}
use Rattle.std.specs.Int.Signed.{lt_z, shr_z}
use Rattle.limits.specs.Ranges.{radius_within}
use Rattle.whole.specs.Numbers.{lesser_of, greater_of}
use Rattle.whole.specs.Signed.{P, N, signed, add_is, diff_is, times_is}
use Rattle.whole.specs.Floor.{floor_low, floor_high}
use Rattle.whole.specs.Interval.{Within}
use Rattle.limits.specs.Limits.{shifted_by, radius_of}
use Rattle.plane.specs.declared.Place.{Place}
use Rattle.axis.specs.declared.Axis.{Axis}
use Rattle.axis.specs.Axis.{excess_of, place_of}
use Rattle.axis.specs.Bounds.{Bounded}
use Rattle.block.specs.declared.Settings.{Settings}
use Rattle.block.specs.declared.Block.{Block}
use Rattle.block.specs.Shapes.{origin_of, side_of, axis_of, negative_of, shape_of, chroma_place, spot_of}
use Rattle.block.specs.Asked.{Addressed, Shaped, SpotHeld, Along, Ready}
use Rattle.planes.specs.Lying.{Lies}

-- ---- one axis: from `at` for `side` lies inside the frame
pub record Inside (frame at side : ℤ) : Type 0 where
  pub from : pos 0 ≤ℤ at
  pub to : (at +ℤ side) ≤ℤ frame
  pub side_least : pos 4 ≤ℤ side
  pub side_most : side ≤ℤ pos 16
  pub frame_most : frame ≤ℤ pos 16384

-- a quotient rounded down lies within the divisor of what is divided
halved : (z : ℤ) → (P (shr_z z 2) * 2 + N z ≤ P z + N (shr_z z 2) * 2) × (P z + N (shr_z z 2) * 2 < P (shr_z z 2) * 2 + N z + 2)
halved z = (floor_low (lit< tt) z, floor_high (lit< tt) z)

quartered : (z : ℤ) → (P (shr_z z 4) * 4 + N z ≤ P z + N (shr_z z 4) * 4) × (P z + N (shr_z z 4) * 4 < P (shr_z z 4) * 4 + N z + 4)
quartered z = (floor_low (lit< tt) z, floor_high (lit< tt) z)

-- a place below a count is at most the last one, and so it stays times a step: a block's column, a sample's row
steps_upto : (place count step : ℤ) → pos 0 ≤ℤ place → place <ℤ count → pos 0 ≤ℤ step →
    (pos 0 ≤ℤ (place *ℤ step)) × ((place *ℤ step) ≤ℤ ((count -ℤ pos 1) *ℤ step))
steps_upto (pos b) count (pos s) p q r =
    let h : b + N (count -ℤ pos 1) ≤ P (count -ℤ pos 1) = omega (signed, diff_is count (pos 1)) in
    (omega signed, omega (signed, times_is (count -ℤ pos 1) s, mul-le-mul_right s h, add-mul b (N (count -ℤ pos 1)) s))
steps_upto (pos b) count (negsuc s) p q r = absurd (omega signed)
steps_upto (negsuc b) count step p q r = absurd (omega signed)

pub origin_inside : {count step side frame place : ℤ} → Along count step side frame place → (negative : Bool) →
    Inside frame (origin_of step side place negative) (side_of side negative)
origin_inside {count} {step} {side} {frame} {place} k true =
    let m = steps_upto place count step k.first k.last (omega signed) in
    let u = place *ℤ step in
    let e = add_is ((count -ℤ pos 1) *ℤ step) side in
    record {
      from = omega (signed, add_is u (shr_z side 4), quartered side);
      to = omega (signed, e, add_is u (shr_z side 4), add_is (u +ℤ shr_z side 4) (shr_z side 2), quartered side, halved side);
      side_least = omega (signed, halved side);
      side_most = omega (signed, halved side);
      frame_most = k.frame_most;
    }
origin_inside {count} {step} {side} {frame} {place} k false =
    let m = steps_upto place count step k.first k.last (omega signed) in
    record {
      from = m.0;
      to = omega (signed, add_is ((count -ℤ pos 1) *ℤ step) side, add_is (place *ℤ step) side);
      side_least = omega signed;
      side_most = k.side_most;
      frame_most = k.frame_most;
    }

-- ---- the place stays inside
by_test : (t : Bool) (x y : ℤ) (Q : ℤ → Type 0) → (t ≡ true → Q x) → (t ≡ false → Q y) → Q (cond t x y)
by_test true x y Q f g = f refl
by_test false x y Q f g = g refl

clamped_inside : {frame at side : ℤ} (z : ℤ) → Inside frame at side → Inside frame (lesser_of (greater_of z (pos 0)) (frame -ℤ side)) side
clamped_inside {frame} {at} {side} z k =
    let raised = greater_of z (pos 0) in
    let t = add_is at side in
    let d = diff_is frame side in
    let up : pos 0 ≤ℤ raised = by_test (lt_z z (pos 0)) (pos 0) z (λ y. pos 0 ≤ℤ y) (λ w. omega signed) (λ w. omega signed) in
    by_test (lt_z raised (frame -ℤ side)) raised (frame -ℤ side) (λ y. Inside frame y side)
    (λ w. record { from = up; to = omega (signed, d, add_is raised side); side_least = k.side_least; side_most = k.side_most; frame_most = k.frame_most })
    (λ w. record {
      from = omega (signed, d, t);
      to = omega (signed, d, add_is (frame -ℤ side) side);
      side_least = k.side_least;
      side_most = k.side_most;
      frame_most = k.frame_most;
    })

abbrev Stands : Axis → Type 0
Stands a = Inside a.frame a.origin a.side

pub place_inside : (a : Axis) → Stands a → (moves : Bool) → Inside a.frame (place_of moves a) a.side
unfolding place_of
place_inside a k true = clamped_inside (a.origin -ℤ excess_of a) k
place_inside a k false = k

-- ---- a place before a side's end, in luma and in chroma
pub record Before (size at : ℤ) : Type 0 where
  pub from : pos 0 ≤ℤ at
  pub to : at <ℤ size

pub inside_before : {frame at side : ℤ} → Inside frame at side → Before frame at
inside_before {frame} {at} {side} k = record { from = k.from; to = omega (signed, add_is at side) }

pub chroma_before : {frame at side place : ℤ} (s : ℤ) → Inside frame at side → Inside frame place side → pos 8 ≤ℤ side →
    Before (shifted_by frame s) (chroma_place at place s)
unfolding chroma_place
chroma_before {frame} {at} {side} {place} s k j l =
    by (lt_z s (pos 1))
  where
    by : (t : Bool) → Before (cond t frame (shr_z frame 2)) (cond t at (shr_z at 2) -ℤ cond t (at -ℤ place) (shr_z (at -ℤ place) 2))
    by true =
        let d = diff_is at place in
        let e = diff_is at (at -ℤ place) in
        record { from = omega (signed, d, e); to = omega (signed, d, e, add_is place side) }
    by false =
        let d = diff_is at place in
        let e = diff_is (shr_z at 2) (shr_z (at -ℤ place) 2) in
        record {
          from = omega (signed, d, e, halved at, halved (at -ℤ place));
          to = omega (signed, d, e, add_is place side, halved at, halved (at -ℤ place), halved frame);
        }

-- ---- such a place has an offset in the plane's data
pub addressed : {p : Place} {width height x y : ℤ} → Lies p width height → Before width x → Before height y → Addressed p x y
addressed {p} {width} {height} {x} {y} k a b =
    let high : Before p.height y = subst (λ (z : ℤ). Before z y) (sym k.height_is) b in
    let wide : Before p.width x = subst (λ (z : ℤ). Before z x) (sym k.width_is) a in
    let pitch = k.placed.pitch_in in
    let low = pitch.low in
    let m = steps_upto y p.height p.pitch high.from high.to (omega signed) in
    let rows = (p.height -ℤ pos 1) *ℤ p.pitch in
    let row = y *ℤ p.pitch in
    let base = pos p.base in
    let end = k.end in
    record { placed = k.placed; offset_in = omega (signed, add_is base row, add_is (base +ℤ row) x, add_is base rows, add_is (base +ℤ rows) p.width) }

-- ---- a shape
module _ {s : Settings} {b : Block} (k : Ready s b) where
  pub shaped : Shaped s b
  shaped =
      let x = k.across in
      let y = k.down in
      record {
        grid_x = omega signed;
        grid_y = omega signed;
        search = k.search;
        step_x = omega signed;
        step_y = omega signed;
        side_x = omega signed;
        side_y = omega signed;
        x = omega signed;
        y = omega signed;
      }

  pub across_inside : Stands (shape_of s b).across
  unfolding shape_of axis_of
  across_inside = origin_inside k.across (negative_of s.level s.grid b)

  pub down_inside : Stands (shape_of s b).down
  unfolding shape_of axis_of
  down_inside = origin_inside k.down (negative_of s.level s.grid b)

  bounded_by : {a : Axis} → Stands a → a.pel ≡ s.level.pel → Within 32768 32767 a.predictor → a.radius ≡ radius_of s.search.search_param → Bounded a
  bounded_by {a} i e w f =
      let t = add_is a.origin a.side in
      let from = i.from in
      let to = i.to in
      let least = i.side_least in
      let most = i.side_most in
      let long = i.frame_most in
      record {
        pel = subst (Within 4 4) (sym e) k.pel;
        frame = omega (signed, t);
        origin = omega (signed, t);
        side = omega signed;
        predictor = w;
        radius = subst (Within 0 3) (sym f) (radius_within k.search);
      }

  pub across_bounded : Bounded (shape_of s b).across
  unfolding shape_of axis_of
  across_bounded = bounded_by across_inside refl k.px refl

  pub down_bounded : Bounded (shape_of s b).down
  unfolding shape_of axis_of
  down_bounded = bounded_by down_inside refl k.py refl

  -- a plain block keeps its sides of 8 or 16
  across_plain : (shape_of s b).negative ≡ false → pos 8 ≤ℤ (shape_of s b).across.side
  unfolding shape_of axis_of
  across_plain e = let q = k.across.side_least in rw e q

  down_plain : (shape_of s b).negative ≡ false → pos 8 ≤ℤ (shape_of s b).down.side
  unfolding shape_of axis_of
  down_plain e = let q = k.down.side_least in rw e q

  frame_across : (shape_of s b).across.frame ≡ s.planes.luma.width
  unfolding shape_of axis_of
  frame_across = refl

  frame_down : (shape_of s b).down.frame ≡ s.planes.luma.height
  unfolding shape_of axis_of
  frame_down = refl

  -- the spot, moved or not, lies in every plane
  pub spot_held : (moves : Bool) → SpotHeld s.planes (shape_of s b).negative (spot_of s.shift moves (shape_of s b))
  unfolding spot_of
  spot_held moves =
      let x = subst (λ (z : ℤ). Before z (place_of moves (shape_of s b).across)) frame_across
      (inside_before (place_inside (shape_of s b).across across_inside moves)) in
      let y = subst (λ (z : ℤ). Before z (place_of moves (shape_of s b).down)) frame_down
      (inside_before (place_inside (shape_of s b).down down_inside moves)) in
      let cx : (shape_of s b).negative ≡ false → Before (shifted_by s.planes.luma.width s.shift.x)
      (chroma_place (shape_of s b).across.origin (place_of moves (shape_of s b).across) s.shift.x) =
      λ e. subst (λ (z : ℤ). Before (shifted_by z s.shift.x) (chroma_place (shape_of s b).across.origin (place_of moves (shape_of s b).across)
      s.shift.x)) frame_across
      (chroma_before s.shift.x across_inside (place_inside (shape_of s b).across across_inside moves) (across_plain e)) in
      let cy : (shape_of s b).negative ≡ false → Before (shifted_by s.planes.luma.height s.shift.y)
      (chroma_place (shape_of s b).down.origin (place_of moves (shape_of s b).down) s.shift.y) =
      λ e. subst (λ (z : ℤ). Before (shifted_by z s.shift.y) (chroma_place (shape_of s b).down.origin (place_of moves (shape_of s b).down)
      s.shift.y)) frame_down
      (chroma_before s.shift.y down_inside (place_inside (shape_of s b).down down_inside moves) (down_plain e)) in
      record {
        luma = addressed k.luma x y;
        u = λ e. addressed k.u (cx e) (cy e);
        v = λ e. addressed k.v (cx e) (cy e);
      }

  pub origin_addressed : Addressed s.planes.luma (shape_of s b).across.origin (shape_of s b).down.origin
  origin_addressed =
      addressed k.luma
      (subst (λ (z : ℤ). Before z (shape_of s b).across.origin) frame_across (inside_before across_inside))
      (subst (λ (z : ℤ). Before z (shape_of s b).down.origin) frame_down (inside_before down_inside))
