-- How large the numbers of a block's plan grow. Assumes nothing.
use Rattle.std.specs.Prelude.{◌≡◌, refl, Bool, true, false, cond, ◌≤◌, ℤ, pos, ◌-ℤ◌}
use Rattle.std.proofs.Common.{arith}
use Rattle.std.specs.Int.Signed.{lt_z}
use Rattle.whole.specs.Numbers.{lesser_of, greater_of}
use Rattle.whole.specs.Signed.{P, N, signed}
use Rattle.whole.specs.Interval.{Within, within_more, within_either, within_sub}
use Rattle.limits.specs.Ranges.{within_shifted}
use Rattle.axis.specs.declared.Axis.{Axis}
use Rattle.axis.specs.Axis.{excess_of, place_of}
use Rattle.axis.specs.Bounds.{Bounded}
use Rattle.planes.specs.declared.Sides.{Sides}
use Rattle.block.specs.declared.Shape.{Shape}
use Rattle.block.specs.Shapes.{chroma_place, spot_of}
use Rattle.block.specs.Asked.{Held}

-- a place is clamped between 0 and what the frame leaves
module _ {a : Axis} (b : Bounded a) where
  clamped : (z : ℤ) → Within 16384 16384 (lesser_of (greater_of z (pos 0)) (a.frame -ℤ a.side))
  clamped z = by (lt_z z (pos 0)) refl
    where
      room : Within 16 16384 (a.frame -ℤ a.side)
      room = within_sub b.frame b.side

      low_of : (y : ℤ) → N y ≤ P y → (t : Bool) → lt_z y (a.frame -ℤ a.side) ≡ t → Within 16384 16384 (cond t y (a.frame -ℤ a.side))
      low_of y h true e = let low = room.low in let high = room.high in omega signed
      low_of y h false e = within_more room tt tt

      by : (t : Bool) → lt_z z (pos 0) ≡ t → Within 16384 16384 (lesser_of (cond t (pos 0) z) (a.frame -ℤ a.side))
      by true e = low_of (pos 0) (omega arith) (lt_z (pos 0) (a.frame -ℤ a.side)) refl
      by false e = low_of z (omega signed) (lt_z z (a.frame -ℤ a.side)) refl

  pub place_within : (moves : Bool) → Within 16384 16384 (place_of moves a)
  unfolding place_of
  place_within moves = within_either moves (clamped (a.origin -ℤ excess_of a)) (within_more b.origin tt tt)

pub chroma_within : {origin place : ℤ} (s : ℤ) → Within 16384 16384 origin → Within 16384 16384 place → Within 65536 65536 (chroma_place origin place s)
unfolding chroma_place
chroma_within s p q = within_more (within_sub (within_shifted s p) (within_shifted s (within_sub p q))) tt tt

pub spot_within : {h : Shape} → Bounded h.across → Bounded h.down → (shift : Sides) (moves : Bool) → Held h (spot_of shift moves h)
unfolding spot_of
spot_within a d shift moves =
    let x = place_within a moves in
    let y = place_within d moves in
    record {
      across = a;
      down = d;
      x = x;
      y = y;
      cx = chroma_within shift.x (within_more a.origin tt tt) x;
      cy = chroma_within shift.y (within_more d.origin tt tt) y;
    }
