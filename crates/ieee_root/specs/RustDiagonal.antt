-- The diagonal that the entry answers is the one that the Rust works out by floating point:
--
--   pel * f64::from(frame_w * frame_w + frame_h * frame_h).sqrt() as i32
--
-- What Rust's three steps mean is said in RustRoot. For every frame and pel that is accepted, some x is what `sqrt` gives, only that one, and the entry's
-- answer is pel x the whole part of x. Another frame or pel is refused. Assumes nothing.
use Rattle.std.specs.Prelude.{◌≡◌, refl, true, false, ◌+◌, ◌*◌, ◌≤◌, ℤ, pos, negsuc, nat_abs, ◌+ℤ◌, ◌*ℤ◌, Float, None, Some}
use Rattle.std.proofs.Common.{sym}
use Rattle.std.proofs.Math.Path.{ap, subst}
use Rattle.std.specs.Float.Ieee.{binary64, of_int, to_signed}
use Rattle.whole.specs.Signed.{signed, abs_is}
use Rattle.whole.specs.Truth.{three_of, lies_low, lies_high}
use Rattle.limits.specs.Limits.{is_frame_side, is_pel}
use Rattle.score.specs.Diagonal.{squared, diagonal_of, frame_fits, diagonal_answer}
use Rattle.ieee_root.specs.SquareRoot.{IsSqrt}
use Rattle.ieee_root.specs.RustRoot.{rust_diagonal_lem}

-- what the Rust takes the root of
abbrev pub squares : ℤ → ℤ → ℤ
squares width height = width *ℤ width +ℤ height *ℤ height

-- the Rust's diagonal, where `sqrt` gives x
abbrev pub rust_diagonal : ℤ → Float → ℤ
rust_diagonal pel x = pel *ℤ to_signed 31 x

pub record DiagonalIsRusts (width height pel : ℤ) : Type 0 where
  pub x : Float
  pub is : IsSqrt binary64 (of_int binary64 (squares width height)) x
  pub only : (y : Float) → IsSqrt binary64 (of_int binary64 (squares width height)) y → y ≡ x
  pub answer : diagonal_answer width height pel ≡ Some (rust_diagonal pel x)

-- ---- an accepted side, squared
side_small : (side : ℤ) → is_frame_side side ≡ true → nat_abs side ≤ 16384
side_small side e =
    let low = lies_low (pos 2) (pos 16384) side e in
    let high = lies_high (pos 2) (pos 16384) side e in
    omega (signed, abs_is side)

squares_are : (width height : ℤ) → is_frame_side width ≡ true → is_frame_side height ≡ true → pos (squared width + squared height) ≡ squares width height
squares_are (pos w) (pos h) e f = refl
squares_are (pos w) (negsuc h) e f = let low = lies_low (pos 2) (pos 16384) (negsuc h) f in absurd (omega signed)
squares_are (negsuc w) height e f = let low = lies_low (pos 2) (pos 16384) (negsuc w) e in absurd (omega signed)

module _ (width height pel : ℤ) where
  pub diagonal_is_rusts : frame_fits width height pel ≡ true → DiagonalIsRusts width height pel
  unfolding diagonal_answer diagonal_of
  diagonal_is_rusts fits =
      let sides = three_of (is_frame_side width) (is_frame_side height) (is_pel pel) fits in
      let root = rust_diagonal_lem (nat_abs width) (nat_abs height) (side_small width sides.0) (side_small height sides.1) in
      let v = ap (of_int binary64) (squares_are width height sides.0 sides.1) in
      record {
        x = root.x;
        is = subst (λ (f : Float). IsSqrt binary64 f root.x) v root.is;
        only = λ y s. root.only y (subst (λ (f : Float). IsSqrt binary64 f y) (sym v) s);
        answer = rw fits (ap (λ (z : ℤ). Some (pel *ℤ z)) (sym root.cut));
      }

  pub no_other_diagonal : frame_fits width height pel ≡ false → diagonal_answer width height pel ≡ None
  unfolding diagonal_answer
  no_other_diagonal e = rw e
