-- Rust's `f64::from(n).sqrt() as i32`, for a whole n below 2 ^ 30, is the whole root of n. Assumes nothing.
-- `f64::from` is exact (`of_int`). `sqrt` is IEEE 754's squareRoot: some x meets its definition, only that one, and it is nearer to the true root than
-- any other value, so that no tie has to be broken. `as i32` cuts x to its whole part (`to_signed 31`).
use Rattle.std.specs.Prelude.{◌≡◌, ℕ, ◌+◌, ◌*◌, ◌^◌, ◌≤◌, ◌<◌, pos, Float}
use Rattle.std.proofs.Common.{mul-le-mul, arith}
use Rattle.std.specs.Float.{binary64}
use Rattle.std.specs.Float.Ieee.{of_int, to_signed}
use Rattle.whole.specs.Numbers.{root_of}
use Rattle.whole.specs.Root.{root_is}
use Rattle.ieee_root.specs.SquareRoot.{IsSqrt, IsNearest}
use Rattle.ieee_root.specs.WholePart.{whole_part}
use Rattle.ieee_root.specs.Nearest.{nearest, nearest_is_sqrt, sqrt_is_nearest}

pub record RustRoot (n : ℕ) : Type 0 where
  pub x : Float
  pub is : IsSqrt binary64 (of_int binary64 (pos n)) x
  pub only : (y : Float) → IsSqrt binary64 (of_int binary64 (pos n)) y → y ≡ x
  pub no_tie : IsNearest binary64 (of_int binary64 (pos n)) x
  pub cut : to_signed 31 x ≡ pos (root_of n)

pub rust_root : (n : ℕ) → n < 2 ^ 30 → RustRoot n
rust_root n small =
    let found = nearest n small in
    let x = found.0 in
    let v = of_int binary64 (pos n) in
    record {
      x = x;
      is = nearest_is_sqrt binary64 v x found.1;
      only = sqrt_is_nearest binary64 v x found.1;
      no_tie = found.1;
      cut = whole_part n (root_of n) x small (root_is n (omega arith)) (nearest_is_sqrt binary64 v x found.1);
    }

-- the diagonal of every frame that is accepted: sides up to 16,384
pub rust_diagonal_lem : (width height : ℕ) → width ≤ 16384 → height ≤ 16384 → RustRoot (width * width + height * height)
rust_diagonal_lem width height w h = rust_root (width * width + height * height) (omega (arith, mul-le-mul w w, mul-le-mul h h))
