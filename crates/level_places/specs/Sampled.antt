-- The samples of a plane are bytes of its area: at pel 2 or 4 those of every subplane too. So what the pass reads inside one level is of no other. Assumes
-- nothing.
use Rattle.std.specs.Prelude.{◌≡◌, ℕ, suc, ◌+◌, ◌*◌, ◌/◌, ◌%◌, ◌≤◌, ◌<◌}
use Rattle.std.proofs.Common.{ap, div-lt_iff_lt-mul, mod-lt, mul-le-mul, arith}
use Rattle.std.proofs.Math.IntN.{pos}
use Rattle.whole.specs.Signed.{signed}
use Rattle.plane.specs.declared.Place.{Place}
use Rattle.plane.specs.Places.{subpel_of}
use Rattle.level_places.specs.Areas.{Covers}

-- ---- a place along both axes, in pel steps: its subplane, and its row there
module _ (pel height x y : ℕ) (some : 0 < pel) where
  abbrev subplane : ℕ
  subplane = x % pel + pel * (y % pel)

  abbrev row_of : ℕ
  row_of = subplane * height + y / pel

  subplane_below : subplane < pel * pel
  subplane_below =
      let a = mod-lt x some in
      let b : suc (y % pel) ≤ pel = mod-lt y some in
      let most : pel * suc (y % pel) ≤ pel * pel = mul-le-mul (omega arith) b in
      omega arith

  row_below : y < pel * height → row_of < pel * pel * height
  row_below h =
      let up : suc subplane ≤ pel * pel = subplane_below in
      let down : y / pel < height = (div-lt_iff_lt-mul some).1 (omega arith) in
      let most : suc subplane * height ≤ pel * pel * height = mul-le-mul up (omega arith) in
      omega arith

-- ---- of a plane whose numbers are natural
module _ (p : Place) {pel pitch width height : ℕ} (some : 0 < pel) (pel_is : p.pel ≡ pos pel) (pitch_is : p.pitch ≡ pos pitch)
    (width_is : p.width ≡ pos width) (height_is : p.height ≡ pos height) where
  pub sample_covered : (x y : ℕ) → x < pel * width → y < pel * height → (byte : ℕ) × ((subpel_of p (pos x) (pos y) ≡ pos byte) × Covers p byte)
  unfolding subpel_of
  sample_covered x y across down =
      let row = row_of pel height x y some in
      let column : x / pel < width = (div-lt_iff_lt-mul some).1 (omega arith) in (
        p.base + (row * pitch + x / pel),
        (
          simp (pel_is, pitch_is, height_is) (ap pos (omega arith)),
          record {
            row = row;
            column = x / pel;
            row_in = simp (pel_is, height_is) (row_below pel height x y some down);
            column_in = rw width_is (omega signed);
            at = simp pitch_is;
          },
        ),
      )
