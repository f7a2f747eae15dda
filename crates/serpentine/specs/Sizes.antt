-- How large the numbers get on a grid of accepted sides. Assumes nothing.
use Rattle.std.specs.Prelude.{ℕ, ◌+◌, ◌-◌, ◌*◌, ◌≤◌, ◌<◌}
use Rattle.std.proofs.Common.{mul-le-mul, arith}
use Rattle.serpentine.specs.Walk.{Sides}
use Rattle.serpentine.specs.Rule.{interior}

module _ {nx ny : ℕ} (s : Sides nx ny) where
  pub blocks_most : nx * ny ≤ 4194304
  blocks_most = mul-le-mul {n₁ = nx} {m₁ = ny} {n₂ = 2048} {m₂ = 2048} s.wide_most s.high_most

  -- so many rows of the interior
  pub rows_most : (rows : ℕ) → rows ≤ 2046 → rows * (nx - 2) ≤ 4186116
  rows_most rows h =
      let w : nx - 2 ≤ 2046 = omega (arith, s.wide_most) in
      mul-le-mul {n₁ = rows} {m₁ = nx - 2} {n₂ = 2046} {m₂ = 2046} h w

  pub interior_most : interior nx ny ≤ 4186116
  interior_most = rows_most (ny - 2) (omega (arith, s.high_most))

  -- the last position of a row's end
  pub end_fits : (y : ℕ) → y < ny → interior nx ny + 2 * nx + 2 * (y - 1) + 1 < 4294967296
  end_fits y h = omega (arith, interior_most, s.wide_most, s.high_most)
