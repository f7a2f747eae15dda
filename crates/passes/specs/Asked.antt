-- What the passes ask of their caller, which planning's refusals leave. Definitions alone.
use Rattle.std.specs.Prelude.{ℕ, ◌+◌, ◌*◌, ◌<◌, ◌≤◌, List, ℤ, pos, length, get_or, ◌≤ℤ◌}
use Rattle.planes.specs.declared.Sides.{Sides}
use Rattle.block.specs.declared.Settings.{Settings}
use Rattle.block.specs.Asked.{Ready}
use Rattle.passes.specs.Fold.{index_at, block_at}

-- the i-th entry of the order stands there, and is a place of a grid whose sides are at most 2,048
pub record Listed (grid : Sides) (order : List ℤ) (i : ℕ) : Type 0 where
  pub there : 2 * i + 2 ≤ length order
  pub columns : pos 0 ≤ℤ grid.x
  pub columns_most : grid.x ≤ℤ pos 2048
  pub x_least : pos 0 ≤ℤ get_or order (2 * i) (pos 0)
  pub x_most : get_or order (2 * i) (pos 0) ≤ℤ pos 2047
  pub y_least : pos 0 ≤ℤ get_or order (2 * i + 1) (pos 0)
  pub y_most : get_or order (2 * i + 1) (pos 0) ≤ℤ pos 2047

-- and its index has a vector, so that the block can be planned
pub record Serves (s : Settings) (order vectors : List ℤ) (i : ℕ) : Type 0 where
  pub listed : Listed s.grid order i
  pub held : 3 * index_at s.grid order i + 3 ≤ length vectors
  pub ready : Ready s (block_at s.grid order vectors i)

abbrev pub Served : Settings → List ℤ → List ℤ → ℕ → Type 0
Served s order vectors n = (i : ℕ) → i < n → Serves s order vectors i
