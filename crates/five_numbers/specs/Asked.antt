-- What counting asks of its callers, which every answered vector has (Laws, `answered_aimed`). Definitions alone.
use Rattle.std.specs.Prelude.{ℤ}
use Rattle.whole.specs.Interval.{Within}

pub record Aimed (x y : ℤ) : Type 0 where
  pub x_in : Within 32768 65536 x
  pub y_in : Within 32768 65536 y
