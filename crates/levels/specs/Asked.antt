-- What the functions that write a level's numbers ask of its planes: bases that fit 32 bits. What is left once 3 has been asked. Assumes nothing.
use Rattle.std.specs.Prelude.{◌≤◌}
use Rattle.planes.specs.declared.Planes.{Planes}

pub record BasesFit (p : Planes) : Type 0 where
  pub luma : p.luma.base ≤ 2147483647
  pub u : p.u.base ≤ 2147483647
  pub v : p.v.base ≤ 2147483647
