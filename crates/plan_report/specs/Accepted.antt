-- What the program's functions ask: a file that neither 8 nor 7 refuses. Definitions alone.
use Rattle.std.specs.Prelude.{◌≡◌, true, false, List, ℕ}
use Rattle.plan_file.specs.PlanFile.{is_plan_file, wide_file}

pub record Accepted (file : List ℕ) : Type 0 where
  pub holds : is_plan_file file ≡ true
  pub narrow : wide_file file ≡ false
