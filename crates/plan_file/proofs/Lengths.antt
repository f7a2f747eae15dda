-- A file that is too short or too long is no plan file, whatever its trailer. Assumes nothing.
use Rattle.std.specs.Prelude.{◌≡◌, false, List, ℕ, ◌<◌, length}
use Rattle.std.proofs.Common.{le-leb, arith}
use Rattle.std.proofs.lemmas.Bool.{lt-leb}
use Rattle.plan_file.specs.PlanFile.{is_plan_file}

pub too_short : (file : List ℕ) → length file < 32 → is_plan_file file ≡ false
unfolding is_plan_file
too_short file h = rw (lt-leb 32 (length file) h)

pub too_long : (file : List ℕ) → 65536 < length file → is_plan_file file ≡ false
unfolding is_plan_file
too_long file h = rw (le-leb 32 (length file) (omega arith), lt-leb (length file) 65536 h)
