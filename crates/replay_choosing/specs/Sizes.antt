-- How many numbers a choice's own radius asks for. Assumes nothing.
use Rattle.std.specs.Prelude.{List, ℕ, ◌+◌, ◌*◌, ℤ, pos, get_or}
use Rattle.cases.specs.Samples.{limited_to}

-- the predictor's entry, and those of the window
abbrev pub slots_of : ℕ → ℕ
slots_of radius = 1 + (2 * radius + 1) * (2 * radius + 1)

-- 17 numbers, and two tables
abbrev pub choose_inputs : List ℤ → ℕ
choose_inputs numbers = 17 + 2 * slots_of (limited_to 3 (get_or numbers 3 (pos 0)))
