-- How many samples a cost's own inputs say that a block has. Assumes nothing.
use Rattle.std.specs.Prelude.{List, ℕ, ◌*◌, ℤ, pos, get_or}
use Rattle.cases.specs.Samples.{limited_to}

abbrev pub samples_of : List ℤ → ℕ
samples_of numbers = limited_to 16 (get_or numbers 1 (pos 0)) * limited_to 16 (get_or numbers 2 (pos 0))
