-- How many numbers a line's own inputs ask for. Assumes nothing.
use Rattle.std.specs.Prelude.{List, ℕ, ◌+◌, ◌*◌, ℤ, pos, get_or}
use Rattle.cases.specs.Samples.{limited_to}

-- of a block: ten numbers, and the plane's bytes
abbrev pub block_inputs : List ℤ → ℕ
block_inputs numbers = 10 + limited_to 512 (get_or numbers 9 (pos 0))

-- a sample for each place of the block
abbrev pub block_answers : List ℤ → ℕ
block_answers numbers = limited_to 16 (get_or numbers 7 (pos 0)) * limited_to 16 (get_or numbers 8 (pos 0))

-- of a sample: eight numbers, and the plane's bytes
abbrev pub sample_inputs : List ℤ → ℕ
sample_inputs numbers = 8 + limited_to 512 (get_or numbers 7 (pos 0))
