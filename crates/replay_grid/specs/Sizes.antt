-- How many numbers a line's own inputs ask for. Assumes nothing.
use Rattle.std.specs.Prelude.{cond, List, ℕ, ◌+◌, ◌*◌, leb, eqb, ℤ, pos, get_or}
use Rattle.cases.specs.Samples.{limited_to}

-- the grid's blocks, of which a line has room for 4,096
abbrev pub blocks_of : List ℤ → ℕ
blocks_of numbers =
    let nx = limited_to 4096 (get_or numbers 0 (pos 0)) in
    let ny = limited_to 4096 (get_or numbers 1 (pos 0)) in
    cond (leb (nx * ny) 4096) (nx * ny) 0

-- five numbers, and an index and a best of five for each entry
abbrev pub finish_inputs : List ℤ → ℕ
finish_inputs numbers = 5 + 6 * limited_to 50 (get_or numbers 4 (pos 0))

-- two words for each block where output is asked for
abbrev pub output_of : ℕ → ℕ → ℕ
output_of asked blocks = cond (eqb asked 1) (2 * blocks) 0

-- a vector for each block, and the output
abbrev pub finish_answers : List ℤ → ℕ
finish_answers numbers = 3 * blocks_of numbers + output_of (limited_to 1 (get_or numbers 3 (pos 0))) (blocks_of numbers)
