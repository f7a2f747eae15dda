-- How many numbers a thing takes in what is lent. Definitions alone.
use Rattle.std.specs.Prelude.{ℕ, ◌*◌}

-- 01, "Plan file": "records of 12 little-endian words", four bytes each
abbrev pub words_per_record : ℕ
words_per_record = 12

abbrev pub bytes_per_record : ℕ
bytes_per_record = 4 * words_per_record

-- a record's best: "x, y, SAD, average", and 02, Two: "Each best gains a fifth number"
abbrev pub numbers_per_best : ℕ
numbers_per_best = 5
