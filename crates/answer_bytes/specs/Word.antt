-- A word as a host gets it, from an entry's answer. 01, "Port order and what changes shape": "Each returns a table number and on 0 writes its value as 4
-- little-endian bytes to a lent slice (shorter: 5)." Definitions alone.
use Rattle.std.specs.Prelude.{cond, List, ◌++◌, ℕ, ℤ, ltb, length, drop, None, Option, Some}
use Rattle.little_endian.specs.Bytes.{bytes_of}

-- the table's number, where so many bytes are lent. An entry that refuses does so with one number, given first.
abbrev pub word_number : ℕ → Option ℤ → ℕ → ℕ
word_number number (Some word) room = cond (ltb room 4) 5 0
word_number number None room = number

-- the lent bytes afterwards: a refusal leaves them as they were
abbrev pub word_bytes : Option ℤ → List ℕ → List ℕ
word_bytes (Some word) out = cond (ltb (length out) 4) out (bytes_of word ++ drop 4 out)
word_bytes None out = out
