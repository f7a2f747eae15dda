-- 01, "Port order and what changes shape": "writes its value as 4 little-endian bytes"; "Plan file": "records of 12 little-endian words". Definitions alone.
use Rattle.std.specs.Prelude.{List, [], ◌∷◌, ◌++◌, ℕ, zero, suc, ◌+◌, ◌*◌, ℤ, pos, get_or}
use Rattle.std.specs.Int.Signed.{shr_z}
use Rattle.std.specs.Int.{w32}
use Rattle.whole.specs.Numbers.{mod_z, wrapped}

-- the lowest eight bits first, of a word below zero as of its bits
unfoldable pub bytes_of : ℤ → List ℕ
bytes_of word = mod_z word 256 ∷ mod_z (shr_z word 256) 256 ∷ mod_z (shr_z word 65536) 256 ∷ mod_z (shr_z word 16777216) 256 ∷ []

-- the word whose bytes stand at a place, the lowest first: its 32 bits, read as a signed number
unfoldable pub word_at : List ℕ → ℕ → ℤ
word_at bytes at = wrapped w32 (pos (get_or bytes at 0 + 256 * get_or bytes (at + 1) 0 + 65536 * get_or bytes (at + 2) 0 + 16777216 * get_or bytes (at + 3) 0))

-- the first so many words of some bytes, one behind the other
unfoldable pub words_upto : List ℕ → ℕ → List ℤ
words_upto bytes zero = []
words_upto bytes (suc n) = words_upto bytes n ++ word_at bytes (4 * n) ∷ []
