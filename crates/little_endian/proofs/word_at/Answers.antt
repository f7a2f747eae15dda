-- Each byte is below 256, so their sum is below 2^32. Assumes nothing.
use Rattle.std.proofs.Common.{rules, ◌≡◌, [], ◌∷◌, ℕ, ◌+◌, ◌*◌, ◌<◌, pos, ap, ◌∙◌, arith, w32, to_z}
use Rattle.std.specs.Int.{from_le_bytes}
use Rattle.whole.specs.Numbers.{wrapped}
use Rattle.whole.specs.Signed.{got}
use Rattle.little_endian.specs.Bytes.{word_at}
use Rattle.little_endian.proofs.word_at.Goals as goal

read : (a b c d : ℕ) → a < 256 → b < 256 → c < 256 → d < 256 →
    to_z w32 (from_le_bytes w32 (a ∷ b ∷ c ∷ d ∷ [])) ≡ wrapped w32 (pos (a + 256 * b + 65536 * c + 16777216 * d))
read a b c d p q r s = ap (to_z w32) (omega arith)

pub returns : goal.returns
unfolding word_at
returns c = got w32 c.from_le_bytes.type_inv (c.from_le_bytes.ensures ∙ read _ _ _ _ (search rules) (search rules) (search rules) (search rules))
