-- What a distance is, and what its laws and bounds speak of: blocks that agree, and blocks of bytes. Definitions alone.
-- That the cost is a distance, and its bounds, are in proofs/Laws.
use Rattle.std.specs.Prelude.{◌≡◌, ℕ, ◌+◌, ◌≤◌, ◌<◌}
use Rattle.distance.specs.Distance.{Block}

-- two blocks agree in each of their w x h samples
abbrev pub Agree : ℕ → ℕ → Block → Block → Type 0
Agree w h a b = (y x : ℕ) → y < h → x < w → a y x ≡ b y x

-- the samples of a block are bytes
abbrev pub Bytes : Block → Type 0
Bytes a = (y x : ℕ) → a y x < 256

-- ---- a distance
pub record Distance (w h : ℕ) (d : Block → Block → ℕ) : Type 0 where
  pub agree : (a b : Block) → Agree w h a b → d a b ≡ 0
  pub zero_only : (a b : Block) → d a b ≡ 0 → Agree w h a b
  pub symmetric : (a b : Block) → d a b ≡ d b a
  pub triangle : (a b c : Block) → d a c ≤ d a b + d b c
