-- What the inner functions ask for. Who is served has it, as Served shows. Definitions alone.
use Rattle.std.specs.Prelude.{◌≡◌, true, false, List, ℕ, ◌+◌, ◌*◌, ◌≤◌, ◌<◌, ℤ, pos, length}
use Rattle.std.specs.Int.Signed.{lt_z}
use Rattle.limits.specs.Sizes.{numbers_per_best}
use Rattle.whole.specs.Interval.{Within}
use Rattle.score.specs.Score.{score_fits}
use Rattle.finishing.specs.Finish.{index_at, block_at, x_at, y_at}

-- sides whose product fits; who is served has sides from 2 on
pub record Grid (nx ny : ℤ) : Type 0 where
  pub wide : Within 0 2048 nx
  pub high : Within 0 2048 ny

-- entries that can be written into a buffer which has so many numbers for each block
pub record Placed (each : ℕ) (buffer indices bests : List ℤ) : Type 0 where
  pub five_each : length bests ≡ numbers_per_best * length indices
  pub above : (n : ℕ) → n < length indices → lt_z (index_at indices n) (pos 0) ≡ false
  pub below : (n : ℕ) → n < length indices → each * block_at indices n + each ≤ length buffer

-- and that can be scored
pub record Scored (diagonal : ℤ) (indices bests : List ℤ) : Type 0 where
  pub fit : (n : ℕ) → n < length indices → score_fits (x_at bests n) (y_at bests n) diagonal ≡ true
