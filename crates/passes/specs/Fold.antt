-- 01, "Planning, block by block in the given order": a whole plan is a fold over the order, and what it carries from block to block are the two slots.
-- The order is flat (x, y), the vectors flat (x, y, SAD). Definitions alone.
use Rattle.std.specs.Prelude.{Bool, true, ◌&&◌, List, [], ◌∷◌, ◌++◌, ℕ, zero, suc, ◌+◌, ◌*◌, ℤ, pos, nat_abs, get_or}
use Rattle.records.specs.declared.Words.{Words}
use Rattle.records.specs.Packing.{record_fits, record_words}
use Rattle.slots.specs.declared.Slots.{Slots}
use Rattle.slots.specs.Slots.{at_start}
use Rattle.planes.specs.declared.Sides.{Sides}
use Rattle.block.specs.declared.Settings.{Settings}
use Rattle.block.specs.declared.Block.{Block}
use Rattle.block.specs.declared.Step.{Step}
use Rattle.block.specs.Steps.{step_of}
use Rattle.passes.specs.declared.Turn.{Turn}

-- ---- a block of the order
-- its index: row by row, so many columns to a row
abbrev pub index_at : Sides → List ℤ → ℕ → ℕ
index_at grid order i = nat_abs (get_or order (2 * i + 1) (pos 0)) * nat_abs grid.x + nat_abs (get_or order (2 * i) (pos 0))

abbrev block_from : List ℤ → List ℤ → ℕ → ℕ → Block
block_from order vectors i index =
    record {
      x = get_or order (2 * i) (pos 0);
      y = get_or order (2 * i + 1) (pos 0);
      px = get_or vectors (3 * index) (pos 0);
      py = get_or vectors (3 * index + 1) (pos 0);
      sad = get_or vectors (3 * index + 2) (pos 0);
    }

unfoldable pub block_at : Sides → List ℤ → List ℤ → ℕ → Block
block_at grid order vectors i = block_from order vectors i (index_at grid order i)

-- ---- one turn: what the i-th block of the order adds, and the slots after it
unfoldable pub turn_at : Settings → List ℤ → List ℤ → ℕ → Slots → Turn
turn_at s order vectors i slots =
    let step : Step = step_of s (block_at s.grid order vectors i) slots in
    record { index = index_at s.grid order i; fits = record_fits step.made; words = record_words step.made; slots = step.slots }

-- a record's 12 words in a row
abbrev pub word_list : Words → List ℤ
word_list w =
    w.full ∷ w.overlay ∷ w.u ∷ w.v ∷ w.average ∷ w.pos ∷ w.cpos ∷ w.predictor ∷ w.window_x ∷ w.window_y ∷ w.sad ∷ w.last ∷ []

-- ---- the fold
module _ (s : Settings) (order vectors : List ℤ) where
  -- the slots before the i-th block
  unfoldable pub slots_at : ℕ → Slots
  slots_at zero = at_start
  slots_at (suc i) = (turn_at s order vectors i (slots_at i)).slots

  abbrev pub turn_of : ℕ → Turn
  turn_of i = turn_at s order vectors i (slots_at i)

  -- whether the records of the first so many blocks all fit, their words, and their indices
  unfoldable pub all_fit : ℕ → Bool
  all_fit zero = true
  all_fit (suc i) = all_fit i && (turn_of i).fits

  unfoldable pub words_upto : ℕ → List ℤ
  words_upto zero = []
  words_upto (suc i) = words_upto i ++ word_list (turn_of i).words

  unfoldable pub indices_upto : ℕ → List ℤ
  indices_upto zero = []
  indices_upto (suc i) = indices_upto i ++ (pos (turn_of i).index ∷ [])
