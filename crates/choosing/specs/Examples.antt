-- 01, "Numbers to hold on to": "pel 1, radius 1, uncut window, record lambda 25600, least cost 50, predictor (0,0): in row 0, vector 0 takes the luma of
-- vector -1." With it a tie at the luma test, and what tripling wraps to. Each by computation.
use Rattle.std.specs.Prelude.{◌≡◌, refl, true, false, List, [], ◌∷◌, ℕ, ℤ, pos, negsuc}
use Rattle.choosing.specs.declared.Choice.{Choice}
use Rattle.choosing.specs.declared.Chosen.{Chosen}
use Rattle.choosing.specs.Choosing.{
  count_of,
  slot_of,
  distance_cost,
  penalty_of,
  with_penalty,
  luma_column,
  luma_of,
  chroma_of,
  after_distance,
  after_luma,
  after_chroma,
  advanced,
  restarted,
  taken,
  candidate,
  along_row,
  along_rows,
  start,
  answer_of,
  chosen,
  tripled_of,
  selected,
}

abbrev at : ℤ → ℤ → ℤ → Chosen
at x y sad = record { x = x; y = y; sad = sad }

-- the window of radius 1 about (0,0)
abbrev around : ℤ → Choice
around pel =
    record {
      x = pos 0;
      y = pos 0;
      least_x = negsuc 0;
      greatest_x = pos 1;
      least_y = negsuc 0;
      greatest_y = pos 1;
      lambda = pos 25600;
      pnew = pos 0;
      pel = pel;
    }

-- the predictor's SAD 50, then rows -1, 0 and 1: vector (-1,0) has 7, vector (0,0) has 90
abbrev lumas : List ℕ
lumas = 50 ∷ 1 ∷ 2 ∷ 3 ∷ 7 ∷ 90 ∷ 4 ∷ 5 ∷ 6 ∷ 8 ∷ []

-- a step away costs 100, which is over 50: only (0,0) passes the distance test, and at pel 1 it takes the 7
pub step_away : (after_distance (around (pos 1)) 1 0 ≡ pos 100) × (after_distance (around (pos 1)) 1 1 ≡ pos 0)
unfolding after_distance distance_cost
step_away = (refl, refl)

pub at_pel_1 : chosen (around (pos 1)) lumas [] ≡ at (pos 0) (pos 0) (pos 7)
unfolding count_of slot_of distance_cost penalty_of with_penalty luma_column luma_of chroma_of after_distance after_luma after_chroma advanced
    restarted taken candidate
    along_row along_rows start answer_of chosen
at_pel_1 = refl

-- at pel 2 it takes its own 90, and the predictor is kept
pub at_pel_2 : chosen (around (pos 2)) lumas [] ≡ at (pos 0) (pos 0) (pos 50)
unfolding count_of slot_of distance_cost penalty_of with_penalty luma_column luma_of chroma_of after_distance after_luma after_chroma advanced
    restarted taken candidate
    along_row along_rows start answer_of chosen
at_pel_2 = refl

-- "a test fails at cost equal to the least": at the luma test this shows only where chroma's penalty wraps below 0. pnew 2^28, lambda 0,
-- least 16, luma 16, chroma 8, pel 2, and (1,0) alone in the window
abbrev alone : Choice
alone =
    record {
      x = pos 0;
      y = pos 0;
      least_x = pos 1;
      greatest_x = pos 1;
      least_y = pos 0;
      greatest_y = pos 0;
      lambda = pos 0;
      pnew = pos 268435456;
      pel = pos 2;
    }

pub wraps_below : penalty_of alone 8 ≡ negsuc 8388599
unfolding penalty_of
wraps_below = refl

pub tie_at_luma : chosen alone (16 ∷ 16 ∷ []) (0 ∷ 8 ∷ []) ≡ at (pos 0) (pos 0) (pos 16)
unfolding count_of slot_of distance_cost penalty_of with_penalty luma_column luma_of chroma_of after_distance after_luma after_chroma advanced
    restarted taken candidate
    along_row along_rows start answer_of chosen
tie_at_luma = refl

-- with a least cost of 17 the same candidate goes on, and is taken
pub below_at_luma : chosen alone (17 ∷ 16 ∷ []) (0 ∷ 8 ∷ []) ≡ at (pos 1) (pos 0) (pos 24)
unfolding count_of slot_of distance_cost penalty_of with_penalty luma_column luma_of chroma_of after_distance after_luma after_chroma advanced
    restarted taken candidate
    along_row along_rows start answer_of chosen
below_at_luma = refl

-- "A negative block's SAD is tripled, wrapping.": here of a block that isn't bad
pub tripled_wraps : selected alone false true (pos 1000000000) [] [] ≡ at (pos 0) (pos 0) (negsuc 1294967295)
unfolding selected tripled_of
tripled_wraps = refl
