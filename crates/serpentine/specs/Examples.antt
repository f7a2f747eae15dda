-- 01, "Numbers to hold on to": its serpentine of 4 by 3. And each refusal of 01's table beside its neighbours one step inside. All by computation.
use Rattle.std.specs.Prelude.{◌≡◌, refl, [], ◌∷◌, pos, negsuc, replicate, Ok}
use Rattle.refusals.specs.Numbers.{answer_number}
use Rattle.serpentine.specs.Walk.{at, each, row, walk, block_at, places_before, position_at, numbers, filled}
use Rattle.serpentine.specs.Answers.{position_refusal, block_refusal, order_refusal, position_answer, block_answer, order_after}

-- ---- "4x3 serpentine: (2,1) (1,1) (0,0) (0,2) (1,0) (1,2) (2,0) (2,2) (3,0) (3,2) (0,1) (3,1)"
pub walk_4_3 : walk 4 3 ≡ at 2 1 ∷ at 1 1 ∷ at 0 0 ∷ at 0 2 ∷ at 1 0 ∷ at 1 2 ∷ at 2 0 ∷ at 2 2 ∷ at 3 0 ∷ at 3 2 ∷ at 0 1 ∷ at 3 1 ∷ []
unfolding walk each row
walk_4_3 = refl

-- the same as a buffer of 25 numbers holds it: the last, which is 7, stays
pub order_4_3 :
    order_after (pos 4) (pos 3) (replicate 25 (pos 7))
    ≡ pos 2 ∷ pos 1 ∷ pos 1 ∷ pos 1 ∷ pos 0 ∷ pos 0 ∷ pos 0 ∷ pos 2 ∷ pos 1 ∷ pos 0 ∷ pos 1 ∷ pos 2
    ∷ pos 2 ∷ pos 0 ∷ pos 2 ∷ pos 2 ∷ pos 3 ∷ pos 0 ∷ pos 3 ∷ pos 2 ∷ pos 0 ∷ pos 1 ∷ pos 3 ∷ pos 1 ∷ pos 7 ∷ []
unfolding order_after order_refusal filled numbers walk each row
order_4_3 = refl

-- ---- 1: a side below 2, also beside one over 2,048
pub side_1_wide : answer_number (position_answer (pos 1) (pos 2) (pos 0) (pos 0)) ≡ 1
unfolding position_answer position_refusal
side_1_wide = refl

pub side_1_high : answer_number (block_answer (pos 2) (pos 1) (pos 0)) ≡ 1
unfolding block_answer block_refusal
side_1_high = refl

pub side_below_0 : order_refusal (negsuc 0) (pos 2) 8 ≡ 1
unfolding order_refusal
side_below_0 = refl

pub side_1_and_3000 : answer_number (position_answer (pos 1) (pos 3000) (pos 0) (pos 0)) ≡ 1
unfolding position_answer position_refusal
side_1_and_3000 = refl

pub sides_2 : position_answer (pos 2) (pos 2) (pos 1) (pos 1) ≡ Ok (pos 3)
unfolding position_answer position_refusal position_at places_before walk each row
sides_2 = refl

-- ---- 2: a side over 2,048, also beside a place outside
pub side_2049_wide : answer_number (position_answer (pos 2049) (pos 2) (pos 0) (pos 0)) ≡ 2
unfolding position_answer position_refusal
side_2049_wide = refl

pub side_2049_high : answer_number (block_answer (pos 2) (pos 2049) (negsuc 0)) ≡ 2
unfolding block_answer block_refusal
side_2049_high = refl

pub side_2049_short : order_refusal (pos 2049) (pos 2049) 0 ≡ 2
unfolding order_refusal
side_2049_short = refl

pub sides_2048 : answer_number (position_answer (pos 2048) (pos 2048) (pos 2047) (pos 2047)) ≡ 0
unfolding position_answer position_refusal
sides_2048 = refl

-- ---- 4: a block outside the grid, a position outside 0 .. 11
pub column_4 : answer_number (position_answer (pos 4) (pos 3) (pos 4) (pos 2)) ≡ 4
unfolding position_answer position_refusal
column_4 = refl

pub row_3 : answer_number (position_answer (pos 4) (pos 3) (pos 3) (pos 3)) ≡ 4
unfolding position_answer position_refusal
row_3 = refl

pub column_below_0 : answer_number (position_answer (pos 4) (pos 3) (negsuc 0) (pos 0)) ≡ 4
unfolding position_answer position_refusal
column_below_0 = refl

pub last_block : position_answer (pos 4) (pos 3) (pos 3) (pos 2) ≡ Ok (pos 9)
unfolding position_answer position_refusal position_at places_before walk each row
last_block = refl

pub position_12 : answer_number (block_answer (pos 4) (pos 3) (pos 12)) ≡ 4
unfolding block_answer block_refusal
position_12 = refl

pub position_below_0 : answer_number (block_answer (pos 4) (pos 3) (negsuc 0)) ≡ 4
unfolding block_answer block_refusal
position_below_0 = refl

pub position_11 : block_answer (pos 4) (pos 3) (pos 11) ≡ Ok (pos 3, pos 1)
unfolding block_answer block_refusal block_at walk each row
position_11 = refl

-- ---- 5: a buffer of 23 numbers for 12 blocks, which stays as it is; 24 are enough
pub numbers_23 : order_refusal (pos 4) (pos 3) 23 ≡ 5
unfolding order_refusal
numbers_23 = refl

pub numbers_23_kept : order_after (pos 4) (pos 3) (replicate 23 (pos 7)) ≡ replicate 23 (pos 7)
unfolding order_after order_refusal
numbers_23_kept = refl

pub numbers_24 : order_refusal (pos 4) (pos 3) 24 ≡ 0
unfolding order_refusal
numbers_24 = refl
