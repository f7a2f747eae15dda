-- A grid of 2 x 2 blocks, by computation: the words of (1,-1) in 01's "Numbers to hold on to", two entries of one index, and each refusal beside the input that
-- is one step inside.
use Rattle.std.specs.Prelude.{◌≡◌, refl, true, false, List, [], ◌∷◌, ℕ, ℤ, pos, negsuc}
use Rattle.limits.specs.Refusals.{any_upto}
use Rattle.score.specs.Score.{packed_score}
use Rattle.finishing.specs.Finish.{written_upto, finish_answer, finish_vectors, finish_output}

abbrev zeros : List ℤ → List ℤ
zeros tail = pos 0 ∷ pos 0 ∷ pos 0 ∷ pos 0 ∷ pos 0 ∷ pos 0 ∷ pos 0 ∷ pos 0 ∷ tail

abbrev two_bests : List ℤ
two_bests = pos 2 ∷ pos 3 ∷ pos 6 ∷ pos 8 ∷ negsuc 0 ∷ pos 1 ∷ negsuc 0 ∷ pos 5 ∷ pos 9 ∷ pos 192 ∷ []

-- the later best is (1,-1) with SAD 5 and average 9: its output word is 65535, its score word 9 x 2^24 + 5
pub later_in_vectors : finish_vectors (pos 2) (pos 2) (pos 1 ∷ pos 1 ∷ []) two_bests (pos 4404) true (zeros (pos 0 ∷ pos 0 ∷ pos 0 ∷ pos 4 ∷ [])) 9
    ≡ pos 0 ∷ pos 0 ∷ pos 0 ∷ pos 1 ∷ negsuc 0 ∷ pos 5 ∷ pos 0 ∷ pos 0 ∷ pos 0 ∷ pos 0 ∷ pos 0 ∷ pos 4 ∷ []
unfolding finish_vectors finish_answer written_upto any_upto
later_in_vectors = refl

pub later_in_output : finish_output (pos 2) (pos 2) (pos 1 ∷ pos 1 ∷ []) two_bests (pos 4404) true 12 (zeros (pos 7 ∷ []))
    ≡ pos 0 ∷ pos 0 ∷ pos 65535 ∷ pos 150994949 ∷ pos 0 ∷ pos 0 ∷ pos 0 ∷ pos 0 ∷ pos 7 ∷ []
unfolding finish_output finish_answer written_upto any_upto packed_score
later_in_output = refl

-- ---- each refusal, beside the input that is one step inside: a grid of so many by 2 blocks, one entry, output asked for
abbrev answer_of : ℤ → ℤ → ℤ → ℤ → ℤ → ℕ → ℕ → ℕ
answer_of side index x y diagonal held room = finish_answer side (pos 2) (index ∷ []) (x ∷ y ∷ pos 0 ∷ pos 0 ∷ pos 0 ∷ []) diagonal true held room

pub inside : answer_of (pos 2) (pos 3) (pos 32767) (negsuc 32767) (pos 1) 12 8 ≡ 0
unfolding finish_answer any_upto
inside = refl

pub side_1 : answer_of (pos 1) (pos 3) (pos 32767) (negsuc 32767) (pos 1) 6 4 ≡ 1
unfolding finish_answer any_upto
side_1 = refl

pub side_2048 : answer_of (pos 2048) (pos 3) (pos 32767) (negsuc 32767) (pos 1) 12288 8192 ≡ 0
unfolding finish_answer any_upto
side_2048 = refl

pub side_2049 : answer_of (pos 2049) (pos 3) (pos 32767) (negsuc 32767) (pos 1) 12294 8196 ≡ 2
unfolding finish_answer any_upto
side_2049 = refl

pub vectors_of_11 : answer_of (pos 2) (pos 3) (pos 32767) (negsuc 32767) (pos 1) 11 8 ≡ 2
unfolding finish_answer any_upto
vectors_of_11 = refl

pub vectors_of_13 : answer_of (pos 2) (pos 3) (pos 32767) (negsuc 32767) (pos 1) 13 8 ≡ 2
unfolding finish_answer any_upto
vectors_of_13 = refl

pub diagonal_0 : answer_of (pos 2) (pos 3) (pos 32767) (negsuc 32767) (pos 0) 12 8 ≡ 2
unfolding finish_answer any_upto
diagonal_0 = refl

pub index_4 : answer_of (pos 2) (pos 4) (pos 32767) (negsuc 32767) (pos 1) 12 8 ≡ 4
unfolding finish_answer any_upto
index_4 = refl

pub index_minus_1 : answer_of (pos 2) (negsuc 0) (pos 32767) (negsuc 32767) (pos 1) 12 8 ≡ 4
unfolding finish_answer any_upto
index_minus_1 = refl

pub room_of_7 : answer_of (pos 2) (pos 3) (pos 32767) (negsuc 32767) (pos 1) 12 7 ≡ 5
unfolding finish_answer any_upto
room_of_7 = refl

pub x_32768 : answer_of (pos 2) (pos 3) (pos 32768) (negsuc 32767) (pos 1) 12 8 ≡ 7
unfolding finish_answer any_upto
x_32768 = refl

pub y_minus_32769 : answer_of (pos 2) (pos 3) (pos 32767) (negsuc 32768) (pos 1) 12 8 ≡ 7
unfolding finish_answer any_upto
y_minus_32769 = refl

-- an output that is not asked for may be short, and a diagonal of 0 is refused all the same
pub unasked_and_short : finish_answer (pos 2) (pos 2) [] [] (pos 1) false 12 0 ≡ 0
unfolding finish_answer any_upto
unasked_and_short = refl

pub unasked_diagonal_0 : finish_answer (pos 2) (pos 2) [] [] (pos 0) false 12 0 ≡ 2
unfolding finish_answer
unasked_diagonal_0 = refl

pub bests_of_4 : finish_answer (pos 2) (pos 2) (pos 0 ∷ []) (pos 1 ∷ pos 2 ∷ pos 3 ∷ pos 4 ∷ []) (pos 1) false 12 0 ≡ 5
unfolding finish_answer any_upto
bests_of_4 = refl

-- the second best alone does not fit
pub second_best_wild : finish_answer (pos 2) (pos 2) (pos 0 ∷ pos 0 ∷ [])
    (pos 1 ∷ pos 2 ∷ pos 3 ∷ pos 4 ∷ pos 5 ∷ pos 32768 ∷ pos 2 ∷ pos 3 ∷ pos 4 ∷ pos 5 ∷ []) (pos 1) false 12 0 ≡ 7
unfolding finish_answer any_upto
second_best_wild = refl
