-- 01, "Numbers to hold on to": its lines about the diagonal, the score and the output word, each by computation.
use Rattle.std.specs.Prelude.{◌≡◌, refl, pos, negsuc, Some}
use Rattle.whole.specs.Numbers.{root_of}
use Rattle.score.specs.Diagonal.{diagonal_of, diagonal_answer, answer_number}
use Rattle.score.specs.Score.{output_word, packed_score, score_answer}

-- "1920x1080, pel 2: diagonal 4404"
pub diagonal_1920_1080 : diagonal_answer (pos 1920) (pos 1080) (pos 2) ≡ Some (pos 4404)
unfolding diagonal_answer diagonal_of root_of
diagonal_1920_1080 = refl

-- "with it, SAD 100: vector (661,0) 100, (705,0) 118, (1000,0) 280, (2300,0) 2000"
pub score_661 : score_answer (pos 661) (pos 0) (pos 100) (pos 4404) (pos 0) ≡ Some (pos 100)
unfolding score_answer packed_score
score_661 = refl

pub score_705 : score_answer (pos 705) (pos 0) (pos 100) (pos 4404) (pos 0) ≡ Some (pos 118)
unfolding score_answer packed_score
score_705 = refl

pub score_1000 : score_answer (pos 1000) (pos 0) (pos 100) (pos 4404) (pos 0) ≡ Some (pos 280)
unfolding score_answer packed_score
score_1000 = refl

pub score_2300 : score_answer (pos 2300) (pos 0) (pos 100) (pos 4404) (pos 0) ≡ Some (pos 2000)
unfolding score_answer packed_score
score_2300 = refl

-- "output word (1,-1) is 65535; (-32768,-1) is 2147483647"
pub word_1_minus_1 : output_word (pos 1) (negsuc 0) ≡ pos 65535
word_1_minus_1 = refl

pub word_least_minus_1 : output_word (negsuc 32767) (negsuc 0) ≡ pos 2147483647
word_least_minus_1 = refl

-- the refusals, each with its neighbour one step inside
pub side_1 : answer_number (diagonal_answer (pos 1) (pos 2) (pos 1)) ≡ 2
unfolding diagonal_answer
side_1 = refl

pub side_2 : answer_number (diagonal_answer (pos 2) (pos 2) (pos 1)) ≡ 0
unfolding diagonal_answer
side_2 = refl

pub side_16384 : diagonal_answer (pos 16384) (pos 16384) (pos 4) ≡ Some (pos 92680)
unfolding diagonal_answer diagonal_of root_of
side_16384 = refl

pub side_16385 : answer_number (diagonal_answer (pos 2) (pos 16385) (pos 4)) ≡ 2
unfolding diagonal_answer
side_16385 = refl

pub pel_3 : answer_number (diagonal_answer (pos 2) (pos 2) (pos 3)) ≡ 2
unfolding diagonal_answer
pel_3 = refl

pub component_32768 : answer_number (score_answer (pos 32768) (pos 0) (pos 0) (pos 1) (pos 0)) ≡ 2
unfolding score_answer
component_32768 = refl

pub component_least : answer_number (score_answer (negsuc 32767) (negsuc 32767) (pos 0) (pos 1) (pos 0)) ≡ 0
unfolding score_answer
component_least = refl

pub diagonal_0 : answer_number (score_answer (pos 0) (pos 0) (pos 0) (pos 0) (pos 0)) ≡ 2
unfolding score_answer
diagonal_0 = refl
