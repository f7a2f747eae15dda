-- Finishing: the number that it answers, and what its two lent buffers then hold, for every input. 01, "Evaluating and choosing", its last paragraph, and
-- 01's table of refusals. Definitions alone.
use Rattle.std.specs.Prelude.{Bool, ◌&&◌, ◌||◌, not, cond, List, ℕ, zero, suc, ◌+◌, ◌*◌, eqb, ltb, ℤ, pos, nat_abs, length, get_or, set}
use Rattle.std.specs.Int.Signed.{lt_z, le_z}
use Rattle.limits.specs.Sizes.{numbers_per_best}
use Rattle.limits.specs.Limits.{blocks_of}
use Rattle.whole.specs.Numbers.{fits_i16}
use Rattle.limits.specs.Refusals.{first, any_upto, kept}
use Rattle.score.specs.Score.{output_word, packed_score}

-- ---- an entry: its index, and the four of its best's five numbers that are looked at: 02, Two, "finishing ignores the fifth"
abbrev pub index_at : List ℤ → ℕ → ℤ
index_at indices n = get_or indices n (pos 0)

abbrev pub x_at : List ℤ → ℕ → ℤ
x_at bests n = get_or bests (numbers_per_best * n) (pos 0)

abbrev pub y_at : List ℤ → ℕ → ℤ
y_at bests n = get_or bests (numbers_per_best * n + 1) (pos 0)

abbrev pub sad_at : List ℤ → ℕ → ℤ
sad_at bests n = get_or bests (numbers_per_best * n + 2) (pos 0)

abbrev pub average_at : List ℤ → ℕ → ℤ
average_at bests n = get_or bests (numbers_per_best * n + 3) (pos 0)

-- An index that is served is not below 0, so its absolute value is the index itself.
abbrev pub block_at : List ℤ → ℕ → ℕ
block_at indices n = nat_abs (index_at indices n)

-- ---- a buffer once the first n entries are written into it, each over what the ones before it left: "Repeated order entries are served, and at finishing the
-- later one wins"
unfoldable pub written_upto : (ℕ → List ℤ → List ℤ) → List ℤ → ℕ → List ℤ
written_upto write buffer zero = buffer
written_upto write buffer (suc n) = write n (written_upto write buffer n)

-- ---- "Finishing stores vector and SAD": three numbers for each grid block
abbrev pub stored : List ℤ → ℕ → ℤ → ℤ → ℤ → List ℤ
stored vectors index x y sad = set (set (set vectors (3 * index) x) (3 * index + 1) y) (3 * index + 2) sad

abbrev pub storing : List ℤ → List ℤ → ℕ → List ℤ → List ℤ
storing indices bests n vectors = stored vectors (block_at indices n) (x_at bests n) (y_at bests n) (sad_at bests n)

-- ---- "2 words for each grid block": "word 2 x index is (x << 16) + y, wrapping, and the next is `packed_score` with the average's low 8 bits"
abbrev pub words_put : List ℤ → ℕ → ℤ → ℤ → List ℤ
words_put output index word score = set (set output (2 * index) word) (2 * index + 1) score

abbrev pub word_at : List ℤ → ℕ → ℤ
word_at bests n = output_word (x_at bests n) (y_at bests n)

abbrev pub score_at : List ℤ → ℤ → ℕ → ℤ
score_at bests diagonal n = packed_score (x_at bests n) (y_at bests n) (sad_at bests n) diagonal (average_at bests n)

abbrev pub putting : List ℤ → List ℤ → ℤ → ℕ → List ℤ → List ℤ
putting indices bests diagonal n output = words_put output (block_at indices n) (word_at bests n) (score_at bests diagonal n)

-- ---- the table of refusals
-- 1: "a grid side below 2"
abbrev pub refused1 : ℤ → ℤ → Bool
refused1 nx ny = lt_z nx (pos 2) || lt_z ny (pos 2)

-- 2: "another number outside the limits", here a side over 2,048; "vector count not the block count, or a diagonal of 0 or less"
abbrev pub sides_over : ℤ → ℤ → Bool
sides_over nx ny = lt_z (pos 2048) nx || lt_z (pos 2048) ny

abbrev pub refused2 : ℤ → ℤ → ℤ → ℕ → Bool
refused2 nx ny diagonal held = sides_over nx ny || (not (eqb held (3 * blocks_of nx ny)) || le_z diagonal (pos 0))

-- 4: an "index .. outside the grid given"
abbrev pub is_stray : ℤ → ℤ → Bool
is_stray blocks index = lt_z index (pos 0) || le_z blocks index

abbrev pub any_stray : ℤ → List ℤ → ℕ → Bool
any_stray blocks indices entries = any_upto (λ n. is_stray blocks (index_at indices n)) entries

abbrev pub refused4 : ℤ → ℤ → List ℤ → Bool
refused4 nx ny indices = any_stray (pos (blocks_of nx ny)) indices (length indices)

-- 5: "a lent output is too short", where it is asked for, or bests aren't "five numbers for each index"
abbrev pub refused5 : ℤ → ℤ → List ℤ → List ℤ → Bool → ℕ → Bool
refused5 nx ny indices bests asked room = asked && ltb room (2 * blocks_of nx ny) || not (eqb (length bests) (numbers_per_best * length indices))

-- 7: "a best's vector doesn't fit i16"
abbrev pub is_wild : ℤ → ℤ → Bool
is_wild x y = not (fits_i16 x && fits_i16 y)

abbrev pub any_wild : List ℤ → ℕ → Bool
any_wild bests entries = any_upto (λ n. is_wild (x_at bests n) (y_at bests n)) entries

abbrev pub refused7 : List ℤ → List ℤ → Bool
refused7 indices bests = any_wild bests (length indices)

-- "If several apply, the lowest is given". The vectors hold so many numbers, and the output has room for so many.
unfoldable pub finish_answer : ℤ → ℤ → List ℤ → List ℤ → ℤ → Bool → ℕ → ℕ → ℕ
finish_answer nx ny indices bests diagonal asked held room =
    first (refused1 nx ny) 1
    (first (refused2 nx ny diagonal held) 2
    (first (refused4 nx ny indices) 4
    (first (refused5 nx ny indices bests asked room) 5
    (first (refused7 indices bests) 7
    0))))

-- ---- the lent buffers afterwards: "A refusal .. changes nothing lent"
unfoldable pub finish_vectors : ℤ → ℤ → List ℤ → List ℤ → ℤ → Bool → List ℤ → ℕ → List ℤ
finish_vectors nx ny indices bests diagonal asked vectors room =
    kept (finish_answer nx ny indices bests diagonal asked (length vectors) room) (written_upto (storing indices bests) vectors (length indices)) vectors

unfoldable pub finish_output : ℤ → ℤ → List ℤ → List ℤ → ℤ → Bool → ℕ → List ℤ → List ℤ
finish_output nx ny indices bests diagonal asked held output =
    kept (finish_answer nx ny indices bests diagonal asked held (length output))
    (cond asked (written_upto (putting indices bests diagonal) output (length indices)) output) output
