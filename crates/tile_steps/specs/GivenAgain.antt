-- What is shown of a tile's differences can be given again: its four lines are read as that tile. Assumes nothing.
use Rattle.std.specs.Prelude.{◌≡◌, ℕ, zero, suc, ◌-◌, ◌≤◌, true, List, [], ◌∷◌, ◌++◌, length, take, ℤ, pos, negsuc, slice_index_or, refl, Ok}
use Rattle.std.proofs.Common.{ap, sym, ◌∙◌, append_assoc, append-nil, arith}
use Rattle.whole.specs.Interval.{Within}
use Rattle.distance.specs.Fours.{Quad, Tile}
use Rattle.distance.specs.Parts.{Small, SmallRows}
use Rattle.report_text.specs.Text.{codes, decimal}
use Rattle.report_text.specs.Digits.{digits_length}
use Rattle.tile_lines.specs.Lines.{entry_text, row_text, tile_text}
use Rattle.tile_input.specs.Input.{is_blank, words_from, words_of, number_of, read_from, reading_of}
use Rattle.tile_input.specs.ReadBack.{decimal_read, decimal_word, word_read, blank_skipped}

-- blanks before a word are skipped
none_taken : (k : ℕ) → take {A = ℕ} k [] ≡ []
none_taken zero = refl
none_taken (suc k) = refl

skipped : (k : ℕ) (rest : List ℕ) → words_from [] (take k (codes "       ") ++ rest) ≡ words_from [] rest
skipped zero rest = refl
skipped (suc zero) rest = refl
skipped (suc (suc zero)) rest = refl
skipped (suc (suc (suc zero))) rest = refl
skipped (suc (suc (suc (suc zero)))) rest = refl
skipped (suc (suc (suc (suc (suc zero))))) rest = refl
skipped (suc (suc (suc (suc (suc (suc zero)))))) rest = refl
skipped (suc (suc (suc (suc (suc (suc (suc k))))))) rest = ap (λ (l : List ℕ). words_from [] (l ++ rest)) (none_taken k)

-- a number in its columns, before a blank
entry_read : (z : ℤ) (c : ℕ) (rest : List ℕ) → is_blank c ≡ true → words_from [] (entry_text z ++ (c ∷ rest)) ≡ decimal z ∷ words_from [] (c ∷ rest)
entry_read z c rest b =
    ap (words_from []) (append_assoc (take (7 - length (decimal z)) (codes "       ")) (decimal z) (c ∷ rest))
    ∙ skipped (7 - length (decimal z)) (decimal z ++ (c ∷ rest))
    ∙ word_read (decimal z) c rest (decimal_word z).0 (decimal_word z).1 b
    ∙ ap (λ (l : List (List ℕ)). decimal z ∷ l) (sym (blank_skipped c rest b))

-- a number of at most three digits leaves a blank in front
short : (z : ℤ) → Within 255 255 z → length (decimal z) ≤ 4
unfolding decimal
short (pos n) h = let m = digits_length 2 n (omega (arith, h.high)) in omega arith
short (negsuc n) h = let m = digits_length 2 (suc n) (omega (arith, h.low)) in omega arith

abbrev tail : ℤ → List ℕ
tail z = take (6 - length (decimal z)) (codes "      ") ++ decimal z

blank_first : (z : ℤ) → Within 255 255 z → entry_text z ≡ 32 ∷ tail z
blank_first z h = let e : 7 - length (decimal z) ≡ suc (6 - length (decimal z)) = omega (arith, short z h) in rw e

-- so a number may stand before another one
next_read : (y z : ℤ) (rest : List ℕ) → Within 255 255 z → words_from [] (entry_text y ++ (entry_text z ++ rest))
    ≡ decimal y ∷ words_from [] (entry_text z ++ rest)
next_read y z rest h = rw (blank_first z h) (entry_read y 32 (tail z ++ rest) refl)

abbrev words_in : Quad → List (List ℕ) → List (List ℕ)
words_in q words = decimal q.a ∷ decimal q.b ∷ decimal q.c ∷ decimal q.d ∷ words

grouped : (a b c d e rest : List ℕ) → a ++ b ++ c ++ d ++ e ++ rest ≡ a ++ (b ++ (c ++ (d ++ (e ++ rest))))
grouped a b c d e rest = simp append_assoc

row_read : (q : Quad) (rest : List ℕ) → Small 255 q → words_from [] (row_text q ++ rest) ≡ words_in q (words_from [] rest)
row_read q rest s =
    ap (words_from []) (grouped (entry_text q.a) (entry_text q.b) (entry_text q.c) (entry_text q.d) (codes "\n") rest)
    ∙ next_read q.a q.b _ s.at_b
    ∙ ap (λ (l : List (List ℕ)). decimal q.a ∷ l)
    (next_read q.b q.c _ s.at_c
    ∙ ap (λ (l : List (List ℕ)). decimal q.b ∷ l)
    (next_read q.c q.d _ s.at_d ∙ ap (λ (l : List (List ℕ)). decimal q.c ∷ l) (entry_read q.d 10 rest refl)))

lines : (a b c d : List ℕ) → a ++ b ++ c ++ d ≡ a ++ (b ++ (c ++ (d ++ [])))
lines a b c d = simp (append_assoc, append-nil)

tile_words : (t : Tile) → SmallRows 255 t → words_of (tile_text [] t) ≡ words_in t.a (words_in t.b (words_in t.c (words_in t.d [])))
tile_words t s =
    ap (words_from []) (lines (row_text t.a) (row_text t.b) (row_text t.c) (row_text t.d))
    ∙ row_read t.a _ s.at_a
    ∙ ap (words_in t.a)
    (row_read t.b _ s.at_b ∙ ap (words_in t.b) (row_read t.c _ s.at_c ∙ ap (words_in t.c) (row_read t.d [] s.at_d)))

-- four words are a row's four numbers
record Reads (q : Quad) : Type 0 where
  a_is : number_of (decimal q.a) ≡ Ok q.a
  b_is : number_of (decimal q.b) ≡ Ok q.b
  c_is : number_of (decimal q.c) ≡ Ok q.c
  d_is : number_of (decimal q.d) ≡ Ok q.d

reads : (q : Quad) → Small 255 q → Reads q
reads q s =
    record { a_is = decimal_read _ s.at_a; b_is = decimal_read _ s.at_b; c_is = decimal_read _ s.at_c; d_is = decimal_read _ s.at_d }

sixteen : (t : Tile) → Reads t.a → Reads t.b → Reads t.c → Reads t.d →
    read_from (λ place. number_of (slice_index_or (words_in t.a (words_in t.b (words_in t.c (words_in t.d [])))) place [])) 16 [] ≡ Ok t
unfolding read_from
sixteen t a b c d =
    rw (a.a_is, a.b_is, a.c_is, a.d_is, b.a_is, b.b_is, b.c_is, b.d_is, c.a_is, c.b_is, c.c_is, c.d_is, d.a_is, d.b_is, d.c_is, d.d_is)

pub given_again : (t : Tile) → SmallRows 255 t → reading_of (tile_text [] t) ≡ Ok t
given_again t s =
    ap (λ (words : List (List ℕ)). read_from (λ place. number_of (slice_index_or words place [])) 16 []) (tile_words t s)
    ∙ sixteen t (reads t.a s.at_a) (reads t.b s.at_b) (reads t.c s.at_c) (reads t.d s.at_d)
