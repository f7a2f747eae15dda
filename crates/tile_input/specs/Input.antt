-- A tile in a text, as a trainee gives it (docs/TILE.md): sixteen whole numbers from -255 to 255 with blanks between them. Definitions alone.
use Rattle.std.specs.Prelude.{Bool, true, false, cond, ◌&&◌, ◌||◌, List, [], ◌∷◌, ◌++◌, ℕ, zero, suc, ◌+◌, eqb, ltb, leb, get_or, length}
use Rattle.std.specs.Prelude.{ℤ, pos, neg_ℤ, Result, Ok, Err}
use Rattle.distance.specs.Fours.{Quad, Tile}
use Rattle.report_text.specs.Digits.{read_on}
use Rattle.tile_input.specs.declared.NoNumber.{NoNumber}
use Rattle.tile_input.specs.declared.NoNumber.TheVariants as no
use Rattle.tile_input.specs.declared.Unread.{Unread}
use Rattle.tile_input.specs.declared.Unread.TheVariants as unread

-- ---- words
-- space, tab, line feed, carriage return
abbrev pub is_blank : ℕ → Bool
is_blank c = eqb c 32 || eqb c 9 || eqb c 10 || eqb c 13

-- A blank ends the word that is begun, and none where none is.
abbrev pub ended : List ℕ → List (List ℕ) → List (List ℕ)
ended [] words = words
ended (c ∷ word) words = (c ∷ word) ∷ words

-- the words of a text behind the one that is begun: what stands between blanks
abbrev pub words_from : List ℕ → List ℕ → List (List ℕ)
words_from begun [] = ended begun []
words_from begun (c ∷ text) = cond (is_blank c) (ended begun (words_from [] text)) (words_from (begun ++ (c ∷ [])) text)

abbrev pub words_of : List ℕ → List (List ℕ)
words_of text = words_from [] text

-- ---- numbers: digits, behind a minus or not
abbrev pub is_digit : ℕ → Bool
is_digit c = leb 48 c && leb c 57

abbrev pub all_digits : List ℕ → Bool
all_digits [] = true
all_digits (c ∷ word) = is_digit c && all_digits word

abbrev pub signed_by : Bool → ℕ → ℤ
signed_by true n = neg_ℤ (pos n)
signed_by false n = pos n

abbrev pub limited : Bool → ℕ → Result ℤ NoNumber
limited negative n = cond (ltb n 256) (Ok (signed_by negative n)) (Err no.Wrong)

abbrev pub numeral : Bool → List ℕ → Result ℤ NoNumber
numeral negative [] = Err no.Wrong
numeral negative (c ∷ word) = cond (all_digits (c ∷ word)) (limited negative (read_on 0 (c ∷ word))) (Err no.Wrong)

abbrev pub number_of : List ℕ → Result ℤ NoNumber
number_of [] = Err no.Missing
number_of (c ∷ word) = cond (eqb c 45) (numeral true word) (numeral false (c ∷ word))

-- the number at a place, counted from 0
abbrev pub number_at : List ℕ → ℕ → Result ℤ NoNumber
number_at text place = number_of (get_or (words_of text) place [])

-- ---- sixteen of them, row by row
abbrev pub row_from : List ℤ → ℕ → Quad
row_from l i = record { a = get_or l i (pos 0); b = get_or l (i + 1) (pos 0); c = get_or l (i + 2) (pos 0); d = get_or l (i + 3) (pos 0) }

abbrev pub tile_from : List ℤ → Tile
tile_from l = record { a = row_from l 0; b = row_from l 4; c = row_from l 8; d = row_from l 12 }

-- behind sixteen numbers nothing may stand
abbrev pub closing : List ℤ → Result ℤ NoNumber → Result Tile Unread
closing l (Ok z) = Err unread.More
closing l (Err no.Wrong) = Err unread.More
closing l (Err no.Missing) = Ok (tile_from l)

-- behind each of them the next is asked for; the first word that is none is told with its place, or the place where the text ends
abbrev pub going : Result ℤ NoNumber → ℕ → (ℤ → Result Tile Unread) → Result Tile Unread
going (Ok z) place next = next z
going (Err no.Wrong) place next = Err (unread.Wrong place)
going (Err no.Missing) place next = Err (unread.Missing place)

-- so many numbers are still asked for behind those of l
unfoldable pub read_from : (ℕ → Result ℤ NoNumber) → ℕ → List ℤ → Result Tile Unread
read_from at zero l = closing l (at (length l))
read_from at (suc left) l = going (at (length l)) (length l) (λ z. read_from at left (l ++ (z ∷ [])))

abbrev pub reading_of : List ℕ → Result Tile Unread
reading_of text = read_from (number_at text) 16 []
