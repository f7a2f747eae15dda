-- What the parts of the code answer: a word as far as it is read, byte by byte, and the number at a place behind it. That this is what Input says
-- is in Scanned.
use Rattle.std.specs.Prelude.{Bool, true, false, cond, ◌&&◌, List, [], ◌∷◌, ℕ, ◌+◌, ◌-◌, ◌*◌, eqb, ltb, ℤ, Result, Ok, Err}
use Rattle.tile_input.specs.declared.NoNumber.{NoNumber}
use Rattle.tile_input.specs.declared.NoNumber.TheVariants as no
use Rattle.tile_input.specs.declared.Word.{Word}
use Rattle.tile_input.specs.declared.Word.TheVariants as word
use Rattle.tile_input.specs.Input.{is_blank, is_digit, signed_by}

-- one digit more
abbrev pub lengthened : Bool → ℕ → ℕ → Word
lengthened negative size c = cond (is_digit c) (cond (ltb (size * 10 + (c - 48)) 256) (word.Digits negative (size * 10 + (c - 48))) word.Wrong) word.Wrong

abbrev pub grown : Word → ℕ → Word
grown word.Unbegun c = cond (eqb c 45) word.Minus (lengthened false 0 c)
grown word.Minus c = lengthened true 0 c
grown (word.Digits negative size) c = lengthened negative size c
grown word.Wrong c = word.Wrong

abbrev pub is_begun : Word → Bool
is_begun word.Unbegun = false
is_begun word.Minus = true
is_begun (word.Digits negative size) = true
is_begun word.Wrong = true

-- a blank ends a word
abbrev pub after : Word → ℕ → Word
after w c = cond (is_blank c) word.Unbegun (grown w c)

abbrev pub told : Word → Result ℤ NoNumber
told word.Unbegun = Err no.Missing
told word.Minus = Err no.Wrong
told (word.Digits negative size) = Ok (signed_by negative size)
told word.Wrong = Err no.Wrong

-- the number that stands so many words behind a word that is begun, in what is left of the text
abbrev pub number_from : ℕ → Word → List ℕ → Result ℤ NoNumber
number_from left w [] = cond (eqb left 0) (told w) (Err no.Missing)
number_from left w (c ∷ text) =
    cond (is_blank c && is_begun w)
    (cond (eqb left 0) (told w) (number_from (left - 1) word.Unbegun text))
    (number_from left (after w c) text)
