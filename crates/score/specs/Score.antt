-- The two output words of a block. 01, "Evaluating and choosing", its last paragraph. Definitions alone.
use Rattle.std.specs.Prelude.{Bool, ◌&&◌, cond, ℕ, ◌+◌, ◌-◌, ◌*◌, ◌/◌, ltb, ℤ, pos, ◌+ℤ◌, ◌*ℤ◌, nat_abs, None, Option, Some}
use Rattle.std.specs.Int.Signed.{lt_z, quot_z}
use Rattle.std.specs.Int.{w32}
use Rattle.whole.specs.Numbers.{mod_z, wrapped, fits_i16}

-- "word 2 x index is (x << 16) + y, wrapping"
abbrev pub output_word : ℤ → ℤ → ℤ
output_word x y = wrapped w32 (x *ℤ pos 65536 +ℤ y)

-- "q is 100 x (|x| + |y|) divided by the diagonal, rounded down"
abbrev pub share_of : ℤ → ℤ → ℤ → ℕ
share_of x y diagonal = 100 * (nat_abs x + nat_abs y) / nat_abs diagonal

-- "Over 50, SAD x 20; else over 15, SAD + (SAD x (q - 15)) / 35 x 9; else SAD. Products and sums wrap, / rounds toward zero."
abbrev pub scored : ℤ → ℕ → ℤ
scored sad q =
    cond (ltb 50 q) (wrapped w32 (sad *ℤ pos 20))
    (cond (ltb 15 q) (wrapped w32 (sad +ℤ quot_z (wrapped w32 (sad *ℤ pos (q - 15))) (pos 35) *ℤ pos 9))
    sad)

-- "The word is the low 24 bits of that, with the average's 8 above."
abbrev pub score_word : ℤ → ℤ → ℤ
score_word score average = wrapped w32 (average *ℤ pos 16777216 +ℤ pos (mod_z score 16777216))

unfoldable pub packed_score : ℤ → ℤ → ℤ → ℤ → ℤ → ℤ
packed_score x y sad diagonal average = score_word (scored sad (share_of x y diagonal)) average

-- "Packed score answers 2 for a component beyond i16 or a diagonal of 0 or less."
abbrev pub score_fits : ℤ → ℤ → ℤ → Bool
score_fits x y diagonal = fits_i16 x && fits_i16 y && lt_z (pos 0) diagonal

unfoldable pub score_answer : ℤ → ℤ → ℤ → ℤ → ℤ → Option ℤ
unfolding packed_score
score_answer x y sad diagonal average = cond (score_fits x y diagonal) (Some (packed_score x y sad diagonal average)) None
