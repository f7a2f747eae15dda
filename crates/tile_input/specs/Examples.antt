-- A few words and texts, and what they give, computed from the definitions. Assumes nothing.
use Rattle.std.specs.Prelude.{◌≡◌, refl, [], ◌∷◌, ◌++◌, pos, negsuc, Ok, Err}
use Rattle.distance.specs.Fours.{Quad, Tile}
use Rattle.report_text.specs.Text.{codes}
use Rattle.tile_input.specs.declared.NoNumber.TheVariants as no
use Rattle.tile_input.specs.declared.Unread.TheVariants as unread
use Rattle.tile_input.specs.Input.{number_of, words_of, read_from, reading_of}

pub zero_is : number_of (codes "0") ≡ Ok (pos 0)
zero_is = refl

pub least_is : number_of (codes "-255") ≡ Ok (negsuc 254)
least_is = refl

pub greatest_is : number_of (codes "255") ≡ Ok (pos 255)
greatest_is = refl

-- zeros in front count nothing
pub zeros_in_front : number_of (codes "007") ≡ Ok (pos 7)
zeros_in_front = refl

pub too_great : number_of (codes "256") ≡ Err no.Wrong
too_great = refl

pub minus_alone : number_of (codes "-") ≡ Err no.Wrong
minus_alone = refl

pub plus_sign : number_of (codes "+1") ≡ Err no.Wrong
plus_sign = refl

pub broken : number_of (codes "1.5") ≡ Err no.Wrong
broken = refl

pub two_signs : number_of (codes "--1") ≡ Err no.Wrong
two_signs = refl

-- a tab (9), a line feed (10), two blanks side by side, and blanks at both ends
pub words_are : words_of (codes " 1" ++ (9 ∷ codes "-23") ++ (10 ∷ codes "4  5 ")) ≡ codes "1" ∷ codes "-23" ∷ codes "4" ∷ codes "5" ∷ []
words_are = refl

-- ---- texts of sixteen words, and of fewer and more
abbrev nothing : Quad
nothing = record { a = pos 0; b = pos 0; c = pos 0; d = pos 0 }

abbrev dot : Tile
dot = record { a = record { a = pos 1; b = pos 0; c = pos 0; d = pos 0 }; b = nothing; c = nothing; d = nothing }

pub sixteen_given : reading_of (codes "1 0 0 0 0 0 0 0 0 0 0 0 0 0 0 0") ≡ Ok dot
unfolding read_from
sixteen_given = refl

pub sixteenth_missing : reading_of (codes "1 0 0 0 0 0 0 0 0 0 0 0 0 0 0") ≡ Err (unread.Missing 15)
unfolding read_from
sixteenth_missing = refl

pub one_too_many : reading_of (codes "1 0 0 0 0 0 0 0 0 0 0 0 0 0 0 0 0") ≡ Err unread.More
unfolding read_from
one_too_many = refl

pub third_wrong : reading_of (codes "1 0 256 0 0 0 0 0 0 0 0 0 0 0 0 0") ≡ Err (unread.Wrong 2)
unfolding read_from
third_wrong = refl

pub empty_text : reading_of [] ≡ Err (unread.Missing 0)
unfolding read_from
empty_text = refl
