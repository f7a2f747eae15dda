-- The table of refusals, number by number: each is given exactly where its own test holds and none before it does. Assumes nothing.
use Rattle.std.specs.Prelude.{◌≡◌, refl, Bool, true, false, ◌&&◌, not, List, ℕ, eqb, ℤ}
use Rattle.limits.specs.Refusals.{first}
use Rattle.finishing.specs.Finish.{refused1, refused2, refused4, refused5, refused7, finish_answer}

-- a number, by the five tests in the table's order
pub record Exactly (one two four five seven : Bool) (number : ℕ) : Type 0 where
  pub is_1 : eqb number 1 ≡ one
  pub is_2 : eqb number 2 ≡ (not one && two)
  pub is_4 : eqb number 4 ≡ (not one && not two && four)
  pub is_5 : eqb number 5 ≡ (not one && not two && not four && five)
  pub is_7 : eqb number 7 ≡ (not one && not two && not four && not five && seven)
  pub is_0 : eqb number 0 ≡ (not one && not two && not four && not five && not seven)

exactly : (one two four five seven : Bool) →
    Exactly one two four five seven (first one 1 (first two 2 (first four 4 (first five 5 (first seven 7 0)))))
exactly true two four five seven = record { is_1 = refl; is_2 = refl; is_4 = refl; is_5 = refl; is_7 = refl; is_0 = refl }
exactly false true four five seven = record { is_1 = refl; is_2 = refl; is_4 = refl; is_5 = refl; is_7 = refl; is_0 = refl }
exactly false false true five seven = record { is_1 = refl; is_2 = refl; is_4 = refl; is_5 = refl; is_7 = refl; is_0 = refl }
exactly false false false true seven = record { is_1 = refl; is_2 = refl; is_4 = refl; is_5 = refl; is_7 = refl; is_0 = refl }
exactly false false false false true = record { is_1 = refl; is_2 = refl; is_4 = refl; is_5 = refl; is_7 = refl; is_0 = refl }
exactly false false false false false = record { is_1 = refl; is_2 = refl; is_4 = refl; is_5 = refl; is_7 = refl; is_0 = refl }

pub given_exactly : (nx ny : ℤ) (indices bests : List ℤ) (diagonal : ℤ) (asked : Bool) (held room : ℕ) →
    Exactly (refused1 nx ny) (refused2 nx ny diagonal held) (refused4 nx ny indices) (refused5 nx ny indices bests asked room) (refused7 indices bests)
    (finish_answer nx ny indices bests diagonal asked held room)
unfolding finish_answer
given_exactly nx ny indices bests diagonal asked held room =
    exactly (refused1 nx ny) (refused2 nx ny diagonal held) (refused4 nx ny indices) (refused5 nx ny indices bests asked room) (refused7 indices bests)
