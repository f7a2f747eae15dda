-- The table of refusals, number by number: each is given exactly where its own test does not hold and all before it do. Assumes nothing.
use Rattle.std.specs.Prelude.{◌≡◌, refl, Bool, true, false, ◌&&◌, not, List, ℕ, eqb, ℤ, length}
use Rattle.limits.specs.Refusals.{first}
use Rattle.block.specs.declared.Settings.{Settings}
use Rattle.passes.specs.Fold.{all_fit}
use Rattle.planes.specs.Planes.{holds3}
use Rattle.planning.specs.Refusals.{block_count, holds1, holds2, vectors_fit, order_holds, has_room, refusal_of}

-- a number, by the six tests in the table's order: where each of them refuses
pub record Exactly (one two three four five six : Bool) (number : ℕ) : Type 0 where
  pub is_1 : eqb number 1 ≡ one
  pub is_2 : eqb number 2 ≡ (not one && two)
  pub is_3 : eqb number 3 ≡ (not one && not two && three)
  pub is_4 : eqb number 4 ≡ (not one && not two && not three && four)
  pub is_5 : eqb number 5 ≡ (not one && not two && not three && not four && five)
  pub is_6 : eqb number 6 ≡ (not one && not two && not three && not four && not five && six)
  pub is_0 : eqb number 0 ≡ (not one && not two && not three && not four && not five && not six)

exactly : (one two three four five six : Bool) → Exactly one two three four five six
    (first one 1 (first two 2 (first three 3 (first four 4 (first five 5 (first six 6 0))))))
exactly true two three four five six = record { is_1 = refl; is_2 = refl; is_3 = refl; is_4 = refl; is_5 = refl; is_6 = refl; is_0 = refl }
exactly false true three four five six = record { is_1 = refl; is_2 = refl; is_3 = refl; is_4 = refl; is_5 = refl; is_6 = refl; is_0 = refl }
exactly false false true four five six = record { is_1 = refl; is_2 = refl; is_3 = refl; is_4 = refl; is_5 = refl; is_6 = refl; is_0 = refl }
exactly false false false true five six = record { is_1 = refl; is_2 = refl; is_3 = refl; is_4 = refl; is_5 = refl; is_6 = refl; is_0 = refl }
exactly false false false false true six = record { is_1 = refl; is_2 = refl; is_3 = refl; is_4 = refl; is_5 = refl; is_6 = refl; is_0 = refl }
exactly false false false false false true = record { is_1 = refl; is_2 = refl; is_3 = refl; is_4 = refl; is_5 = refl; is_6 = refl; is_0 = refl }
exactly false false false false false false = record { is_1 = refl; is_2 = refl; is_3 = refl; is_4 = refl; is_5 = refl; is_6 = refl; is_0 = refl }

pub given_exactly : (s : Settings) (order vectors : List ℤ) (luma u v words indices : ℕ) →
    Exactly (not (holds1 s (length order))) (not (holds2 s (length vectors) && vectors_fit vectors (block_count s.grid))) (not (holds3 s.planes luma u v))
    (not (order_holds s.grid order (block_count s.grid))) (not (has_room (block_count s.grid) words indices))
    (not (all_fit s order vectors (block_count s.grid)))
    (refusal_of s order vectors luma u v words indices)
unfolding refusal_of
given_exactly s order vectors luma u v words indices =
    exactly (not (holds1 s (length order))) (not (holds2 s (length vectors) && vectors_fit vectors (block_count s.grid))) (not (holds3 s.planes luma u v))
    (not (order_holds s.grid order (block_count s.grid))) (not (has_room (block_count s.grid) words indices))
    (not (all_fit s order vectors (block_count s.grid)))
