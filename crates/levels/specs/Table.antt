-- The refusals of a level, number by number: each is given exactly where its own test does not hold and all before it do. Assumes nothing.
use Rattle.std.specs.Prelude.{◌≡◌, Bool, true, false, ◌&&◌, not, eqb, leb}
use Rattle.std.proofs.Math.Path.{refl}
use Prim.Native.Nat.{ℕ}
use Rattle.std.proofs.Common.{arith}
use Rattle.limits.specs.Refusals.{first}
use Rattle.limits.specs.Refused.{first_most}
use Rattle.planes.specs.declared.Planes.{Planes}
use Rattle.level_places.specs.declared.SuperFrame.{SuperFrame}
use Rattle.level_places.specs.Levels.{planes_of}
use Rattle.levels.specs.Refusals.{holds2, holds9, lengths_kept, refusal_of, level_answer, level_number}
use Rattle.refusals.specs.Numbers.{answered}
use Rattle.refusals.specs.Laws.{number_back}
use Rattle.levels.specs.Numbers.{numbers_per_level, given_number}

-- a number, by the four tests in their order: where each of them refuses
pub record Exactly (two nine three five : Bool) (number : ℕ) : Type 0 where
  pub is_2 : eqb number 2 ≡ two
  pub is_9 : eqb number 9 ≡ (not two && nine)
  pub is_3 : eqb number 3 ≡ (not two && not nine && three)
  pub is_5 : eqb number 5 ≡ (not two && not nine && not three && five)
  pub is_0 : eqb number 0 ≡ (not two && not nine && not three && not five)

exactly : (two nine three room : Bool) (planes : Planes) (n : ℕ) → leb numbers_per_level n ≡ room →
    Exactly two nine three (not room) (given_number (answered (first two 2 (first nine 9 (first three 3 0))) planes) n)
exactly true nine three room planes n e = record { is_2 = refl; is_9 = refl; is_3 = refl; is_5 = refl; is_0 = refl }
exactly false true three room planes n e = record { is_2 = refl; is_9 = refl; is_3 = refl; is_5 = refl; is_0 = refl }
exactly false false true room planes n e = record { is_2 = refl; is_9 = refl; is_3 = refl; is_5 = refl; is_0 = refl }
exactly false false false true planes n e = rw e (record { is_2 = refl; is_9 = refl; is_3 = refl; is_5 = refl; is_0 = refl })
exactly false false false false planes n e = rw e (record { is_2 = refl; is_9 = refl; is_3 = refl; is_5 = refl; is_0 = refl })

module _ (f : SuperFrame) (luma u v source_luma source_u source_v : ℕ) where
  -- of the numbers for a host, where so many are lent: 5 is asked last
  pub given_exactly : (room : ℕ) →
      Exactly (not (holds2 f)) (not (holds9 f)) (not (lengths_kept f luma u v source_luma source_u source_v (planes_of f))) (not (leb numbers_per_level room))
      (given_number (level_answer f luma u v source_luma source_u source_v) room)
  unfolding level_answer refusal_of
  given_exactly room =
      exactly (not (holds2 f)) (not (holds9 f)) (not (lengths_kept f luma u v source_luma source_u source_v (planes_of f))) (leb numbers_per_level room)
      (planes_of f) room refl

  -- the number of the answer itself
  pub number_of_answer : level_number (level_answer f luma u v source_luma source_u source_v) ≡ refusal_of f luma u v source_luma source_u source_v
  unfolding level_answer refusal_of
  number_of_answer =
      number_back (planes_of f) (refusal_of f luma u v source_luma source_u source_v)
      (first_most (not (holds2 f)) (omega arith)
      (first_most (not (holds9 f)) (omega arith)
      (first_most (not (lengths_kept f luma u v source_luma source_u source_v (planes_of f))) (omega arith) (omega arith))))
