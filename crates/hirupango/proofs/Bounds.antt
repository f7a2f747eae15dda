-- No number of the table is above 9, so that a refusal's number is the one that the entry was refused by. Assumes nothing.
use Rattle.std.specs.Prelude.{◌≤◌, Bool, true, false, leb, cond, List, ℕ, ℤ, Result, Ok, Err}
use Rattle.std.proofs.Common.{arith}
use Rattle.refusals.specs.declared.Refusal.{Refusal}
use Rattle.refusals.specs.declared.Refusal.TheVariants.{Setting, Limit, PlaneLength, OutsideGrid, OutputLength, Misfit, Window, NoPlanFile, NoLevel}
use Rattle.refusals.specs.Numbers.{number_of}
use Rattle.limits.specs.Refused.{first_most}
use Rattle.planes.specs.declared.Planes.{Planes}
use Rattle.levels.specs.Numbers.{numbers_per_level, given_number}
use Rattle.serpentine.specs.Answers.{order_refusal}
use Rattle.evaluation.specs.declared.Request.{Request}
use Rattle.evaluation.specs.Refusals.{refusal_of}
use Rattle.evaluation.specs.Evaluated.{evaluate_answer}
use Rattle.finishing.specs.Finish.{finish_answer}

pub number_small : (refusal : Refusal) → number_of refusal ≤ 9
number_small Setting = omega arith
number_small Limit = omega arith
number_small PlaneLength = omega arith
number_small OutsideGrid = omega arith
number_small OutputLength = omega arith
number_small Misfit = omega arith
number_small Window = omega arith
number_small NoPlanFile = omega arith
number_small NoLevel = omega arith

-- ---- a level's, with 5 where too few numbers are lent
none_or_5 : (room : Bool) → cond room 0 5 ≤ 9
none_or_5 true = omega arith
none_or_5 false = omega arith

pub given_small : (answer : Result Planes Refusal) (room : ℕ) → given_number answer room ≤ 9
given_small (Ok planes) room = none_or_5 (leb numbers_per_level room)
given_small (Err refusal) room = number_small refusal

-- ---- the others', test by test
pub order_small : (nx ny : ℤ) (numbers : ℕ) → order_refusal nx ny numbers ≤ 9
unfolding order_refusal
order_small nx ny numbers = first_most {number = 1} _ (omega arith) (first_most {number = 2} _ (omega arith) (first_most {number = 5} {rest = 0} _ (omega arith) (omega arith)))

pub evaluate_small : (q : Request) (records : List ℤ) (luma u v referenceLuma referenceU referenceV : List ℕ) (bests : ℕ) →
    evaluate_answer q records luma u v referenceLuma referenceU referenceV bests ≤ 9
unfolding evaluate_answer refusal_of
evaluate_small q records luma u v referenceLuma referenceU referenceV bests =
    first_most {number = 1} _ (omega arith) (first_most {number = 2} _ (omega arith) (first_most {number = 3} _ (omega arith) (first_most {number = 5} _ (omega arith) (first_most {number = 7} {rest = 0} _ (omega arith) (omega arith)))))

pub finish_small : (nx ny : ℤ) (indices bests : List ℤ) (diagonal : ℤ) (asked : Bool) (held room : ℕ) →
    finish_answer nx ny indices bests diagonal asked held room ≤ 9
unfolding finish_answer
finish_small nx ny indices bests diagonal asked held room =
    first_most {number = 1} _ (omega arith) (first_most {number = 2} _ (omega arith) (first_most {number = 4} _ (omega arith) (first_most {number = 5} _ (omega arith) (first_most {number = 7} {rest = 0} _ (omega arith) (omega arith)))))
