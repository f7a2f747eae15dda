-- What a number tells of the answer, and an answer of its number.
use Rattle.std.specs.Prelude.{◌≡◌, ℕ, zero, suc, ◌≤◌, Result, Ok, Err}
use Rattle.std.proofs.Common.{refl, sym, ap}
use native.Mathlib.Omega.{arith}
use Rattle.refusals.specs.declared.Refusal.{Refusal}
use Rattle.refusals.specs.declared.Refusal.TheVariants.{Setting, Limit, PlaneLength, OutsideGrid, OutputLength, Misfit, Window, NoPlanFile, NoLevel}
use Rattle.refusals.specs.Numbers.{number_of, line_of, answered, answer_number}

-- Each line of the table has a number of its own, so that no two refusals are one.
pub numbered : (refusal : Refusal) → line_of (number_of refusal) ≡ refusal
numbered Setting = refl
numbered Limit = refl
numbered PlaneLength = refl
numbered OutsideGrid = refl
numbered OutputLength = refl
numbered Misfit = refl
numbered Window = refl
numbered NoPlanFile = refl
numbered NoLevel = refl

-- The number of an answer is the number that it was given by: the table ends at 9.
pub number_back : {X : Type 0} (done : X) (n : ℕ) → n ≤ 9 → answer_number (answered n done) ≡ n
number_back done zero small = refl
number_back done (suc zero) small = refl
number_back done (suc (suc zero)) small = refl
number_back done (suc (suc (suc zero))) small = refl
number_back done (suc (suc (suc (suc zero)))) small = refl
number_back done (suc (suc (suc (suc (suc zero))))) small = refl
number_back done (suc (suc (suc (suc (suc (suc zero)))))) small = refl
number_back done (suc (suc (suc (suc (suc (suc (suc zero))))))) small = refl
number_back done (suc (suc (suc (suc (suc (suc (suc (suc zero)))))))) small = refl
number_back done (suc (suc (suc (suc (suc (suc (suc (suc (suc zero))))))))) small = refl
number_back done (suc (suc (suc (suc (suc (suc (suc (suc (suc (suc n)))))))))) small = omega arith

-- What is done has the number 0 alone, and no refusal has it.
pub done_on_0 : {X : Type 0} (done given : X) (n : ℕ) → Ok given ≡ answered n done → n ≡ 0
done_on_0 done given zero same = refl
done_on_0 done given (suc n) same = cc

pub refused_above_0 : {X : Type 0} (done : X) (refusal : Refusal) (n : ℕ) → Err refusal ≡ answered n done → 1 ≤ n
refused_above_0 done refusal zero same = cc
refused_above_0 done refusal (suc n) same = omega arith

-- A refusal is passed on by an entry that has another value.
pub passed_on : {X Y : Type 0} (done : X) (other : Y) (refusal : Refusal) (n : ℕ) → Err refusal ≡ answered n done → Err refusal ≡ answered n other
passed_on done other refusal zero same = cc
passed_on done other refusal (suc n) same = cc

-- ---- what was done is what is given, and on 0 alone
abbrev given_or : {X : Type 0} → X → Result X Refusal → X
given_or other (Ok given) = given
given_or other (Err refusal) = other

pub done_means : {X : Type 0} {done given : X} (n : ℕ) → answered n done ≡ Ok given → (n ≡ 0) × (given ≡ done)
done_means {done} zero e = (refl, sym (ap (given_or done) e))
done_means (suc n) e = cc
