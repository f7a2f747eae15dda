-- Above 0 an answer is a refusal with its number. A text's length is no refusal, and one text has one length. Assumes nothing.
use Rattle.std.specs.Prelude.{◌≡◌, refl, ℕ, zero, suc, ◌<◌, Result, Ok, Err}
use Rattle.std.proofs.Common.{arith}
use Rattle.refusals.specs.declared.Refusal.{Refusal}
use Rattle.refusals.specs.Numbers.{line_of, answered}

-- What an entry then leaves of what is lent, `kept_refused` of limits/Refused says.
pub refused_with : {X : Type 0} (n : ℕ) (done : X) → 0 < n → answered n done ≡ Err (line_of n)
refused_with zero done h = absurd (omega arith)
refused_with (suc n) done h = refl

module _ {answer : Result ℕ Refusal} {length : ℕ} (gives : answer ≡ Ok length) where
  pub not_refused : {refusal : Refusal} → answer ≡ Err refusal → ⊥
  not_refused e = cc

  pub length_is : {bytes : ℕ} → answer ≡ Ok bytes → bytes ≡ length
  length_is e = cc
