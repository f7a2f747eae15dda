-- What Numbers says of each case of an answer. Assumes nothing.
use Rattle.refusals.specs.declared.Refusal.{Refusal}
use Rattle.std.specs.Prelude.{◌≡◌, refl, List, ◌++◌, ℕ, ◌≤◌, ◌<◌, ℤ, length, drop, Err, Ok, Result}
use Rattle.std.proofs.Common.{le-leb}
use Rattle.std.proofs.lemmas.Bool.{lt-leb}
use Rattle.planes.specs.declared.Planes.{Planes}
use Rattle.levels.specs.Refusals.{level_number}
use Rattle.levels.specs.Numbers.{numbers_per_level, planes_numbers, given_number, given_numbers}

-- a number, and lent numbers afterwards, that are the answer's
module _ (answer : Result Planes Refusal) (held : List ℤ) where
  abbrev pub GivenBy : ℕ → List ℤ → Type 0
  GivenBy number after = (number ≡ given_number answer (length held)) × (after ≡ given_numbers answer held)

  pub given_refused : {refusal : Refusal} → answer ≡ Err refusal → GivenBy (level_number answer) held
  given_refused e = rw e (refl, refl)

  pub given_5 : {planes : Planes} → answer ≡ Ok planes → length held < numbers_per_level → GivenBy 5 held
  given_5 e short = let t = lt-leb numbers_per_level (length held) short in rw e (rw t (refl, refl))

  pub given_0 : {planes : Planes} → answer ≡ Ok planes → numbers_per_level ≤ length held → GivenBy 0 (planes_numbers planes ++ drop numbers_per_level held)
  given_0 e room = let t = le-leb numbers_per_level (length held) room in rw e (rw t (refl, refl))
