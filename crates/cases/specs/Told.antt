-- That a comparison tells, of a case's answers and the values beside them. Definitions alone.
-- `converts value number` says that a value, made a number, is this one.
use Rattle.std.specs.Prelude.{◌≡◌, List, [], ◌∷◌, Bool, true, ℤ, ⊤}

-- one for one: none is missing, and none is there beside them
abbrev pub Each : {T : Type 0} → (T → ℤ → Type 0) → List T → List ℤ → Type 0
Each holds [] [] = ⊤
Each holds [] (n ∷ numbers) = ⊥
Each holds (v ∷ values) [] = ⊥
Each holds (v ∷ values) (n ∷ numbers) = holds v n × Each holds values numbers

-- true exactly where each answer is its value
pub record Tells {T : Type 0} (converts : T → ℤ → Type 0) (told : Bool) (values : List T) (answers : List ℤ) : Type 0 where
  pub only : told ≡ true → Each converts values answers
  pub all : Each (λ value answer. (number : ℤ) → converts value number → answer ≡ number) values answers → told ≡ true
