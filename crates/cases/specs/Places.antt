-- What a line has, and that its size is as asked.
use Rattle.std.specs.Prelude.{◌≡◌, ℕ, ◌+◌, length}
use Rattle.cases.specs.declared.Case.{Case}

-- a line with so many inputs, and so many numbers in all, has just those that are asked for: none is missing, and none is there beside them
pub record Sized (asked answers inputs count : ℕ) : Type 0 where
  pub inputs_are : inputs ≡ asked
  pub all_are : count ≡ asked + answers

-- the same of a case
abbrev pub IsSized : ℕ → ℕ → Case → Type 0
IsSized asked answers c = Sized asked answers (length c.inputs.now) (length c.inputs.now + length c.answers.now)
