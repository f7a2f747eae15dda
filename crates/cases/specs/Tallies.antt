-- A tally after one line more, which is a case or none. Counts wrap at 64 bits, which no file of vectors reaches.
use Rattle.std.specs.Prelude.{ℕ, ◌+◌, ◌%◌, ◌^◌}
use Rattle.cases.specs.declared.Tally.{Tally}
use Rattle.cases.specs.declared.Outcome.{Outcome}
use Rattle.cases.specs.declared.Outcome.TheVariants.{NoCase, Agrees, Differs}

abbrev one_more : ℕ → ℕ
one_more n = (n + 1) % 2 ^ 64

abbrev pub tallied_by : Tally → Outcome → Tally
tallied_by t NoCase = record { lines = one_more t.lines; cases = t.cases; differ = t.differ }
tallied_by t Agrees = record { lines = one_more t.lines; cases = one_more t.cases; differ = t.differ }
tallied_by t Differs = record { lines = one_more t.lines; cases = one_more t.cases; differ = one_more t.differ }
