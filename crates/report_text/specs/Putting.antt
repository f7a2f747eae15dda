-- A text laid into a line that is lent. Definitions alone.
use Rattle.std.specs.Prelude.{cond, List, ◌++◌, ℕ, ltb, length, drop, Result}
use Rattle.refusals.specs.declared.Refusal.{Refusal}
use Rattle.refusals.specs.Numbers.{answered}

-- 01's table: 5 "a lent output is too short". "A refusal returns the number and changes nothing lent"; "a longer buffer keeps its tail".
abbrev pub lent_answer : List ℕ → ℕ → Result ℕ Refusal
lent_answer text room = answered (cond (ltb room (length text)) 5 0) (length text)

abbrev pub lent_line : List ℕ → List ℕ → List ℕ
lent_line text line = cond (ltb (length line) (length text)) line (text ++ drop (length text) line)
