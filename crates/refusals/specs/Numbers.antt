-- 01's table of refusals: the number of each line, and what an entry answers that the table gives a number for. Definitions alone.
use Rattle.std.specs.Prelude.{ℕ, zero, suc, cond, eqb, ⊤, Result, Ok, Err}
use Rattle.refusals.specs.declared.Refusal.{Refusal}
use Rattle.refusals.specs.declared.Refusal.TheVariants.{Setting, Limit, PlaneLength, OutsideGrid, OutputLength, Misfit, Window, NoPlanFile, NoLevel}

-- 1 to 8 as 01 has them; 9 is 02's, for a level that a super frame hasn't
abbrev pub number_of : Refusal → ℕ
number_of Setting = 1
number_of Limit = 2
number_of PlaneLength = 3
number_of OutsideGrid = 4
number_of OutputLength = 5
number_of Misfit = 6
number_of Window = 7
number_of NoPlanFile = 8
number_of NoLevel = 9

-- the line with a number. The table has no number above 9.
abbrev pub line_of : ℕ → Refusal
line_of n =
    cond (eqb n 1) Setting
    (cond (eqb n 2) Limit
    (cond (eqb n 3) PlaneLength
    (cond (eqb n 4) OutsideGrid
    (cond (eqb n 5) OutputLength
    (cond (eqb n 6) Misfit
    (cond (eqb n 7) Window
    (cond (eqb n 8) NoPlanFile
    NoLevel)))))))

-- "0: done". An entry that the table gives a number for: its value on 0, on any other number the refusal.
abbrev pub answered : {X : Type 0} → ℕ → X → Result X Refusal
answered zero done = Ok done
answered (suc n) done = Err (line_of (suc n))

-- the same of an entry that has no value
abbrev pub outcome : ℕ → Result ⊤ Refusal
outcome n = answered n tt

-- ---- the number of an answer, as a host gets it
abbrev pub answer_number : {X : Type 0} → Result X Refusal → ℕ
answer_number (Ok done) = 0
answer_number (Err refusal) = number_of refusal
