-- 02, "Three", as numbers: what the header says of a plan file with two records that are searched, one for each way in which a window can be empty, and two
-- that aren't BAD. Definitions alone; the theorem is Table's.
use Rattle.std.specs.Prelude.{List, [], ◌∷◌, ◌++◌, ℕ, ℤ, pos, negsuc, Result, Ok, Err}
use Rattle.records.specs.Packing.{absent_word}
use Rattle.refusals.specs.declared.Refusal.{Refusal}
use Rattle.refusals.specs.Numbers.{number_of}
use Rattle.plan_file.specs.declared.Head.{Head}
use Rattle.plan_file.specs.PlanFile.{plan_of}
use Rattle.plan_file.specs.Examples.{as_bytes}
use Rattle.numbers_to_hold.specs.Rows.{Row, is}

-- a record's words, of two window words and its last one
abbrev given : ℤ → ℤ → ℤ → List ℤ
given x y last =
    absent_word ∷ absent_word ∷ absent_word ∷ absent_word ∷ absent_word ∷ pos 0 ∷ pos 0 ∷ pos 0 ∷ x ∷ y ∷ pos 0 ∷ last ∷ []

-- the pairs (0,-1), (5,5), (0,2), (32,-199) and (-32768,32767)
abbrev empty : ℤ
empty = negsuc 65535

abbrev single : ℤ
single = pos 327685

abbrev three : ℤ
three = pos 131072

abbrev far : ℤ
far = negsuc 13041631

abbrev huge : ℤ
huge = pos 2147450880

-- eight records of 8x8, pel 2, radius 1: 48 x 8 bytes back
abbrev file : List ℕ
file =
    as_bytes
    (
    -- searched: 1x1, and 3x3
    given single single (pos 1) ++ given three three (pos 1)
    -- kept: 3 by 0, 0 by 3, -230 by -230, and 0 by 65,536
    ++ given three empty (pos 1) ++ given empty three (pos 1) ++ given far far (pos 1) ++ given empty huge (pos 1)
    -- neither: not BAD, and NEGATIVE alone
    ++ given three three (pos 0) ++ given empty empty (pos 2)
    ++ (pos 384 ∷ pos 8 ∷ pos 8 ∷ pos 8 ∷ pos 2 ∷ pos 1 ∷ pos 0 ∷ pos 1 ∷ []))

-- blocks, searched and kept of an accepted file
abbrev counted : Result Head Refusal → List ℤ
counted (Ok head) = head.count ∷ head.searched ∷ head.kept ∷ []
counted (Err refusal) = pos (number_of refusal) ∷ []

unfoldable pub of_counts : List Row
of_counts =
    is (counted (plan_of file)) (pos 8 ∷ pos 2 ∷ pos 4 ∷ [])
    ∷ []
