-- The report's text. 01, "Plan file", with the header of 02, Three: the program prints
--
--   plan blocks=1 searched=0 kept=0 size=8x8 pel=2 slots=10
--   0 bad=0 half=0 lambda=0 predictor=3,-4 sad=10 average=none window=0,-1,0,-1
--
-- "First line: count, records with BAD set, block size, pel, slots": for the second there are two counts, and "the header gains `kept=` after" `searched`.
-- "Then each record's number, its two flags, lambda, predictor, SAD, average offset or `none`, and x least, x greatest, y least, y greatest." Definitions
-- alone.
use Rattle.std.specs.Prelude.{Bool, not, List, ◌++◌, ℕ, ltb, ℤ, pos, nat_abs, length, drop, None, Option, Some, Result}
use Prim.Native.String.{String}
use Rattle.refusals.specs.declared.Refusal.{Refusal}
use Rattle.refusals.specs.Numbers.{answered}
use Rattle.limits.specs.Refusals.{first, kept}
use Rattle.records.specs.declared.Pair.{Pair}
use Rattle.records.specs.declared.Record.{Record}
use Rattle.report_text.specs.Text.{codes, decimal}
use Rattle.plan_file.specs.declared.Head.{Head}
use Rattle.window.specs.Windows.{bad_flag, half_flag}
use Rattle.record_slice.specs.RecordSlice.{record_at}
use Rattle.plan_file.specs.PlanFile.{words_of, trailer_of, is_plan_file, wide_file, head_of}

-- ---- the two kinds of line
abbrev pub field : String → ℤ → List ℕ
field label number = codes label ++ decimal number

abbrev pub pair_text : Pair → List ℕ
pair_text pair = decimal pair.first ++ field "," pair.second

abbrev pub offset_text : Option ℤ → List ℕ
offset_text (Some place) = decimal place
offset_text None = codes "none"

unfoldable pub head_text : Head → List ℕ
head_text head =
    field "plan blocks=" head.count
    ++ field " searched=" head.searched
    ++ field " kept=" head.kept
    ++ field " size=" head.width
    ++ field "x" head.height
    ++ field " pel=" head.pel
    ++ field " slots=" head.slots
    ++ codes "\n"

unfoldable pub line_text : ℤ → Record → List ℕ
line_text number r =
    decimal number
    ++ field " bad=" (bad_flag r.flags)
    ++ field " half=" (half_flag r.flags)
    ++ field " lambda=" r.lambda
    ++ (codes " predictor=" ++ pair_text r.predictor)
    ++ field " sad=" r.sad
    ++ (codes " average=" ++ offset_text r.average)
    ++ (codes " window=" ++ pair_text r.window_x)
    ++ (codes "," ++ pair_text r.window_y)
    ++ codes "\n"

-- ---- the answers. "If several apply, the lowest is given; a file is asked for 8 first."
-- of a text that is to go into a line: 5 "a lent output is too short", and then 7 where the file is refused for a window
abbrev pub text_number : Bool → List ℕ → ℕ → ℕ
text_number wide text room = first (ltb room (length text)) 5 (first wide 7 0)

-- the lent line afterwards: "A refusal .. changes nothing lent", "a longer buffer keeps its tail"
abbrev pub line_after : ℕ → List ℕ → List ℕ → List ℕ
line_after number text line = kept number (text ++ drop (length text) line) line

-- the first line
abbrev pub head_number : List ℕ → ℕ → ℕ
head_number file room = first (not (is_plan_file file)) 8 (text_number (wide_file file) (head_text (head_of file)) room)

unfoldable pub head_answer : List ℕ → ℕ → Result ℕ Refusal
head_answer file room = answered (head_number file room) (length (head_text (head_of file)))

unfoldable pub head_line : List ℕ → List ℕ → List ℕ
head_line file line = line_after (head_number file (length line)) (head_text (head_of file)) line

-- a record's line: 4 where no record has the number
abbrev pub line_of : List ℕ → ℕ → List ℕ
line_of file number = line_text (pos number) (record_at (words_of file) number)

abbrev pub line_number : List ℕ → ℕ → ℕ → ℕ
line_number file number room =
    first (not (is_plan_file file)) 8
    (first (not (ltb number (nat_abs (trailer_of file).count))) 4
    (text_number (wide_file file) (line_of file number) room))

unfoldable pub line_answer : List ℕ → ℕ → ℕ → Result ℕ Refusal
line_answer file number room = answered (line_number file number room) (length (line_of file number))

unfoldable pub line_line : List ℕ → ℕ → List ℕ → List ℕ
line_line file number line = line_after (line_number file number (length line)) (line_of file number) line
