-- 01's refusals, as numbers: its table's rows 0 to 8 in the table's order, and then what it says of the entries that a host calls. A row gives the definition
-- that an entry's contract cites a smallest input, and the number that the paper has for it. Definitions alone; the theorem is Table's.
use Rattle.std.specs.Prelude.{Bool, true, false, List, [], ◌∷◌, ◌++◌, ℕ, ℤ, pos, negsuc, ◌*ℤ◌, replicate}
use Rattle.records.specs.Packing.{absent_word}
use Rattle.score.specs.Score.{score_answer}
use Rattle.score.specs.Diagonal.{diagonal_answer}
use Rattle.serpentine.specs.Answers.{position_refusal, block_refusal, order_refusal}
use Rattle.plane.specs.declared.Place.{Place}
use Rattle.planes.specs.declared.Sides.{Sides}
use Rattle.planes.specs.declared.Planes.{Planes}
use Rattle.block.specs.declared.Settings.{Settings}
use Rattle.planning.specs.Refusals as planning
use Rattle.evaluation.specs.declared.Request.{Request}
use Rattle.evaluation.specs.Refusals as evaluation
use Rattle.finishing.specs.Finish.{finish_answer}
use Rattle.refusals.specs.Numbers.{answer_number}
use Rattle.plan_file.specs.PlanFile.{plan_of}
use Rattle.plan_lines.specs.Report.{head_answer, line_answer}
use Rattle.plan_file.specs.Examples.{as_bytes}
use Rattle.answer_bytes.specs.BlockCost.{cost_number}
use Rattle.answer_bytes.specs.Word.{word_number}
use Rattle.answer_bytes.specs.Slots.{slots_answer}
use Rattle.numbers_to_hold.specs.Rows.{Row, is}

abbrev gives : ℕ → ℕ → Row
gives number says = is (pos number ∷ []) (pos says ∷ [])

-- ---- a plan of 2x2 blocks of 8x8 in a frame of 16x16, pel 1, and what is changed of it
abbrev sides : ℤ → ℤ → Sides
sides x y = record { x = x; y = y }

abbrev plane : ℤ → ℤ → Place
plane side pel = record { base = 0; pitch = side; width = side; height = side; pel = pel }

abbrev planes : ℤ → Planes
planes pel = record { luma = plane (pos 16) pel; u = plane (pos 8) pel; v = plane (pos 8) pel }

abbrev settings : Bool → ℤ → ℤ → Sides → ℤ → ℤ → Settings
settings exhaustive param height grid pel lambda =
    record {
      search = record { exhaustive = exhaustive; search_param = param };
      weights = record { lambda = lambda; bad_sad = pos 0 };
      level = record { smallest = false; need_luma = false; pel = pel };
      block = sides (pos 8) height;
      grid = grid;
      step = sides (pos 8) (pos 8);
      shift = sides (pos 1) (pos 1);
      planes = planes (pos 1);
    }

abbrev searching : ℤ → Settings
searching param = settings true param (pos 8) (sides (pos 2) (pos 2)) (pos 1) (pos 0)

abbrev order : ℤ → List ℤ
order first = first ∷ pos 0 ∷ pos 1 ∷ pos 0 ∷ pos 0 ∷ pos 1 ∷ pos 1 ∷ pos 1 ∷ []

abbrev vectors : ℤ → List ℤ
vectors first = first ∷ replicate 11 (pos 0)

abbrev plan : Settings → ℕ
plan s = planning.refusal_of s (order (pos 0)) (vectors (pos 0)) 256 64 64 48 4

-- ---- evaluating the same frame against itself; a record of a window of 9x1, BAD
abbrev request : ℤ → ℤ → Request
request height param =
    record {
      measure = false;
      block = sides (pos 8) height;
      shift = sides (pos 1) (pos 1);
      search_param = param;
      pnew = pos 0;
      pel = pos 1;
      source = planes (pos 1);
      reference = planes (pos 1);
    }

abbrev evaluate : ℤ → ℤ → List ℤ → ℕ → ℕ
evaluate height param records luma = evaluation.refusal_of (request height param) records luma 64 64 256 64 64 5

-- The x window is the pair (0, greatest).
abbrev window : ℤ → List ℤ
window greatest =
    absent_word ∷ absent_word ∷ absent_word ∷ absent_word ∷ absent_word ∷ pos 0 ∷ pos 0 ∷ pos 0 ∷ (greatest *ℤ pos 65536) ∷ pos 0 ∷ pos 0 ∷ pos 1 ∷ []

abbrev wide : List ℤ
wide = window (pos 8)

-- ---- finishing one best of a grid
abbrev finish : ℤ → ℤ → ℤ → ℤ → ℕ → ℕ
finish nx index x diagonal room = finish_answer nx (pos 2) (index ∷ []) (x ∷ pos 0 ∷ pos 0 ∷ pos 0 ∷ negsuc 0 ∷ []) diagonal true 12 room

-- ---- a plan file of 80 bytes: one BAD record, radius 1, and what its two lines answer in a line of so many bytes
abbrev file : ℤ → List ℕ
file greatest = as_bytes (window greatest) ++ as_bytes (pos 48 ∷ pos 1 ∷ pos 8 ∷ pos 8 ∷ pos 2 ∷ pos 1 ∷ pos 0 ∷ pos 1 ∷ [])

abbrev head : ℤ → ℕ → ℕ
head greatest room = answer_number (head_answer (file greatest) room)

abbrev line : ℤ → ℕ → ℕ → ℕ
line greatest number room = answer_number (line_answer (file greatest) number room)

-- ---- a cost of two blocks of 4x4, SAD
abbrev cost : ℤ → ℤ → ℤ → ℕ → ℕ → ℕ
cost measure height pitch held room = cost_number measure (pos 4) height (replicate held 0) pitch (replicate 16 0) (pos 4) room

unfoldable pub refusals : List Row
refusals =
    -- "0: done": a plan without a bad block and one with the first block bad, an evaluation of one BAD record, a finishing of one best, an order, a file
    gives (plan (searching (pos 0))) 0
    ∷ gives (planning.refusal_of (searching (pos 0)) (order (pos 0)) (pos 0 ∷ pos 0 ∷ pos 1 ∷ replicate 9 (pos 0)) 256 64 64 48 4) 0
    ∷ gives (evaluate (pos 8) (pos 1) (window (pos 2)) 256) 0
    ∷ gives (finish (pos 2) (pos 0) (pos 0) (pos 1) 8) 0
    ∷ gives (order_refusal (pos 2) (pos 2) 8) 0
    ∷ gives (answer_number (plan_of (file (pos 2)))) 0
    ∷ gives (head (pos 2) 56) 0
    ∷ gives (line (pos 2) 0 131) 0
    -- "1: search not exhaustive, another block size, a grid side below 2, order length not the block count, or radius over 3"
    ∷ gives (plan (settings false (pos 0) (pos 8) (sides (pos 2) (pos 2)) (pos 1) (pos 0))) 1
    ∷ gives (plan (settings true (pos 0) (pos 16) (sides (pos 2) (pos 2)) (pos 1) (pos 0))) 1
    ∷ gives (plan (settings true (pos 0) (pos 8) (sides (pos 4) (pos 1)) (pos 1) (pos 0))) 1
    ∷ gives (planning.refusal_of (searching (pos 0)) [] (vectors (pos 0)) 256 64 64 48 4) 1
    ∷ gives (plan (searching (pos 4))) 1
    ∷ gives (plan (searching (negsuc 3))) 1
    ∷ gives (evaluate (pos 16) (pos 0) [] 256) 1
    ∷ gives (evaluate (pos 8) (pos 4) [] 256) 1
    ∷ gives (finish (pos 1) (pos 0) (pos 0) (pos 1) 8) 1
    ∷ gives (order_refusal (pos 1) (pos 2) 4) 1
    -- "`search_param` i32::MIN, whose `abs` overflows, is 1"; "Radius 3 passes, 4 is 1"
    ∷ gives (plan (searching (negsuc 2147483647))) 1
    ∷ gives (evaluate (pos 8) (negsuc 2147483647) [] 256) 1
    ∷ gives (word_number 1 (slots_answer (pos 3)) 4) 0
    ∷ gives (word_number 1 (slots_answer (negsuc 2)) 4) 0
    ∷ gives (word_number 1 (slots_answer (pos 4)) 4) 1
    -- "2: another number outside the limits above .., vector count not the block count, or a diagonal of 0 or less"
    ∷ gives (plan (settings true (pos 0) (pos 8) (sides (pos 2) (pos 2)) (pos 3) (pos 0))) 2
    ∷ gives (planning.refusal_of (searching (pos 0)) (order (pos 0)) [] 256 64 64 48 4) 2
    ∷ gives (planning.refusal_of (searching (pos 0)) (order (pos 0)) (vectors (pos 32768)) 256 64 64 48 4) 2
    ∷ gives (finish (pos 2) (pos 0) (pos 0) (pos 0) 8) 2
    ∷ gives (position_refusal (pos 2049) (pos 2) (pos 0) (pos 0)) 2
    ∷ gives (word_number 2 (diagonal_answer (pos 16385) (pos 16) (pos 1)) 4) 2
    -- "3: a plane breaks its length rule": "at most 1,073,741,823 bytes", and "base + (height - 1) x pitch + width is at most that length"
    ∷ gives (planning.refusal_of (searching (pos 0)) (order (pos 0)) (vectors (pos 0)) 255 64 64 48 4) 3
    ∷ gives (planning.refusal_of (searching (pos 0)) (order (pos 0)) (vectors (pos 0)) 1073741824 64 64 48 4) 3
    ∷ gives (evaluate (pos 8) (pos 0) [] 255) 3
    -- "4: an order entry, index or serpentine position outside the grid given"
    ∷ gives (planning.refusal_of (searching (pos 0)) (order (pos 2)) (vectors (pos 0)) 256 64 64 48 4) 4
    ∷ gives (finish (pos 2) (pos 4) (pos 0) (pos 1) 8) 4
    ∷ gives (block_refusal (pos 2) (pos 2) (pos 4)) 4
    -- "5: a lent output is too short, or records aren't 12 words or bests" five (02, Two) "numbers for each index (evaluation has no indices: not a multiple
    -- of 12 words)": four numbers of one best are 5, of evaluating as of finishing
    ∷ gives (planning.refusal_of (searching (pos 0)) (order (pos 0)) (vectors (pos 0)) 256 64 64 47 4) 5
    ∷ gives (planning.refusal_of (searching (pos 0)) (order (pos 0)) (vectors (pos 0)) 256 64 64 48 3) 5
    ∷ gives (evaluate (pos 8) (pos 0) (pos 0 ∷ []) 256) 5
    ∷ gives (evaluation.refusal_of (request (pos 8) (pos 1)) (window (pos 2)) 256 64 64 256 64 64 4) 5
    ∷ gives (finish_answer (pos 2) (pos 2) (pos 0 ∷ []) (replicate 4 (pos 0)) (pos 1) false 12 0) 5
    ∷ gives (finish (pos 2) (pos 0) (pos 0) (pos 1) 7) 5
    ∷ gives (order_refusal (pos 2) (pos 2) 7) 5
    -- "6: in planning or packing, a record doesn't fit": lambda 2^30 has the quarter 2^28
    ∷ gives (plan (settings true (pos 0) (pos 8) (sides (pos 2) (pos 2)) (pos 1) (pos 1073741824))) 6
    -- "7: a BAD record's window has both sides non-empty and one over 2 x radius + 1, or a best's vector doesn't fit i16"
    ∷ gives (evaluate (pos 8) (pos 1) wide 256) 7
    ∷ gives (finish (pos 2) (pos 0) (pos 32768) (pos 1) 8) 7
    -- "8: a plan file's trailer breaks its rules, or the file is under 32 .. bytes"
    ∷ gives (answer_number (plan_of [])) 8
    ∷ gives (answer_number (plan_of (replicate 32 0))) 8
    -- "If several apply, the lowest is given; a file is asked for 8 first": of a file with a window of 9x1 a line that is too short is 5, and one that is long
    -- enough 7: the header has 56 bytes since 02, Three, in place of 49; a record that isn't there is 4
    ∷ gives (answer_number (plan_of (file (pos 8)))) 7
    ∷ gives (head (pos 8) 55) 5
    ∷ gives (head (pos 8) 56) 7
    ∷ gives (line (pos 8) 1 1) 4
    ∷ gives (line (pos 8) 0 1) 5
    ∷ gives (line (pos 8) 0 131) 7
    ∷ gives (answer_number (head_answer [] 0)) 8
    -- "Packed score answers 2 for a component beyond i16 or a diagonal of 0 or less"; "(shorter: 5)"
    ∷ gives (word_number 2 (score_answer (pos 32768) (pos 0) (pos 0) (pos 1) (pos 0)) 4) 2
    ∷ gives (word_number 2 (score_answer (pos 0) (pos 0) (pos 0) (pos 0) (pos 0)) 4) 2
    ∷ gives (word_number 2 (score_answer (pos 0) (pos 0) (pos 0) (pos 1) (pos 0)) 3) 5
    -- "Block cost answers 2 for a size that isn't one of the five, a measure other than 0 or 1, or either block's pitch not from the width to 65,536, and 3 for
    -- either slice shorter than (rows - 1) x pitch + width"
    ∷ gives (cost (pos 0) (pos 8) (pos 4) 32 4) 2
    ∷ gives (cost (pos 2) (pos 4) (pos 4) 16 4) 2
    ∷ gives (cost (pos 0) (pos 4) (pos 3) 16 4) 2
    ∷ gives (cost (pos 0) (pos 4) (pos 65537) 16 4) 2
    ∷ gives (cost (pos 0) (pos 4) (pos 4) 15 4) 3
    ∷ gives (cost (pos 0) (pos 4) (pos 4) 16 3) 5
    ∷ gives (cost (pos 0) (pos 4) (pos 4) 16 4) 0
    ∷ []
