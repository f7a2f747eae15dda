-- 01, "Code places and their forms": "When an answer is an enum, the promises use a definition that gives this paper's number and values for each case of the
-- enum." An entry's contract names the case with its values. Here is the number of that case, for each entry whose answer is an enum: it is the table's,
-- whatever the input. Assumes nothing.
use Rattle.std.specs.Prelude.{◌≡◌, refl, Bool, true, false, cond, not, List, ℕ, zero, suc, ltb, ℤ, length}
use Rattle.std.proofs.Common.{arith, ◌≤◌}
use Rattle.refusals.specs.Numbers as refusal
use Rattle.refusals.specs.Laws.{number_back}
use Rattle.limits.specs.Refusals.{first}
use Rattle.limits.specs.Refused.{first_most}
use Rattle.records.specs.declared.Record.{Record}
use Rattle.records.specs.Packing.{pair_fits, packed_pair, pair_number, record_fits, packed_record, record_number}
use Rattle.serpentine.specs.Answers.{position_refusal, position_answer, block_refusal, block_answer}
use Rattle.serpentine.specs.Entries.{number_of_position, number_of_block}
use Rattle.score.specs.Diagonal.{frame_fits, diagonal_answer, answer_number}
use Rattle.score.specs.Score.{score_fits, score_answer}
use Rattle.level_places.specs.declared.SuperFrame.{SuperFrame}
use Rattle.levels.specs.Refusals as level
use Rattle.levels.specs.Table.{number_of_answer}
use Rattle.block.specs.declared.Settings.{Settings}
use Rattle.planning.specs.declared.Made.{Made}
use Rattle.planning.specs.Refusals.{refusal_of}
use Rattle.planning.specs.Planned as planned
use Rattle.report_text.specs.Putting.{lent_answer}
use Rattle.plan_file.specs.PlanFile as file
use Rattle.plan_lines.specs.Report.{text_number, head_number, head_answer, line_number, line_answer}

-- the number of an answer that is done where a test holds, and refused with n where it does not
by_test : {X : Type 0} (number : X → ℕ) (t : Bool) {a b : X} {n : ℕ} → number a ≡ 0 → number b ≡ n → number (cond t a b) ≡ first (not t) n 0
by_test number true done refused = done
by_test number false done refused = refused

-- ---- records: 6 where a pair or a record doesn't fit
pub pack_pair_number : (a b : ℤ) → pair_number (packed_pair a b) ≡ first (not (pair_fits (record { first = a; second = b }))) 6 0
unfolding packed_pair
pack_pair_number a b = by_test pair_number (pair_fits (record { first = a; second = b })) refl refl

pub pack_record_number : (r : Record) → record_number (packed_record r) ≡ first (not (record_fits r)) 6 0
unfolding packed_record
pack_record_number r = by_test record_number (record_fits r) refl refl

-- ---- serpentine: 1, 2 and 4
pub serpentine_position_number : (nx ny bx by : ℤ) → refusal.answer_number (position_answer nx ny bx by) ≡ position_refusal nx ny bx by
serpentine_position_number = number_of_position

pub serpentine_block_number : (nx ny position : ℤ) → refusal.answer_number (block_answer nx ny position) ≡ block_refusal nx ny position
serpentine_block_number = number_of_block

-- ---- score: 2
pub diagonal_number : (width height pel : ℤ) → answer_number (diagonal_answer width height pel) ≡ first (not (frame_fits width height pel)) 2 0
unfolding diagonal_answer
diagonal_number width height pel = by_test answer_number (frame_fits width height pel) refl refl

pub packed_score_number : (x y sad diagonal average : ℤ) → answer_number (score_answer x y sad diagonal average) ≡ first (not (score_fits x y diagonal)) 2 0
unfolding score_answer
packed_score_number x y sad diagonal average = by_test answer_number (score_fits x y diagonal) refl refl

-- ---- levels: the first of 2, 9 and 3 that applies, in that order
pub level_number_lem : (f : SuperFrame) (luma u v source_luma source_u source_v : ℕ)
    → level.level_number (level.level_answer f luma u v source_luma source_u source_v) ≡ level.refusal_of f luma u v source_luma source_u source_v
level_number_lem = number_of_answer

-- ---- planning: the lowest of 1 to 6 that applies
pub plan_number_lem : (s : Settings) (order vectors : List ℤ) (luma u v words indices : ℕ)
    → planned.plan_number (planned.plan_answer s order vectors luma u v words indices) ≡ refusal_of s order vectors luma u v words indices
unfolding planned.plan_answer refusal_of
plan_number_lem s order vectors luma u v words indices =
    number_back (planned.made_of s) (refusal_of s order vectors luma u v words indices)
    (first_most {number = 1} _ (omega arith)
    (first_most {number = 2} _ (omega arith)
    (first_most {number = 3} _ (omega arith)
    (first_most {number = 4} _ (omega arith)
    (first_most {number = 5} _ (omega arith)
    (first_most {number = 6} {rest = 0} _ (omega arith) (omega arith)))))))

-- ---- a text laid into a line: 5 where it is too short
pub lay_number : (text : List ℕ) (room : ℕ) → refusal.answer_number (lent_answer text room) ≡ first (ltb room (length text)) 5 0
lay_number text room =
    number_back (length text) (first (ltb room (length text)) 5 0)
    (first_most {number = 5} {rest = 0} (ltb room (length text)) (omega arith) (omega arith))

-- ---- plan files: 8, then 7
pub check_plan_file_number : (bytes : List ℕ) → refusal.answer_number (file.plan_of bytes)
    ≡ first (not (file.is_plan_file bytes)) 8 (first (file.wide_file bytes) 7 0)
unfolding file.plan_of
check_plan_file_number bytes =
    number_back (file.head_of bytes) (file.file_number bytes)
    (first_most {number = 8} _ (omega arith) (first_most {number = 7} {rest = 0} _ (omega arith) (omega arith)))

-- ---- their report: 8, then 4 where no record has the number, then 5 and 7
text_small : (wide : Bool) (text : List ℕ) (room : ℕ) → text_number wide text room ≤ 9
text_small wide text room = first_most {number = 5} _ (omega arith) (first_most {number = 7} {rest = 0} _ (omega arith) (omega arith))

pub report_head_number : (bytes : List ℕ) (room : ℕ) → refusal.answer_number (head_answer bytes room) ≡ head_number bytes room
unfolding head_answer
report_head_number bytes room = number_back _ (head_number bytes room) (first_most {number = 8} _ (omega arith) (text_small _ _ room))

pub report_line_number : (bytes : List ℕ) (number room : ℕ) → refusal.answer_number (line_answer bytes number room) ≡ line_number bytes number room
unfolding line_answer
report_line_number bytes number room =
    number_back _ (line_number bytes number room)
    (first_most {number = 8} _ (omega arith) (first_most {number = 4} _ (omega arith) (text_small _ _ room)))
