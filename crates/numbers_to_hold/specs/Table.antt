-- 01, "Numbers to hold on to": every line marked P, in the paper's order, as one table. A row is what a definition gives, as numbers, and the numbers that the
-- paper has; the one theorem at the end says that each row's two sides are equal, by computation. Assumes nothing.
use Rattle.std.specs.Prelude.{refl, true, false, List, [], ◌∷◌, ◌++◌, ℕ, zero, suc, ℤ, pos, negsuc, None, Option, Some}
use Rattle.whole.specs.Numbers.{root_of}
use Rattle.records.specs.declared.Pair.{Pair}
use Rattle.records.specs.declared.Words.{Words}
use Rattle.records.specs.Packing.{packed_pair, record_fits, record_words, packed_record}
use Rattle.records.specs.Examples.{listed}
use Rattle.serpentine.specs.Walk.{each, row, walk, numbers}
use Rattle.distance.specs.Distance.{Block, sum, sum_z, hadamard_at, tile_sum, sad, satd}
use Rattle.score.specs.Diagonal.{diagonal_of, diagonal_answer}
use Rattle.score.specs.Score.{output_word, packed_score, score_answer}
use Rattle.plane.specs.declared.Place.{Place}
use Rattle.plane.specs.Places.{subpel_of}
use Rattle.plane.specs.Samples.{read_at}
use Rattle.absent_reads.specs.Absent.{absence, absent_in}
use Rattle.tables.specs.Tables.{vector_offset}
use Rattle.five_numbers.specs.Five.{number_of, luma_absent, plane_absent, chroma_absent, absent_at}
use Rattle.axis.specs.declared.Axis.{Axis}
use Rattle.axis.specs.Axis.{excess_of, place_of, window_of}
use Rattle.block.specs.Shapes.{lambda_of, negative_of, axis_of, shape_of, chroma_place, spot_of}
use Rattle.block.specs.Steps.{filled_with, settled_at, quiet_record, bad_record, bad_step, quiet_step, step_with, step_of}
use Rattle.limits.specs.Refusals.{any_upto}
use Rattle.passes.specs.Fold.{block_at, turn_at, slots_at, all_fit}
use Rattle.planes.specs.Planes.{chroma_holds, planes_hold, holds3}
use Rattle.level_places.specs.Levels as places
use Rattle.levels.specs.Refusals as levels
use Rattle.planning.specs.Refusals as planning
use Rattle.records.specs.Unpacking.{record_of}
use Rattle.window.specs.Windows.{is_searched, is_kept, is_wide}
use Rattle.record_slice.specs.RecordSlice.{words_from, record_at}
use Rattle.evaluation.specs.Refusals as evaluation
use Rattle.finishing.specs.Finish.{finish_answer}
use Rattle.serpentine.specs.Answers.{position_refusal, block_refusal, order_refusal}
use Rattle.little_endian.specs.Bytes.{word_at, words_upto, bytes_of}
use Rattle.report_text.specs.Text.{digits_by, digits, decimal}
use Rattle.plan_file.specs.PlanFile.{trailer_of, trailer_holds, is_plan_file, head_of, tally, plan_of}
use Rattle.plan_lines.specs.Report.{head_text, line_text, head_answer, line_answer}
use Rattle.answer_bytes.specs.BlockCost.{cost_number}
use Rattle.answer_bytes.specs.Slots.{slots_answer}
use Rattle.numbers_to_hold.specs.Rows.{Row, is, Every, every_of}
use Rattle.numbers_to_hold.specs.Refusals.{refusals}
use Rattle.numbers_to_hold.specs.Levels.{of_levels}
use Rattle.numbers_to_hold.specs.Absences.{of_absences}
use Rattle.numbers_to_hold.specs.Counts.{of_counts}

-- ---- answers as numbers: 01's number, and the values where it is 0
abbrev pair_answer : Option ℤ → List ℤ
pair_answer (Some word) = pos 0 ∷ word ∷ []
pair_answer None = pos 6 ∷ []

-- of a record, its last word
abbrev last_answer : Option Words → List ℤ
last_answer (Some words) = pos 0 ∷ words.last ∷ []
last_answer None = pos 6 ∷ []

abbrev value_answer : Option ℤ → List ℤ
value_answer (Some value) = pos 0 ∷ value ∷ []
value_answer None = pos 2 ∷ []

-- ---- what the lines speak of
-- lambda of a plain block, and of a negative one
abbrev lambdas : ℤ → List ℤ
lambdas setting = lambda_of (record { lambda = setting; bad_sad = pos 0 }) false ∷ lambda_of (record { lambda = setting; bad_sad = pos 0 }) true ∷ []

-- tiles against black ones: one sample of 1, and all sixteen
abbrev flat : ℕ → Block
flat v y x = v

abbrev dot : Block
dot zero zero = 1
dot zero (suc x) = 0
dot (suc y) x = 0

abbrev costs : Block → List ℤ
costs tile = pos (sad 4 4 tile (flat 0)) ∷ pos (satd 4 4 tile (flat 0)) ∷ []

-- the score of a vector (x,0), SAD 100, diagonal 4404
abbrev score : ℤ → List ℤ
score x = value_answer (score_answer x (pos 0) (pos 100) (pos 4404) (pos 0))

-- 64x64 frame, pel 2, 8x8 at x 8, radius 3: by the predictor
abbrev at_8 : ℤ → Axis
at_8 predictor = record { pel = pos 2; frame = pos 64; origin = pos 8; side = pos 8; predictor = predictor; radius = pos 3 }

abbrev ends : Pair → List ℤ
ends window = window.first ∷ window.second ∷ []

-- inside: no excess, and the window; moved: the place, and the window
abbrev staying : ℤ → List ℤ
staying p = excess_of (at_8 p) ∷ ends (window_of (at_8 p) (pos 8))

abbrev moving : ℤ → List ℤ
moving p = place_of true (at_8 p) ∷ ends (window_of (at_8 p) (place_of true (at_8 p)))

-- pel 2, base 0, pitch 8, height 4
abbrev small : Place
small = record { base = 0; pitch = pos 8; width = pos 8; height = pos 4; pel = pos 2 }

-- ---- the table
unfoldable pub numbers_to_hold : List Row
numbers_to_hold =
    -- "pair (1,-1) is -65535; 32767 fits, 32768 is 6."
    is (pair_answer (packed_pair (pos 1) (negsuc 0))) (pos 0 ∷ negsuc 65534 ∷ [])
    ∷ is (pair_answer (packed_pair (pos 32767) (pos 0))) (pos 0 ∷ pos 32767 ∷ [])
    ∷ is (pair_answer (packed_pair (pos 32768) (pos 0))) (pos 6 ∷ [])
    -- "lambda -2^28, flags 3: -1073741821. 2^28 is 6."
    ∷ is (last_answer (packed_record (listed (negsuc 268435455) (pos 3)))) (pos 0 ∷ negsuc 1073741820 ∷ [])
    ∷ is (last_answer (packed_record (listed (pos 268435456) (pos 3)))) (pos 6 ∷ [])
    -- "lambda setting -13: -4; negative block -1. Setting -1: -1, then 0."
    ∷ is (lambdas (negsuc 12)) (negsuc 3 ∷ negsuc 0 ∷ [])
    ∷ is (lambdas (negsuc 0)) (negsuc 0 ∷ pos 0 ∷ [])
    -- "4x3 serpentine: (2,1) (1,1) (0,0) (0,2) (1,0) (1,2) (2,0) (2,2) (3,0) (3,2) (0,1) (3,1)."
    ∷ is (numbers (walk 4 3))
    (pos 2 ∷ pos 1 ∷ pos 1 ∷ pos 1 ∷ pos 0 ∷ pos 0 ∷ pos 0 ∷ pos 2 ∷ pos 1 ∷ pos 0 ∷ pos 1 ∷ pos 2
    ∷ pos 2 ∷ pos 0 ∷ pos 2 ∷ pos 2 ∷ pos 3 ∷ pos 0 ∷ pos 3 ∷ pos 2 ∷ pos 0 ∷ pos 1 ∷ pos 3 ∷ pos 1 ∷ [])
    -- "one difference of 1 in a tile: SAD 1, SATD 8. All sixteen 1: SAD 16, SATD 8."
    ∷ is (costs dot) (pos 1 ∷ pos 8 ∷ [])
    ∷ is (costs (flat 1)) (pos 16 ∷ pos 8 ∷ [])
    -- "1920x1080, pel 2: diagonal 4404."
    ∷ is (value_answer (diagonal_answer (pos 1920) (pos 1080) (pos 2))) (pos 0 ∷ pos 4404 ∷ [])
    -- "with it, SAD 100: vector (661,0) 100, (705,0) 118, (1000,0) 280, (2300,0) 2000."
    ∷ is (score (pos 661)) (pos 0 ∷ pos 100 ∷ [])
    ∷ is (score (pos 705)) (pos 0 ∷ pos 118 ∷ [])
    ∷ is (score (pos 1000)) (pos 0 ∷ pos 280 ∷ [])
    ∷ is (score (pos 2300)) (pos 0 ∷ pos 2000 ∷ [])
    -- "output word (1,-1) is 65535; (-32768,-1) is 2147483647"
    ∷ is (output_word (pos 1) (negsuc 0) ∷ []) (pos 65535 ∷ [])
    ∷ is (output_word (negsuc 32767) (negsuc 0) ∷ []) (pos 2147483647 ∷ [])
    -- "px -14 gives -16..-11; -15 moves to 9, -15..-12; 93 gives 90..95; 94 moves to 7, 91..94; -200 is empty."
    ∷ is (staying (negsuc 13)) (pos 0 ∷ negsuc 15 ∷ negsuc 10 ∷ [])
    ∷ is (moving (negsuc 14)) (pos 9 ∷ negsuc 14 ∷ negsuc 11 ∷ [])
    ∷ is (staying (pos 93)) (pos 0 ∷ pos 90 ∷ pos 95 ∷ [])
    ∷ is (moving (pos 94)) (pos 7 ∷ pos 91 ∷ pos 94 ∷ [])
    ∷ is (moving (negsuc 199)) (pos 56 ∷ pos 32 ∷ negsuc 196 ∷ [])
    -- "pel 2, base 0, pitch 8, height 4: (3,1) is 97, (-1,0) is 31."
    ∷ is (subpel_of small (pos 3) (pos 1) ∷ []) (pos 97 ∷ [])
    ∷ is (subpel_of small (negsuc 0) (pos 0) ∷ []) (pos 31 ∷ [])
    ∷ []

-- ---- the theorem, of these, of the refusals that the paper states as numbers, and of 02's levels, absent samples and counts
pub all_hold : Every (numbers_to_hold ++ refusals ++ of_levels ++ of_absences ++ of_counts)
unfolding numbers_to_hold refusals of_levels of_absences of_counts packed_pair packed_record record_fits record_words numbers walk each row sum sum_z
    hadamard_at tile_sum diagonal_answer diagonal_of root_of score_answer packed_score excess_of place_of window_of subpel_of planning.refusal_of
    planning.holds1 planning.holds2 holds3 planning.axis_holds chroma_holds planes_hold planning.vector_fits planning.entry_holds all_fit turn_at block_at
    slots_at step_of step_with quiet_step quiet_record bad_step bad_record filled_with settled_at spot_of chroma_place negative_of axis_of shape_of
    evaluation.refusal_of evaluation.holds1 evaluation.holds2 evaluation.reference_holds evaluation.references_hold any_upto is_wide is_searched is_kept
    record_at record_of words_from finish_answer position_refusal block_refusal order_refusal plan_of is_plan_file trailer_holds trailer_of head_of tally
    words_upto head_text line_text head_answer line_answer decimal digits digits_by word_at bytes_of cost_number slots_answer levels.level_answer
    levels.refusal_of levels.holds2 levels.raw_pitches_hold levels.pitches_hold levels.all_have_sides levels.has_sides levels.lengths_kept
    places.size_after places.whole_rows places.finest_rows places.level_rows places.reduced_rows places.cut_at places.place_of places.planes_of number_of
    absent_at luma_absent plane_absent chroma_absent absent_in absence read_at vector_offset
all_hold = every_of (numbers_to_hold ++ refusals ++ of_levels ++ of_absences ++ of_counts) refl
