-- 01, "Plan file": "Form 1: records of 12 little-endian words from byte 0, then a trailer of eight words that points back: bytes back to the first record
-- (48 x count), count, width, height, pel, radius, SATD 0 or 1, form 1. Bytes back + 32 is the file's length. Size, pel and radius are inside the limits
-- above." The limits: "Block 8x8, 16x8 or 16x16", "Pel 1, 2 or 4", a radius of at most 3. Definitions alone.
use Rattle.std.specs.Prelude.{Bool, not, cond, ◌&&◌, List, ℕ, zero, suc, ◌+◌, ◌-◌, ◌/◌, leb, ℤ, pos, nat_abs, ◌+ℤ◌, ◌*ℤ◌, length, Result}
use Rattle.whole.specs.Numbers.{lies_in}
use Rattle.refusals.specs.declared.Refusal.{Refusal}
use Rattle.refusals.specs.Numbers.{answered}
use Rattle.limits.specs.Refusals.{first}
use Rattle.limits.specs.Limits.{same, is_block, is_pel}
use Rattle.limits.specs.Sizes.{bytes_per_record}
use Rattle.little_endian.specs.Bytes.{word_at, words_upto}
use Rattle.records.specs.declared.Record.{Record}
use Rattle.window.specs.Windows.{is_searched, is_kept, slots_of}
use Rattle.record_slice.specs.RecordSlice.{record_at, any_wide}
use Rattle.plan_file.specs.declared.Trailer.{Trailer}
use Rattle.plan_file.specs.declared.Head.{Head}
use Rattle.plan_file.specs.declared.Counts.{Counts}

-- ---- the records: "12 little-endian words from byte 0" each, so that they are read as from a slice of the file's words
abbrev pub words_of : List ℕ → List ℤ
words_of file = words_upto file (length file / 4)

-- ---- the trailer: the last 32 bytes
unfoldable pub trailer_of : List ℕ → Trailer
trailer_of file =
    let at : ℕ = length file - 32 in
    record {
      back = word_at file at;
      count = word_at file (at + 4);
      width = word_at file (at + 8);
      height = word_at file (at + 12);
      pel = word_at file (at + 16);
      radius = word_at file (at + 20);
      satd = word_at file (at + 24);
      form = word_at file (at + 28);
    }

abbrev pub lengths_hold : ℤ → ℤ → ℕ → Bool
lengths_hold back count bytes = same (back +ℤ pos 32) (pos bytes) && same back (count *ℤ pos bytes_per_record)

unfoldable pub trailer_holds : Trailer → ℕ → Bool
trailer_holds t bytes =
    lengths_hold t.back t.count bytes
    && is_block t.width t.height
    && is_pel t.pel
    && lies_in (pos 0) (pos 3) t.radius
    && lies_in (pos 0) (pos 1) t.satd
    && same (pos 1) t.form

-- "8: a plan file's trailer breaks its rules, or the file is under 32 or over 65,536 bytes"
unfoldable pub is_plan_file : List ℕ → Bool
is_plan_file file = leb 32 (length file) && leb (length file) 65536 && trailer_holds (trailer_of file) (length file)

-- "a BAD record's window has both sides non-empty and one over 2 x radius + 1", of any record of the file
abbrev pub wide_file : List ℕ → Bool
wide_file file = any_wide (trailer_of file).radius (words_of file) (nat_abs (trailer_of file).count)

-- how many of the first so many records pass a test
unfoldable pub tally : (Record → Bool) → List ℤ → ℕ → ℕ
tally test words zero = 0
tally test words (suc n) = tally test words n + cond (test (record_at words n)) 1 0

-- 02, Three: "From now on `searched` counts BAD records whose window holds at least one candidate, and the header gains `kept=` after it, for BAD records
-- whose window is empty."
abbrev pub counts_of : List ℤ → ℕ → Counts
counts_of words count = record { searched = tally is_searched words count; kept = tally is_kept words count }

-- ---- "First line: count, records with BAD set, block size, pel, slots", where 02's two counts stand for the second
unfoldable pub head_of : List ℕ → Head
unfolding trailer_of
head_of file =
    let t : Trailer = trailer_of file in
    let counts : Counts = counts_of (words_of file) (nat_abs t.count) in
    record {
      count = t.count;
      searched = pos counts.searched;
      kept = pos counts.kept;
      width = t.width;
      height = t.height;
      pel = t.pel;
      slots = slots_of t.radius;
    }

-- "a file is asked for 8 first"
abbrev pub file_number : List ℕ → ℕ
file_number file = first (not (is_plan_file file)) 8 (first (wide_file file) 7 0)

unfoldable pub plan_of : List ℕ → Result Head Refusal
plan_of file = answered (file_number file) (head_of file)
