-- 01, "Plan file": its listing is accepted, from the bytes of its words, by computation. Its header has 02's two counts, Three: "The listing in 01 becomes
-- `searched=0 kept=0`."
use Rattle.std.specs.Prelude.{◌≡◌, refl, List, [], ◌∷◌, ◌++◌, ℕ, ℤ, pos, negsuc, Ok}
use Rattle.limits.specs.Refusals.{any_upto}
use Rattle.little_endian.specs.Bytes.{bytes_of, word_at, words_upto}
use Rattle.records.specs.Packing.{absent_word}
use Rattle.records.specs.Unpacking.{record_of}
use Rattle.plan_file.specs.declared.Head.{Head}
use Rattle.window.specs.Windows.{is_searched, is_kept, is_wide}
use Rattle.record_slice.specs.RecordSlice.{words_from, record_at}
use Rattle.plan_file.specs.PlanFile.{trailer_of, trailer_holds, is_plan_file, tally, head_of, plan_of}

abbrev pub as_bytes : List ℤ → List ℕ
as_bytes [] = []
as_bytes (word ∷ words) = bytes_of word ++ as_bytes words

-- "For words NONE x 5, 0, 0, -262141, -65536, -65536, 10, 0 and trailer 48, 1, 8, 8, 2, 1, 0, 1"
abbrev pub listed : List ℕ
listed =
    as_bytes
    (absent_word ∷ absent_word ∷ absent_word ∷ absent_word ∷ absent_word ∷ pos 0 ∷ pos 0 ∷ negsuc 262140 ∷ negsuc 65535 ∷ negsuc 65535 ∷ pos 10 ∷ pos 0
    ∷ pos 48 ∷ pos 1 ∷ pos 8 ∷ pos 8 ∷ pos 2 ∷ pos 1 ∷ pos 0 ∷ pos 1 ∷ [])

abbrev pub listed_head : Head
listed_head = record { count = pos 1; searched = pos 0; kept = pos 0; width = pos 8; height = pos 8; pel = pos 2; slots = pos 10 }

pub listing_accepted : plan_of listed ≡ Ok listed_head
unfolding plan_of is_plan_file trailer_holds trailer_of head_of any_upto is_wide is_searched is_kept tally record_at words_from record_of words_upto
    word_at bytes_of
listing_accepted = refl
