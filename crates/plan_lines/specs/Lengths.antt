-- How long the report's lines can be, with their newlines: the first has at most 66 bytes, a record's at most 131. So a lent line of that length is never
-- refused with 5. Assumes nothing.
use Rattle.std.specs.Prelude.{◌≡◌, refl, Bool, true, List, ◌++◌, ℕ, suc, ◌+◌, ◌*◌, ◌/◌, ◌^◌, ◌≤◌, ◌<◌, T, ℤ, pos, negsuc, nat_abs, length, get_or, Ok}
use Rattle.std.proofs.Math.Bool.{false}
use Rattle.std.proofs.Common.{⊎_elim, div-add-mod', arith, lit<, length-append, SFits}
use borrow.Author.Tests.{lt-ltb, le-ltb}
use Rattle.std.proofs.Math.Dec.{ltb}
use Rattle.std.specs.Int.Signed.{lt_z, shr_z, non_neg}
use Rattle.std.specs.Int.{w16, w32}
use Rattle.whole.specs.Numbers.{mod_z, lies_in}
use Rattle.whole.specs.Signed.{range, abs_is, nonneg_of, lt_or_ge}
use Rattle.whole.specs.Interval.{Within}
use Rattle.limits.specs.Ranges.{pel_within, at_each_radius, block_within}
use Rattle.whole.specs.Floor.{mod_below, floor_low, floor_high}
use Rattle.whole.specs.Wrapping.{wrapped_fits}
use Rattle.limits.specs.Sizes.{words_per_record}
use Rattle.little_endian.specs.WordsRead.{words_fit}
use Rattle.records.specs.Packing.{absent_word}
use Rattle.records.specs.Unpacking.{offset_of, pair_of, record_of}
use Rattle.report_text.specs.Text.{codes, decimal}
use Rattle.report_text.specs.Digits.{digits_length, decimal_length}
use Rattle.window.specs.Windows.{bad_flag, half_flag, is_searched, is_kept, slots_of}
use Rattle.record_slice.specs.RecordSlice.{words_from, record_at}
use Rattle.plan_file.specs.PlanFile.{words_of, trailer_of, is_plan_file, wide_file, tally, head_of}
use Rattle.plan_file.specs.Served.{served}
use Rattle.plan_file.specs.Counting.{both_most}
use Rattle.plan_lines.specs.Report.{field, pair_text, offset_text, head_text, line_text, line_of, head_answer, line_answer}

-- so many digits, and one byte for a sign
natural_most : (k n : ℕ) → n < 10 ^ suc k → length (decimal (pos n)) ≤ suc k
unfolding decimal
natural_most k n h = digits_length k n h

signed_most : (k : ℕ) (z : ℤ) → nat_abs z < 10 ^ suc k → length (decimal z) ≤ suc (suc k)
unfolding decimal
signed_most k (pos n) h = let m = digits_length k n h in omega arith
signed_most k (negsuc n) h = let m = digits_length k (suc n) h in omega arith

-- each part of a pair fits i16, and so takes at most 6 bytes
pair_most : {word : ℤ} → SFits w32 word → length (pair_text (pair_of word)) ≤ 13
pair_most {word} f =
    let low = (pair_of word).first in
    let high = (pair_of word).second in
    let a = signed_most 4 low (omega (arith, range (wrapped_fits w16 word), abs_is low)) in
    let b = signed_most 4 high (omega (arith, range f, floor_low {m = 65536} (lit< tt) word, floor_high {m = 65536} (lit< tt) word, abs_is high)) in
    simp length-append (omega arith)

offset_by : {word : ℤ} (t : Bool) → lt_z absent_word word ≡ t → SFits w32 word → length (offset_text (offset_of word)) ≤ 11
offset_by true e f = rw e (decimal_length f)
offset_by false e f = rw e (omega arith)

-- a flag is 0 or 1
bad_most : (last : ℤ) → length (decimal (bad_flag (pos (mod_z last 4)))) ≤ 1
bad_most last = natural_most 0 _ (omega (arith, mod_below {m = 2} (lit< tt) (pos (mod_z last 4))))

half_most : (last : ℤ) → length (decimal (half_flag (pos (mod_z last 4)))) ≤ 1
half_most last = natural_most 0 _ (omega (arith, mod_below {m = 4} (lit< tt) last, div-add-mod' (mod_z last 4) 2))

strength_most : {last : ℤ} → SFits w32 last → length (decimal (shr_z last 4)) ≤ 10
strength_most {last} f = signed_most 8 (shr_z last 4) (omega (
  arith,
  range f,
  floor_low {m = 4} (lit< tt) last,
  floor_high {m = 4} (lit< tt) last,
  abs_is
      (shr_z last 4),
))

sum_of_ten : (a b c d e f g h i j : List ℕ) →
    length (a ++ b ++ c ++ d ++ e ++ f ++ g ++ h ++ i ++ j)
    ≡ length a + length b + length c + length d + length e + length f + length g + length h + length i + length j
sum_of_ten a b c d e f g h i j = simp length-append

pub line_most : (file : List ℕ) (number : ℕ) → number < 1364 → length (line_of file number) ≤ 131
unfolding line_text record_at record_of words_from
line_most file number h =
    let words = words_of file in
    let r = record_at words number in
    let at = words_per_record * number in
    let last = get_or words (at + 11) (pos 0) in
    let w : (k : ℕ) → SFits w32 (get_or words (at + k) (pos 0)) = λ k. words_fit file (length file / 4) (at + k) in
    omega (
      arith,
      sum_of_ten (decimal (pos number)) (field " bad=" (bad_flag r.flags)) (field " half=" (half_flag r.flags)) (field " lambda=" r.lambda)
          (codes " predictor=" ++ pair_text r.predictor) (field " sad=" r.sad) (codes " average=" ++ offset_text r.average)
          (codes " window=" ++ pair_text r.window_x) (codes "," ++ pair_text r.window_y) (codes "\n"),
      natural_most 3 number (omega arith),
      bad_most last,
      half_most last,
      strength_most (w 11),
      pair_most (w 7),
      decimal_length (w 10),
      offset_by (lt_z absent_word (get_or words (at + 4) (pos 0))) refl (w 4),
      pair_most (w 8),
      pair_most (w 9),
    )

-- ---- the first line
small_most : (k : ℕ) (z : ℤ) → T (non_neg z) → nat_abs z < 10 ^ suc k → length (decimal z) ≤ suc k
small_most k (pos n) p h = natural_most k n h
small_most k (negsuc n) p h = absurd p

within_most : (k : ℕ) {h : ℕ} {z : ℤ} → Within 0 h z → h < 10 ^ suc k → length (decimal z) ≤ suc k
within_most k {h} {z} w l = let low = w.low in let high = w.high in small_most k z (nonneg_of z (omega arith)) (omega (arith, abs_is z))

slots_most : (radius : ℤ) → lies_in (pos 0) (pos 3) radius ≡ true → length (decimal (slots_of radius)) ≤ 2
slots_most radius e =
    at_each_radius (λ (z : ℤ). length (decimal (slots_of z)) ≤ 2)
    (natural_most 1 2 (lit< tt)) (natural_most 1 10 (lit< tt)) (natural_most 1 26 (lit< tt)) (natural_most 1 50 (lit< tt)) radius e

-- two counts that together are below 2,000 don't both have four digits
two_most : (a b : ℕ) → a + b < 2000 → length (decimal (pos a)) + length (decimal (pos b)) ≤ 7
two_most a b few =
    ⊎_elim
    (λ (l : a < 1000). omega (arith, natural_most 2 a (omega arith), natural_most 3 b (omega arith)))
    (λ (l : 1000 ≤ a). omega (arith, natural_most 3 a (omega arith), natural_most 2 b (omega arith)))
    (lt_or_ge a 1000)

sum_of_eight : (a b c d e f g h : List ℕ) →
    length (a ++ b ++ c ++ d ++ e ++ f ++ g ++ h) ≡ length a + length b + length c + length d + length e + length f + length g + length h
sum_of_eight a b c d e f g h = simp length-append

pub head_most : (file : List ℕ) → is_plan_file file ≡ true → length (head_text (head_of file)) ≤ 66
unfolding head_text head_of
head_most file holds =
    let t = trailer_of file in
    let k = served file holds in
    let n = nat_abs t.count in
    let searched = tally is_searched (words_of file) n in
    let kept = tally is_kept (words_of file) n in
    let size = block_within t.width t.height k.block_in in
    omega (
      arith,
      sum_of_eight (field "plan blocks=" t.count) (field " searched=" (pos searched)) (field " kept=" (pos kept)) (field " size=" t.width)
          (field "x" t.height) (field " pel=" t.pel) (field " slots=" (slots_of t.radius)) (codes "\n"),
      small_most 3 t.count k.natural (omega (arith, k.counted, k.most)),
      two_most searched kept (omega (arith, both_most (words_of file) n, k.counted, k.most)),
      within_most 1 size.0 (lit< tt),
      within_most 1 size.1 (lit< tt),
      within_most 0 (pel_within t.pel k.pel_in) (lit< tt),
      slots_most t.radius k.radius_lies,
    )

-- ---- so a line of that length always gets its text
module _ (file : List ℕ) (holds : is_plan_file file ≡ true) (narrow : wide_file file ≡ false) (room : ℕ) where
  pub head_fits : 66 ≤ room → head_answer file room ≡ Ok (length (head_text (head_of file)))
  unfolding head_answer
  head_fits enough =
      let fits : ltb room (length (head_text (head_of file))) ≡ false = le-ltb room (length (head_text (head_of file))) (omega (arith, head_most file holds)) in
      rw (holds, fits, narrow)

  pub line_fits : (number : ℕ) → number < nat_abs (trailer_of file).count → 131 ≤ room →
      line_answer file number room ≡ Ok (length (line_of file number))
  unfolding line_answer
  line_fits number there enough =
      let k = served file holds in
      let most = line_most file number (omega (arith, k.counted, k.most)) in
      let fits : ltb room (length (line_of file number)) ≡ false = le-ltb room (length (line_of file number)) (omega arith) in
      rw (holds, lt-ltb number (nat_abs (trailer_of file).count) there, fits, narrow)
