-- What a file that 8 does not refuse has: its length and its count fit each other, and its radius is one of 0 to 3. Assumes nothing.
use Rattle.std.specs.Prelude.{◌≡◌, refl, Bool, true, false, ◌&&◌, List, ℕ, ◌+◌, ◌*◌, ◌/◌, ◌≤◌, T, leb, ℤ, pos, nat_abs, ◌+ℤ◌, ◌*ℤ◌, length, take, Ok, Err, not}
use Rattle.std.proofs.Common.{sym, ap, ◌∙◌, arith, leb-true}
use Rattle.std.specs.Int.Signed.{non_neg}
use Rattle.whole.specs.Numbers.{lies_in}
use Rattle.whole.specs.Signed.{signed, add_is, times_is, abs_is, nonneg_of}
use Rattle.whole.specs.Truth.{left_of, right_of, six_of, lies_low, lies_high}
use Rattle.refusals.specs.declared.Refusal.TheVariants.{Window, NoPlanFile}
use Rattle.refusals.specs.Numbers.{answer_number}
use Rattle.refusals.specs.Laws.{number_back, done_means}
use Rattle.limits.specs.Refusals.{first}
use Rattle.limits.specs.Refused.{first_most}
use Rattle.limits.specs.Limits.{same, is_block, is_pel}
use Rattle.limits.specs.Sizes.{words_per_record, bytes_per_record}
use Rattle.little_endian.specs.WordsRead.{words_long as all_long}
use Rattle.plan_file.specs.declared.Trailer.{Trailer}
use Rattle.plan_file.specs.declared.Head.{Head}
use Rattle.plan_file.specs.PlanFile.{words_of, lengths_hold, trailer_holds, trailer_of, is_plan_file, wide_file, head_of, file_number, plan_of}

pub record Served (t : Trailer) (bytes : ℕ) : Type 0 where
  pub enough : 32 ≤ bytes
  pub most : bytes ≤ 65536
  pub counted : bytes_per_record * nat_abs t.count + 32 ≡ bytes
  pub natural : T (non_neg t.count)
  pub radius_lies : lies_in (pos 0) (pos 3) t.radius ≡ true
  pub block_in : is_block t.width t.height ≡ true
  pub pel_in : is_pel t.pel ≡ true

pub record Counted (count : ℤ) (bytes : ℕ) : Type 0 where
  pub long : bytes_per_record * nat_abs count + 32 ≡ bytes
  pub natural : T (non_neg count)

pub lengths_say : (back count : ℤ) (bytes : ℕ) → 32 ≤ bytes → lengths_hold back count bytes ≡ true → Counted count bytes
lengths_say back count bytes enough e =
    let x = back +ℤ pos 32 in
    let y = count *ℤ pos bytes_per_record in
    let ends = left_of (same x (pos bytes)) (same back y) e in
    let begins = right_of (same x (pos bytes)) (same back y) e in
    let a = lies_low x x (pos bytes) ends in
    let b = lies_high x x (pos bytes) ends in
    let c = lies_low back back y begins in
    let d = lies_high back back y begins in
    record {
      long = omega (signed, add_is back (pos 32), times_is count bytes_per_record, abs_is count);
      natural = nonneg_of count (omega (signed, add_is back (pos 32), times_is count bytes_per_record));
    }

-- the trailer's rules, one by one
trailer_says : (t : Trailer) (bytes : ℕ) → trailer_holds t bytes ≡ true →
    (lengths_hold t.back t.count bytes ≡ true) × (is_block t.width t.height ≡ true) × (is_pel t.pel ≡ true) ×
    (lies_in (pos 0) (pos 3) t.radius ≡ true)
unfolding trailer_holds
trailer_says t bytes e =
    let a = six_of (lengths_hold t.back t.count bytes) (is_block t.width t.height) (is_pel t.pel) (lies_in (pos 0) (pos 3) t.radius)
    (lies_in (pos 0) (pos 1) t.satd) (same (pos 1) t.form) e in
    (a.0, a.1, a.2, a.3)

pub served : (file : List ℕ) → is_plan_file file ≡ true → Served (trailer_of file) (length file)
unfolding is_plan_file
served file e =
    let n = length file in
    let t = trailer_of file in
    let long = left_of (leb 32 n && leb n 65536) (trailer_holds t n) e in
    let says = trailer_says t n (right_of (leb 32 n && leb n 65536) (trailer_holds t n) e) in
    let enough = leb-true 32 n (left_of (leb 32 n) (leb n 65536) long) in
    let count = lengths_say t.back t.count n enough says.0 in
    record {
      enough = enough;
      most = leb-true n 65536 (right_of (leb 32 n) (leb n 65536) long);
      counted = count.long;
      natural = count.natural;
      radius_lies = says.3;
      block_in = says.1;
      pel_in = says.2;
    }

-- ---- its words: as many as it has, and so every record that it counts
pub words_long : (file : List ℕ) → length (words_of file) ≡ length file / 4
words_long file = all_long file (length file / 4)

-- and so long is the front of an array in which they stand
pub front_long : (file : List ℕ) (words : List ℤ) → take (length file / 4) words ≡ words_of file → length (take (length file / 4) words) ≡ length file / 4
front_long file words e = ap length e ∙ words_long file

pub records_held : (file : List ℕ) → is_plan_file file ≡ true → words_per_record * nat_abs (trailer_of file).count ≤ length (words_of file)
records_held file e = omega (arith, words_long file, (served file e).counted)

-- ---- the three answers
module _ (file : List ℕ) where
  pub refused_8 : is_plan_file file ≡ false → plan_of file ≡ Err NoPlanFile
  unfolding plan_of
  refused_8 e = rw e

  pub refused_7 : is_plan_file file ≡ true → wide_file file ≡ true → plan_of file ≡ Err Window
  unfolding plan_of
  refused_7 e wide = rw (e, wide)

  pub accepted : is_plan_file file ≡ true → wide_file file ≡ false → plan_of file ≡ Ok (head_of file)
  unfolding plan_of
  accepted e wide = rw (e, wide)

  -- an answer's number is the table's
  pub number_of_plan : answer_number (plan_of file) ≡ file_number file
  unfolding plan_of
  number_of_plan =
      number_back (head_of file) (file_number file)
      (first_most (not (is_plan_file file)) (omega arith) (first_most (wide_file file) (omega arith) (omega arith)))

-- ---- an accepted file: its head is the one that is read of it
by_tests : (p w : Bool) → first (not p) 8 (first w 7 0) ≡ 0 → (p ≡ true) × (w ≡ false)
by_tests true true e = absurd (omega arith)
by_tests true false e = (refl, refl)
by_tests false w e = absurd (omega arith)

pub accepted_says : (file : List ℕ) (h : Head) → plan_of file ≡ Ok h → (is_plan_file file ≡ true) × (wide_file file ≡ false) × (head_of file ≡ h)
unfolding plan_of
accepted_says file h e =
    let done = done_means {done = head_of file} (file_number file) e in
    let tests = by_tests (is_plan_file file) (wide_file file) done.0 in
    (tests.0, tests.1, sym done.1)
