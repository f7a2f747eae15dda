-- Packing and unpacking undo each other. Assumes nothing.
-- `pack_then_unpack`: a record that was packed is read back from its words. `unpack_then_pack`: any 12 words are written again from the record that
-- they hold, exactly where the lambda in the last of them fits; every other part of what is unpacked fits always.
use Rattle.std.specs.Prelude.{◌≡◌, refl, Bool, true, false, ◌&&◌, cond, ℕ, ◌<◌, ℤ, pos, negsuc, ◌+ℤ◌, ◌*ℤ◌, None, Option, Some}
use Rattle.std.proofs.Common.{sym, ap, ◌∙◌, arith, lit<, SFits, to_z}
use Rattle.std.specs.Int.Signed.{lt_z, le_z, shr_z}
use Rattle.std.specs.Int.{w16, w32}
use Rattle.whole.specs.Numbers.{lies_in, mod_z, wrapped, fits_i16}
use Rattle.whole.specs.Signed.{signed, range, add_is, times_is, holds}
use Rattle.whole.specs.Truth.{left_of, right_of, both_of, lies_low, lies_high, five_of}
use Rattle.whole.specs.Floor.{floor_is, floor_low, floor_high, mod_below, floor_only, mod_only, mod_more}
use Rattle.whole.specs.Wrapping.{wrapped_is, wrapped_same, wrapped_fits}
use Rattle.records.specs.declared.Pair.{Pair}
use Rattle.records.specs.declared.Record.{Record}
use Rattle.records.specs.declared.Words.{Words}
use Rattle.records.specs.Packing.{
  absent_word,
  offset_word,
  offset_fits,
  pair_fits,
  pair_word,
  lambda_fits,
  last_fits,
  last_word,
  offsets_fit,
  pairs_fit,
  record_fits,
  record_words,
  packed_record,
}
use Rattle.records.specs.Alike.{alike_pairs, alike_words, alike_records}
use Rattle.records.specs.Unpacking.{offset_of, pair_of, record_of}

-- ---- a low part r below m and a high part q: what q m + r is divided into
module _ (m : ℕ) (q : ℤ) (r : ℕ) (small : r < m) where
  high_of : shr_z (q *ℤ pos m +ℤ pos r) m ≡ q
  high_of = floor_only (q *ℤ pos m +ℤ pos r) q r small (omega (arith, add_is (q *ℤ pos m) (pos r), times_is q m))

  low_of : mod_z (q *ℤ pos m +ℤ pos r) m ≡ r
  low_of = mod_only (q *ℤ pos m +ℤ pos r) q r small (omega (arith, add_is (q *ℤ pos m) (pos r), times_is q m))

-- and z is put together again from what it is divided into
whole_of : (m : ℕ) → 0 < m → (z : ℤ) → shr_z z m *ℤ pos m +ℤ pos (mod_z z m) ≡ z
whole_of m some z =
    let q = shr_z z m in
    omega (signed, floor_is some z, add_is (q *ℤ pos m) (pos (mod_z z m)), times_is q m)

and_true : (a : Bool) {b : Bool} → b ≡ true → (a && b) ≡ a
and_true true e = e
and_true false e = refl

true_and : {a b : Bool} → a ≡ true → (a && b) ≡ b
true_and e = cc

-- ---- pairs
part_is : (z : ℤ) → fits_i16 z ≡ true → SFits w16 z
part_is z e =
    let l = lies_low (negsuc 32767) (pos 32767) z e in
    let h = lies_high (negsuc 32767) (pos 32767) z e in
    omega signed

is_part : {z : ℤ} → SFits w16 z → fits_i16 z ≡ true
is_part {z} f =
    let l : le_z (negsuc 32767) z ≡ true = omega (signed, range f) in
    let h : le_z z (pos 32767) ≡ true = omega (signed, range f) in
    both_of l h

pair_fits_word : (pair : Pair) → pair_fits pair ≡ true → pair_word pair ≡ pair.second *ℤ pos 65536 +ℤ pos (mod_z pair.first 65536)
pair_fits_word pair e =
    let f = part_is pair.second (right_of (fits_i16 pair.first) (fits_i16 pair.second) e) in
    let b = mod_below {m = 65536} (lit< tt) pair.first in
    wrapped_same w32 (omega (signed, range f, times_is pair.second 65536))

pub pair_back : (pair : Pair) → pair_fits pair ≡ true → pair_of (pair_word pair) ≡ pair
pair_back pair e =
    let first = part_is pair.first (left_of (fits_i16 pair.first) (fits_i16 pair.second) e) in
    let low = mod_below {m = 65536} (lit< tt) pair.first in
    ap pair_of (pair_fits_word pair e)
    ∙ alike_pairs
    (ap (to_z w16) (low_of 65536 pair.second (mod_z pair.first 65536) low) ∙ wrapped_same w16 first)
    (high_of 65536 pair.second (mod_z pair.first 65536) low)

pub pair_of_word : {word : ℤ} → SFits w32 word → pair_fits (pair_of word) ≡ true
pair_of_word {word} f =
    let low = floor_low {m = 65536} (lit< tt) word in
    let high = floor_high {m = 65536} (lit< tt) word in
    both_of (is_part (wrapped_fits w16 word)) (is_part {z = shr_z word 65536} (omega (signed, range f)))

pub word_back : {word : ℤ} → SFits w32 word → pair_word (pair_of word) ≡ word
word_back {word} f =
    let turns = wrapped_is w16 word in
    let low : mod_z (wrapped w16 word) 65536 ≡ mod_z word 65536 =
    sym (mod_more (lit< tt) (wrapped w16 word) turns.turns) ∙ ap (λ (z : ℤ). mod_z z 65536) (sym turns.same)
    in
    ap (λ (r : ℕ). wrapped w32 (shr_z word 65536 *ℤ pos 65536 +ℤ pos r)) low
    ∙ ap (wrapped w32) (whole_of 65536 (lit< tt) word)
    ∙ wrapped_same w32 f

-- ---- offsets
pub offset_back : (offset : Option ℤ) → offset_fits offset ≡ true → offset_of (offset_word offset) ≡ offset
offset_back (Some place) e = simp e
offset_back None e = refl

by_test : {word : ℤ} (t : Bool) → lt_z absent_word word ≡ t → SFits w32 word → (offset_fits (offset_of word) ≡ true) × (offset_word (offset_of word) ≡ word)
by_test true e f = (simp e, simp e)
by_test {word} false e f = (simp e, simp e (let l = range f in omega signed))

pub offset_of_word : {word : ℤ} → SFits w32 word → offset_fits (offset_of word) ≡ true
offset_of_word {word} f = (by_test (lt_z absent_word word) refl f).0

pub offset_word_back : {word : ℤ} → SFits w32 word → offset_word (offset_of word) ≡ word
offset_word_back {word} f = (by_test (lt_z absent_word word) refl f).1

-- ---- the last word
last_same : (lambda : ℤ) (k : ℕ) → lambda_fits lambda ≡ true → k < 4 → last_word lambda (pos k) ≡ lambda *ℤ pos 4 +ℤ pos k
last_same lambda k e small =
    let low = lies_low (negsuc 268435455) (pos 268435455) lambda e in
    let high = lies_high (negsuc 268435455) (pos 268435455) lambda e in
    wrapped_same w32 (omega (signed, times_is lambda 4))

pub record LastBack (lambda flags : ℤ) : Type 0 where
  pub high : shr_z (last_word lambda flags) 4 ≡ lambda
  pub low : pos (mod_z (last_word lambda flags) 4) ≡ flags

pub last_back : (lambda flags : ℤ) → last_fits lambda flags ≡ true → LastBack lambda flags
last_back lambda (negsuc k) e = absurd (holds (right_of (lambda_fits lambda) false e))
last_back lambda (pos k) e =
    let most = lies_high (pos 0) (pos 3) (pos k) (right_of (lambda_fits lambda) (lies_in (pos 0) (pos 3) (pos k)) e) in
    let small : k < 4 = omega signed in
    let same = last_same lambda k (left_of (lambda_fits lambda) (lies_in (pos 0) (pos 3) (pos k)) e) small in
    record {
      high = ap (λ (z : ℤ). shr_z z 4) same ∙ high_of 4 lambda k small;
      low = ap (λ (z : ℤ). pos (mod_z z 4)) same ∙ ap pos (low_of 4 lambda k small);
    }

pub last_word_back : {word : ℤ} → SFits w32 word → last_word (shr_z word 4) (pos (mod_z word 4)) ≡ word
last_word_back {word} f = ap (wrapped w32) (whole_of 4 (lit< tt) word) ∙ wrapped_same w32 f

-- flags that were unpacked always fit
last_of_word : (word : ℤ) → last_fits (shr_z word 4) (pos (mod_z word 4)) ≡ lambda_fits (shr_z word 4)
last_of_word word =
    let small = mod_below {m = 4} (lit< tt) word in
    let low : le_z (pos 0) (pos (mod_z word 4)) ≡ true = omega signed in
    let high : le_z (pos (mod_z word 4)) (pos 3) ≡ true = omega signed in
    and_true (lambda_fits (shr_z word 4)) (both_of low high)

-- ---- records
-- a record that fits is read back from its words
pub back : (r : Record) → record_fits r ≡ true → record_of (record_words r) ≡ r
unfolding record_fits record_words record_of
back r fits =
    let parts = left_of (offsets_fit r && pairs_fit r) (last_fits r.lambda r.flags) fits in
    let o = five_of (offset_fits r.full) (offset_fits r.overlay) (offset_fits r.u) (offset_fits r.v) (offset_fits r.average)
    (left_of (offsets_fit r) (pairs_fit r) parts) in
    let p = five_of (pair_fits r.pos) (pair_fits r.cpos) (pair_fits r.predictor) (pair_fits r.window_x) (pair_fits r.window_y)
    (right_of (offsets_fit r) (pairs_fit r) parts) in
    let l = last_back r.lambda r.flags (right_of (offsets_fit r && pairs_fit r) (last_fits r.lambda r.flags) fits) in
    alike_records
    (offset_back r.full o.0)
    (offset_back r.overlay o.1)
    (offset_back r.u o.2)
    (offset_back r.v o.3)
    (offset_back r.average o.4)
    (pair_back r.pos p.0)
    (pair_back r.cpos p.1)
    (pair_back r.predictor p.2)
    (pair_back r.window_x p.3)
    (pair_back r.window_y p.4)
    refl l.high l.low

by_fit : (t : Bool) {r : Record} {w : Words} → record_fits r ≡ t → cond t (Some (record_words r)) None ≡ Some w → record_of w ≡ r
by_fit true {r} {w} fits e = let same : record_words r ≡ w = cc in ap record_of (sym same) ∙ back r fits
by_fit false fits e = let clash : ◌≡◌ {A = ℕ} 0 1 = cc in absurd (omega arith)

-- a record that was packed is read back from its words
pub pack_then_unpack : {r : Record} {w : Words} → packed_record r ≡ Some w → record_of w ≡ r
unfolding packed_record
pack_then_unpack {r} {w} e = by_fit (record_fits r) refl e

-- what the machine holds in 12 words; of the SAD's nothing is asked
pub record Held (w : Words) : Type 0 where
  pub full : SFits w32 w.full
  pub overlay : SFits w32 w.overlay
  pub u : SFits w32 w.u
  pub v : SFits w32 w.v
  pub average : SFits w32 w.average
  pub pos : SFits w32 w.pos
  pub cpos : SFits w32 w.cpos
  pub predictor : SFits w32 w.predictor
  pub window_x : SFits w32 w.window_x
  pub window_y : SFits w32 w.window_y
  pub last : SFits w32 w.last

-- the record that 12 words hold has them as its words
pub words_back : (w : Words) → Held w → record_words (record_of w) ≡ w
unfolding record_words record_of
words_back w h =
    alike_words
    (offset_word_back h.full) (offset_word_back h.overlay) (offset_word_back h.u) (offset_word_back h.v) (offset_word_back h.average)
    (word_back h.pos) (word_back h.cpos) (word_back h.predictor) (word_back h.window_x) (word_back h.window_y)
    refl (last_word_back h.last)

-- and it fits exactly where its lambda does
pub unpacked_fits : (w : Words) → Held w → record_fits (record_of w) ≡ lambda_fits (shr_z w.last 4)
unfolding record_fits record_of
unpacked_fits w h =
    let offsets = both_of (both_of (both_of (both_of (offset_of_word h.full) (offset_of_word h.overlay)) (offset_of_word h.u))
    (offset_of_word h.v)) (offset_of_word h.average) in
    let pairs = both_of (both_of (both_of (both_of (pair_of_word h.pos) (pair_of_word h.cpos)) (pair_of_word h.predictor))
    (pair_of_word h.window_x)) (pair_of_word h.window_y) in
    true_and (both_of offsets pairs) ∙ last_of_word w.last

-- any 12 words are written again from the record that they hold, exactly where the lambda in the last of them fits
pub unpack_then_pack : (w : Words) → Held w → packed_record (record_of w) ≡ cond (lambda_fits (shr_z w.last 4)) (Some w) None
unfolding packed_record
unpack_then_pack w h = rw (unpacked_fits w h, words_back w h)
