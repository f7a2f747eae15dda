-- What BlockCost says: the ranges that accepted numbers lie in, and each outcome. Assumes nothing.
use Rattle.std.specs.Prelude.{◌≡◌, Bool, true, false, cond, ltb, ◌&&◌, ◌||◌, List, ◌++◌, ℕ, suc, ◌≤◌, ◌<◌, ℤ, pos, nat_abs, length, drop}
use Rattle.std.proofs.Math.Path.{sym}
use Rattle.std.proofs.Common.{⊎_elim, arith}
use borrow.Author.Tests.{lt-ltb, le-ltb}
use Rattle.std.proofs.Math.Dec.{eqb-suc-zero}
use Rattle.whole.specs.Numbers.{lies_in}
use Rattle.whole.specs.Signed.{signed, abs_is}
use Rattle.whole.specs.Truth.{left_of, right_of, either_of, lies_low, lies_high}
use Rattle.whole.specs.Interval.{Within}
use Rattle.little_endian.specs.Bytes.{bytes_of}
use Rattle.answer_bytes.specs.BlockCost.{is, is_size, is_pitch, numbers_fit, is_held, cost_number, block_cost, cost_bytes}

-- ---- a side that is one of the five sizes'
pub record Side (z : ℤ) : Type 0 where
  pub within : Within 0 16 z
  pub some : 0 < nat_abs z

side_of : (n : ℕ) (z : ℤ) → 0 < n → n ≤ 16 → is n z ≡ true → Side z
side_of n z some most e =
    let l = lies_low (pos n) (pos n) z e in
    let h = lies_high (pos n) (pos n) z e in
    record { within = omega signed; some = omega (signed, abs_is z) }

either_side : (m n : ℕ) (z : ℤ) → 0 < m → m ≤ 16 → 0 < n → n ≤ 16 → (is m z || is n z) ≡ true → Side z
either_side m n z a b c d e = ⊎_elim (side_of m z a b) (side_of n z c d) (either_of (is m z) (is n z) e)

record Sides (width height : ℤ) : Type 0 where
  wide : Side width
  high : Side height

both_sides : {width height : ℤ} (a b : Bool) → (a && b) ≡ true → (a ≡ true → Side width) → (b ≡ true → Side height) → Sides width height
both_sides a b e f g = record { wide = f (left_of a b e); high = g (right_of a b e) }

size_of : (width height : ℤ) → is_size width height ≡ true → Sides width height
size_of width height e =
    let by-16 = is 16 height || is 8 height in
    let by_8 = is 8 height || is 4 height in
    ⊎_elim
    (λ f. ⊎_elim
    (λ g. both_sides (is 16 width) by-16 g (side_of 16 width (omega arith) (omega arith))
    (either_side 16 8 height (omega arith) (omega arith) (omega arith) (omega arith)))
    (λ g. both_sides (is 8 width) by_8 g (side_of 8 width (omega arith) (omega arith))
    (either_side 8 4 height (omega arith) (omega arith) (omega arith) (omega arith)))
    (either_of (is 16 width && by-16) (is 8 width && by_8) f))
    (λ f. both_sides (is 4 width) (is 4 height) f (side_of 4 width (omega arith) (omega arith)) (side_of 4 height (omega arith) (omega arith)))
    (either_of (is 16 width && by-16 || is 8 width && by_8) (is 4 width && is 4 height) e)

-- ---- numbers that are accepted
pub record Accepted (width height pitch-a pitch-b : ℤ) : Type 0 where
  pub wide : Side width
  pub high : Side height
  pub first : Within 0 65536 pitch-a
  pub second : Within 0 65536 pitch-b

pitch_of : (width pitch : ℤ) → Side width → is_pitch width pitch ≡ true → Within 0 65536 pitch
pitch_of width pitch side e =
    let w = side.within in
    let l = lies_low width (pos 65536) pitch e in
    let h = lies_high width (pos 65536) pitch e in
    omega signed

pub accepted : (measure width height pitch-a pitch-b : ℤ) → numbers_fit measure width height pitch-a pitch-b ≡ true → Accepted width height pitch-a pitch-b
accepted measure width height pitch-a pitch-b e =
    let m = lies_in (pos 0) (pos 1) measure in
    let s = is_size width height in
    let a = is_pitch width pitch-a in
    let b = is_pitch width pitch-b in
    let three = left_of (m && s && a) b e in
    let sides = size_of width height (right_of m s (left_of (m && s) a three)) in
    record {
      wide = sides.wide;
      high = sides.high;
      first = pitch_of width pitch-a sides.wide (right_of (m && s) a three);
      second = pitch_of width pitch-b sides.wide (right_of (m && s && a) b e);
    }

-- ---- the outcomes
module _ (measure width height : ℤ) (a : List ℕ) (pitch-a : ℤ) (b : List ℕ) (pitch-b : ℤ) (out : List ℕ) where
  pub record Outcome (number : ℕ) (after : List ℕ) : Type 0 where
    pub number_is : number ≡ cost_number measure width height a pitch-a b pitch-b (length out)
    pub bytes_are : after ≡ cost_bytes measure width height a pitch-a b pitch-b out

  -- a refusal leaves the lent bytes
  refused : (k : ℕ) → cost_number measure width height a pitch-a b pitch-b (length out) ≡ suc k → Outcome (suc k) out
  unfolding cost_bytes
  refused k e = record { number_is = sym e; bytes_are = rw (e, eqb-suc-zero k) }

  pub outcome_2 : numbers_fit measure width height pitch-a pitch-b ≡ false → Outcome 2 out
  unfolding cost_number
  outcome_2 e = refused 1 (rw e)

  module _ (fit : numbers_fit measure width height pitch-a pitch-b ≡ true) where
    pub outcome_3 : (is_held a (nat_abs pitch-a) (nat_abs width) (nat_abs height) && is_held b (nat_abs pitch-b) (nat_abs width) (nat_abs height)) ≡ false →
        Outcome 3 out
    unfolding cost_number
    outcome_3 e = refused 2 (rw (fit, e))

    module _ (held : (is_held a (nat_abs pitch-a) (nat_abs width) (nat_abs height) && is_held b (nat_abs pitch-b) (nat_abs width) (nat_abs height))
        ≡ true) where
      pub outcome_5 : length out < 4 → Outcome 5 out
      unfolding cost_number
      outcome_5 short = refused 4 (rw (fit, held, lt-ltb (length out) 4 short))

      done : 4 ≤ length out → cost_number measure width height a pitch-a b pitch-b (length out) ≡ 0
      unfolding cost_number
      done room = rw (fit, held, le-ltb (length out) 4 room)

      pub outcome_0 : 4 ≤ length out → Outcome 0 (bytes_of (pos (block_cost measure width height a pitch-a b pitch-b)) ++ drop 4 out)
      unfolding cost_bytes
      outcome_0 room = record { number_is = sym (done room); bytes_are = rw (done room) }

-- no number is over the table's last
pub cost_small : (measure width height : ℤ) (a : List ℕ) (pitch-a : ℤ) (b : List ℕ) (pitch-b : ℤ) (room : ℕ) →
    cost_number measure width height a pitch-a b pitch-b room ≤ 9
unfolding cost_number
cost_small measure width height a pitch-a b pitch-b room =
    by (numbers_fit measure width height pitch-a pitch-b)
    (is_held a (nat_abs pitch-a) (nat_abs width) (nat_abs height) && is_held b (nat_abs pitch-b) (nat_abs width) (nat_abs height)) (ltb room 4)
  where
    by : (t u v : Bool) → cond t (cond u (cond v 5 0) 3) 2 ≤ 9
    by false u v = omega arith
    by true false v = omega arith
    by true true true = omega arith
    by true true false = omega arith
