-- What the tests leave of the numbers where they are passed. Assumes nothing.
use Rattle.std.specs.Prelude.{◌≡◌, Bool, ◌&&◌, ◌||◌, not, List, ℕ, ◌+◌, ◌*◌, ◌≤◌, ◌<◌, T, ℤ, pos, nat_abs}
use Rattle.std.proofs.Math.Bool.{true, false}
use Rattle.std.proofs.Common.{mul-le-mul, arith, to_z-of_z, SFits, Fits, to_z, of_z}
use borrow.Author.Tests.{eqb-true, ltb-false, not-false}
use Rattle.std.proofs.Math.Dec.{eqb, ltb}
use Rattle.std.proofs.Math.ListN.{length}
use Rattle.std.specs.Int.Signed.{lt_z, le_z, non_neg}
use Rattle.std.specs.Int.{w32, w64}
use Rattle.limits.specs.Sizes.{numbers_per_best}
use Rattle.limits.specs.Limits.{blocks_of}
use Rattle.whole.specs.Numbers.{fits_i16}
use Rattle.whole.specs.Signed.{signed, range, abs_is}
use Rattle.whole.specs.Truth.{both_of}
use Rattle.limits.specs.Refused.{neither_first, neither_second, each_fails, first_passed}
use Rattle.finishing.specs.Asked.{Grid, Placed, Scored}
use Rattle.finishing.specs.Finish.{index_at, block_at, x_at, y_at, refused1, sides_over, refused2, is_stray, refused4, refused5, is_wild, refused7}
use Rattle.finishing.specs.Finish.{finish_answer}

pub grid_of : (nx ny : ℤ) → refused1 nx ny ≡ false → sides_over nx ny ≡ false → Grid nx ny
grid_of nx ny b o =
    let p = neither_first (lt_z nx (pos 2)) (lt_z ny (pos 2)) b in
    let q = neither_second (lt_z nx (pos 2)) (lt_z ny (pos 2)) b in
    let r = neither_first (lt_z (pos 2048) nx) (lt_z (pos 2048) ny) o in
    let s = neither_second (lt_z (pos 2048) nx) (lt_z (pos 2048) ny) o in
    record { wide = omega signed; high = omega signed }

pub blocks_most : {nx ny : ℤ} → Grid nx ny → blocks_of nx ny ≤ 4194304
blocks_most {nx} {ny} g =
    let wide : nat_abs nx ≤ 2048 = omega (arith, abs_is nx, g.wide.low, g.wide.high) in
    let high : nat_abs ny ≤ 2048 = omega (arith, abs_is ny, g.high.low, g.high.high) in
    mul-le-mul wide high

-- ---- an index inside the grid
pub record Inside (blocks : ℕ) (index : ℤ) : Type 0 where
  pub above : lt_z index (pos 0) ≡ false
  pub below : nat_abs index < blocks

inside_of : (blocks : ℕ) (index : ℤ) → is_stray (pos blocks) index ≡ false → Inside blocks index
inside_of blocks index e =
    let p = neither_first (lt_z index (pos 0)) (le_z (pos blocks) index) e in
    let q = neither_second (lt_z index (pos 0)) (le_z (pos blocks) index) e in
    record { above = p; below = omega (signed, abs_is index) }

-- and as it is cast
pub index_cast : (index : ℤ) → SFits w32 index → lt_z index (pos 0) ≡ false →
    T (non_neg (to_z w32 (of_z w32 index))) × Fits w64 (nat_abs (to_z w32 (of_z w32 index)))
index_cast index f above = simp to_z-of_z (omega (signed, range f))

-- ---- who is served
pub record Passed (nx ny : ℤ) (indices bests : List ℤ) (diagonal : ℤ) (asked : Bool) (held room : ℕ) : Type 0 where
  pub held_is : held ≡ 3 * blocks_of nx ny
  pub diagonal_above : lt_z (pos 0) diagonal ≡ true
  pub inside : (n : ℕ) → n < length indices → Inside (blocks_of nx ny) (index_at indices n)
  pub room_is : asked ≡ true → 2 * blocks_of nx ny ≤ room
  pub five_each : length bests ≡ numbers_per_best * length indices
  pub tame : (n : ℕ) → n < length indices → (fits_i16 (x_at bests n) && fits_i16 (y_at bests n)) ≡ true

module _ (nx ny : ℤ) (indices bests : List ℤ) (diagonal : ℤ) (asked : Bool) (held room : ℕ) where
  pub passed : finish_answer nx ny indices bests diagonal asked held room ≡ 0 → Passed nx ny indices bests diagonal asked held room
  unfolding finish_answer
  passed e =
      let blocks = blocks_of nx ny in
      let entries = length indices in
      let one = first_passed (refused1 nx ny) 0 _ e in
      let two = first_passed (refused2 nx ny diagonal held) 1 _ one.1 in
      let four = first_passed (refused4 nx ny indices) 3 _ two.1 in
      let five = first_passed (refused5 nx ny indices bests asked room) 4 _ four.1 in
      let seven = first_passed (refused7 indices bests) 6 _ five.1 in
      let counted = eqb held (3 * blocks) in
      let numbers = neither_second (sides_over nx ny) (not counted || le_z diagonal (pos 0)) two.0 in
      let least = neither_second (not counted) (le_z diagonal (pos 0)) numbers in
      let alike = eqb (length bests) (numbers_per_best * entries) in
      let short = asked && ltb room (2 * blocks) in
      record {
        held_is = eqb-true held (3 * blocks) (not-false counted (neither_first (not counted) (le_z diagonal (pos 0)) numbers));
        diagonal_above = omega signed;
        inside = λ n h. inside_of blocks (index_at indices n) (each_fails (λ k. is_stray (pos blocks) (index_at indices k)) entries n four.0 h);
        room_is = λ t. enough blocks t (neither_first short (not alike) five.0);
        five_each = eqb-true (length bests) (numbers_per_best * entries) (not-false alike (neither_second short (not alike) five.0));
        tame = λ n h. not-false (fits_i16 (x_at bests n) && fits_i16 (y_at bests n))
            (each_fails (λ k. is_wild (x_at bests k) (y_at bests k)) entries n seven.0 h);
      }
    where
      enough : (blocks : ℕ) → asked ≡ true → (asked && ltb room (2 * blocks)) ≡ false → 2 * blocks ≤ room
      enough blocks t e = ltb-false room (2 * blocks) (rw t at e)

module _ {nx ny : ℤ} {indices bests : List ℤ} {diagonal : ℤ} {asked : Bool} {held room : ℕ} (p : Passed nx ny indices bests diagonal asked held room) where
  pub placed : (each : ℕ) (buffer : List ℤ) → ((n : ℕ) → n < blocks_of nx ny → each * n + each ≤ length buffer) → Placed each buffer indices bests
  placed each buffer enough =
      record {
        five_each = p.five_each;
        above = λ n h. (p.inside n h).above;
        below = λ n h. enough (block_at indices n) (p.inside n h).below;
      }

  pub scored : Scored diagonal indices bests
  scored = record { fit = λ n h. both_of (p.tame n h) p.diagonal_above }
