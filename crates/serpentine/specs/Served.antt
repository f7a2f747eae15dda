-- What a refusal's number says of the numbers given. The sides come first in each table, and who is served stands on a grid of accepted sides. Assumes nothing.
use Rattle.std.specs.Prelude.{◌≡◌, refl, Bool, true, ◌||◌, ℕ, ◌+◌, ◌*◌, ◌≤◌, ◌<◌, ℤ, ◌*ℤ◌}
use Rattle.std.proofs.Math.Path.{sym, ap}
use Rattle.std.proofs.Common.{◌∙◌}
use Rattle.std.proofs.Math.Bool.{false}
use native.Mathlib.Omega.{arith}
use Rattle.std.proofs.Math.Dec.{ltb}
use Rattle.std.proofs.Math.IntN.{pos, nat_abs}
use Rattle.std.specs.Int.Signed.{lt_z, le_z}
use borrow.Author.Tests.{ltb-false}
use Rattle.whole.specs.Signed.{signed, abs_is, eq_is, holds, lt_z_false, le_z_false, lt_z_surely_not, le_z_surely_not}
use Rattle.serpentine.specs.Walk.{Sides}
use Rattle.limits.specs.Refusals.{first}
use Rattle.serpentine.specs.Answers.{by_sides, is_outside, position_refusal, block_refusal, order_refusal}

-- ---- tests joined by `||`
neither_first : (a b : Bool) → (a || b) ≡ false → a ≡ false
neither_first true b e = e
neither_first false b e = refl

neither_second : (a b : Bool) → (a || b) ≡ false → b ≡ false
neither_second true b e = absurd (holds (sym e))
neither_second false b e = e

neither : {a b : Bool} → a ≡ false → b ≡ false → (a || b) ≡ false
neither p q = cc

-- ---- a table of two numbers, and what comes behind it
neither_number : (a b : Bool) (rest : ℕ) → ◌≡◌ {A = ℕ} (first a 1 (first b 2 rest)) 0 → (a ≡ false) × (b ≡ false) × (rest ≡ 0)
neither_number true b rest h = absurd (omega arith)
neither_number false true rest h = absurd (omega arith)
neither_number false false rest h = (refl, refl, h)

last_number : (a : Bool) (n : ℕ) → first a (1 + n) 0 ≡ 0 → a ≡ false
last_number true n h = absurd (omega arith)
last_number false n h = refl

-- ---- a grid that is accepted. Its sides are the natural numbers that they are cast to.
pub record Grid (nx ny : ℤ) : Type 0 where
  pub sides : Sides (nat_abs nx) (nat_abs ny)
  pub wide_is : pos (nat_abs nx) ≡ nx
  pub high_is : pos (nat_abs ny) ≡ ny

module _ (nx ny : ℤ) where
  below : Bool
  below = lt_z nx (pos 2) || lt_z ny (pos 2)

  over : Bool
  over = lt_z (pos 2048) nx || lt_z (pos 2048) ny

  grid_of : below ≡ false → over ≡ false → Grid nx ny
  unfolding below over
  grid_of b o =
      let p = lt_z_false nx (pos 2) (neither_first (lt_z nx (pos 2)) (lt_z ny (pos 2)) b) in
      let q = lt_z_false ny (pos 2) (neither_second (lt_z nx (pos 2)) (lt_z ny (pos 2)) b) in
      let r = lt_z_false (pos 2048) nx (neither_first (lt_z (pos 2048) nx) (lt_z (pos 2048) ny) o) in
      let s = lt_z_false (pos 2048) ny (neither_second (lt_z (pos 2048) nx) (lt_z (pos 2048) ny) o) in
      let a = abs_is nx in
      let c = abs_is ny in
      record {
        sides = record { wide = omega arith; high = omega arith; wide_most = omega arith; high_most = omega arith };
        wide_is = omega signed;
        high_is = omega signed;
      }

  pub grid_served : (rest : ℕ) → by_sides nx ny rest ≡ 0 → Grid nx ny × (rest ≡ 0)
  unfolding below over
  grid_served rest h = let n = neither_number below over rest h in (grid_of n.0 n.1, n.2)

  pub grid_passes : Grid nx ny → (rest : ℕ) → by_sides nx ny rest ≡ rest
  unfolding below over
  grid_passes g rest =
      let a = abs_is nx in
      let c = abs_is ny in
      let s = g.sides in
      let e = eq_is (pos (nat_abs nx)) nx g.wide_is in
      let f = eq_is (pos (nat_abs ny)) ny g.high_is in
      let b : below ≡ false = neither (lt_z_surely_not nx (pos 2) (omega arith)) (lt_z_surely_not ny (pos 2) (omega arith)) in
      let o : over ≡ false = neither (lt_z_surely_not (pos 2048) nx (omega arith)) (lt_z_surely_not (pos 2048) ny (omega arith)) in
      rw (b, o)

-- ---- a place that is not outside
pub record Inside (count place : ℤ) : Type 0 where
  pub less : nat_abs place < nat_abs count
  pub place_is : pos (nat_abs place) ≡ place

pub inside_of : (count place : ℤ) → is_outside count place ≡ false → Inside count place
inside_of count place h =
    let p = lt_z_false place (pos 0) (neither_first (lt_z place (pos 0)) (le_z count place) h) in
    let q = le_z_false count place (neither_second (lt_z place (pos 0)) (le_z count place) h) in
    let a = abs_is count in
    let b = abs_is place in
    record { less = omega arith; place_is = omega signed }

pub not_outside : (count place : ℤ) → pos (nat_abs count) ≡ count → Inside count place → is_outside count place ≡ false
not_outside count place e i =
    let p = eq_is (pos (nat_abs count)) count e in
    let q = eq_is (pos (nat_abs place)) place i.place_is in
    let l = i.less in
    neither (lt_z_surely_not place (pos 0) (omega (arith, abs_is place))) (le_z_surely_not count place (omega (arith, abs_is place, abs_is count)))

-- ---- each number is one of the table's
small : (a b c : Bool) → first a 1 (first b 2 (first c 4 0)) ≤ 9
small true b c = omega arith
small false true c = omega arith
small false false true = omega arith
small false false false = omega arith

module _ (nx ny : ℤ) where
  pub position_small : (bx by : ℤ) → position_refusal nx ny bx by ≤ 9
  unfolding position_refusal
  position_small bx by = small _ _ (is_outside nx bx || is_outside ny by)

  pub block_small : (position : ℤ) → block_refusal nx ny position ≤ 9
  unfolding block_refusal
  block_small position = small _ _ (is_outside (nx *ℤ ny) position)

-- ---- who is served
module _ (nx ny : ℤ) where
  pub position_served : (bx by : ℤ) → position_refusal nx ny bx by ≡ 0 → Grid nx ny × Inside nx bx × Inside ny by
  unfolding position_refusal
  position_served bx by h =
      let g = grid_served nx ny (first (is_outside nx bx || is_outside ny by) 4 0) h in
      let n = last_number (is_outside nx bx || is_outside ny by) 3 g.1 in
      (g.0, inside_of nx bx (neither_first (is_outside nx bx) (is_outside ny by) n), inside_of ny by (neither_second (is_outside nx bx) (is_outside ny by) n))

  pub serves_position : (bx by : ℤ) → Grid nx ny → Inside nx bx → Inside ny by → position_refusal nx ny bx by ≡ 0
  unfolding position_refusal
  serves_position bx by g i j =
      grid_passes nx ny g (first (is_outside nx bx || is_outside ny by) 4 0)
      ∙ rw (neither (not_outside nx bx g.wide_is i) (not_outside ny by g.high_is j))

  -- the sides' product, as it is and as it is cast
  pub product_is : Grid nx ny → nx *ℤ ny ≡ pos (nat_abs nx * nat_abs ny)
  product_is g = λ i. sym g.wide_is i *ℤ sym g.high_is i

  pub block_served : (position : ℤ) → block_refusal nx ny position ≡ 0 →
      Grid nx ny × (nat_abs position < nat_abs nx * nat_abs ny) × (pos (nat_abs position) ≡ position)
  unfolding block_refusal
  block_served position h =
      let g = grid_served nx ny (first (is_outside (nx *ℤ ny) position) 4 0) h in
      let i = inside_of (nx *ℤ ny) position (last_number (is_outside (nx *ℤ ny) position) 3 g.1) in
      (g.0, omega (arith, i.less, ap nat_abs (product_is g.0)), i.place_is)

  pub serves_block : (position : ℤ) → Grid nx ny → nat_abs position < nat_abs nx * nat_abs ny → pos (nat_abs position) ≡ position →
      block_refusal nx ny position ≡ 0
  unfolding block_refusal
  serves_block position g l e =
      let m = product_is g in
      let a : nat_abs (nx *ℤ ny) ≡ nat_abs nx * nat_abs ny = ap nat_abs m in
      let i : Inside (nx *ℤ ny) position = record { less = omega arith; place_is = e } in
      grid_passes nx ny g (first (is_outside (nx *ℤ ny) position) 4 0) ∙ rw (not_outside (nx *ℤ ny) position (ap pos a ∙ sym m) i)

  pub order_served : (numbers : ℕ) → order_refusal nx ny numbers ≡ 0 → Grid nx ny × (2 * (nat_abs nx * nat_abs ny) ≤ numbers)
  unfolding order_refusal
  order_served numbers h =
      let short = ltb numbers (2 * (nat_abs nx * nat_abs ny)) in
      let g = grid_served nx ny (first short 5 0) h in
      (g.0, ltb-false numbers (2 * (nat_abs nx * nat_abs ny)) (last_number short 4 g.1))
