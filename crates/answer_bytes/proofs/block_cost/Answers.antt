-- Three refusals by their outcomes, and then the cost's bytes; the cost is small, since the samples are bytes. Assumes nothing.
use Rattle.std.proofs.Common.{◌≡◌, true, ◌&&◌, Bool, ℕ, ◌+◌, ◌*◌, ◌≤◌, List, drop, ◌++◌, ℤ, pos, nat_abs, sym, ap, ◌∙◌, arith, to_z, of_z, w32, to_z-of_z}
use Rattle.std.proofs.Math.Facts.{to_z_pos}
use Rattle.std.specs.Int.Signed.{lt_z}
use borrow.Author.Tests.{leb-true}
use mir.Val.{SFits}
use Rattle.whole.specs.Signed.{abs_is}
use Rattle.whole.specs.Truth.{left_of, right_of, both_alike}
use Rattle.distance.specs.Distance.{block_of}
use Rattle.distance.specs.Laws.{Bytes}
use Rattle.distance.proofs.Laws.{cost_most}
use Rattle.little_endian.specs.Bytes.{bytes_of}
use Rattle.refusals.specs.Numbers.{outcome}
use Rattle.answer_bytes.specs.BlockCost.{numbers_fit, is_held, block_cost}
use Rattle.answer_bytes.specs.BlockCostLaws.{Accepted, accepted, outcome_2, outcome_3, outcome_5, outcome_0}
use Rattle.answer_bytes.proofs.block_cost.Goals as goal
use Rattle.answer_bytes.proofs.block_cost.Goals.{After-is_held-2, After-cost-value}

-- the numbers as the code reads them are the numbers
same_numbers : {measure width height p q : ℤ} → SFits w32 measure → SFits w32 width → SFits w32 height → SFits w32 p → SFits w32 q → {t : Bool} →
    t ≡ numbers_fit (to_z w32 (of_z w32 measure)) (to_z w32 (of_z w32 width)) (to_z w32 (of_z w32 height)) (to_z w32 (of_z w32 p)) (to_z w32 (of_z w32 q)) →
    numbers_fit measure width height p q ≡ t
same_numbers e f g h i k = sym (simp to_z-of_z at k)

abbrev both : List ℕ → ℤ → List ℕ → ℤ → ℤ → ℤ → Bool
both a p b q width height = is_held a (nat_abs p) (nat_abs width) (nat_abs height) && is_held b (nat_abs q) (nat_abs width) (nat_abs height)

-- ---- past the two tests of the slices
module _ (c : After-is_held-2) where
  fits : numbers_fit c.args.measure c.args.width c.args.height c.args.a_pitch c.args.b_pitch ≡ true
  fits = let r = c.ranges in same_numbers r.measure r.width r.height r.a_pitch r.b_pitch c.if-not-numbers_fit.ensures

  lies : Accepted c.args.width c.args.height c.args.a_pitch c.args.b_pitch
  lies = accepted c.args.measure c.args.width c.args.height c.args.a_pitch c.args.b_pitch fits

  held : {t : Bool} → (c.is_held.result && c.is_held-2.result) ≡ t → both c.args.a.now c.args.a_pitch c.args.b.now c.args.b_pitch c.args.width c.args.height ≡ t
  held e =
      let f = c.ranges.width in
      let g = c.ranges.height in
      let h = c.ranges.a_pitch in
      let i = c.ranges.b_pitch in
      sym (both_alike (simp to_z-of_z at c.is_held.ensures) (simp to_z-of_z at c.is_held-2.ensures)) ∙ e

sides : {width height p q : ℤ} → Accepted width height p q → (nat_abs width ≤ 16) × (nat_abs height ≤ 16)
sides {width} {height} s =
    let wide = s.wide.within in
    let high = s.high.within in
    (omega (arith, abs_is width), omega (arith, abs_is height))

-- ---- the refusals
pub returns-then-not-numbers_fit : goal.returns-then-not-numbers_fit
returns-then-not-numbers_fit c =
    let s = c.args in
    let r = c.ranges in
    let refused = same_numbers r.measure r.width r.height r.a_pitch r.b_pitch c.if-not-numbers_fit.ensures in
    let o = outcome_2 s.measure s.width s.height s.a.now s.a_pitch s.b.now s.b_pitch s.out.now refused in
    record { answer = ap outcome o.number_is; bytes = o.bytes_are }

pub returns-then-not-is_held : goal.returns-then-not-is_held
returns-then-not-is_held c =
    let s = c.args in
    let k = (goal.at.returns-then-not-is_held c).After-is_held-2 in
    let o = outcome_3 s.measure s.width s.height s.a.now s.a_pitch s.b.now s.b_pitch s.out.now (fits k) (held k c.if-not-is_held.true) in
    record { answer = ap outcome o.number_is; bytes = o.bytes_are }

pub returns-then-out-lt4 : goal.returns-then-out-lt4
returns-then-out-lt4 c =
    let s = c.args in
    let k = (goal.at.returns-then-out-lt4 c).After-is_held-2 in
    let o = outcome_5 s.measure s.width s.height s.a.now s.a_pitch s.b.now s.b_pitch s.out.now (fits k) (held k c.if-not-is_held.false) c.if-out-lt4.true in
    record { answer = ap outcome o.number_is; bytes = o.bytes_are }

-- ---- the cost
pub cost-value-requires : goal.cost-value-requires
cost-value-requires c =
    let s = c.args in
    let f = c.ranges.width in
    let g = c.ranges.height in
    let h = c.ranges.a_pitch in
    let i = c.ranges.b_pitch in
    let k = (goal.at.cost-value-requires c).After-is_held-2 in
    let lie = sides (lies k) in
    let in_a = is_held s.a.now (nat_abs s.a_pitch) (nat_abs s.width) (nat_abs s.height) in
    let in_b = is_held s.b.now (nat_abs s.b_pitch) (nat_abs s.width) (nat_abs s.height) in
    let both_held = held k c.if-not-is_held.false in
    simp to_z-of_z (record { wide = lie.0; high = lie.1; first = leb-true _ _ (left_of in_a in_b both_held); second = leb-true _ _ (right_of in_a in_b both_held) })

module _ (c : After-cost-value) where
  value : c.cost-value.result ≡ block_cost c.args.measure c.args.width c.args.height c.args.a.now c.args.a_pitch c.args.b.now c.args.b_pitch
  unfolding block_cost
  value =
      let e = c.ranges.measure in
      let f = c.ranges.width in
      let g = c.ranges.height in
      let h = c.ranges.a_pitch in
      let i = c.ranges.b_pitch in
      simp to_z-of_z at c.cost-value.ensures

  -- it is small, since the samples are bytes
  small : Accepted c.args.width c.args.height c.args.a_pitch c.args.b_pitch → c.cost-value.result ≤ 130560
  unfolding block_cost
  small accept =
      let s = c.args in
      let p = nat_abs s.a_pitch in
      let q = nat_abs s.b_pitch in
      let lie = sides accept in
      let in_a : Bytes (block_of s.a.now p) = λ y x. omega (arith, c.type_inv.a (y * p + x)) in
      let in_b : Bytes (block_of s.b.now q) = λ y x. omega (arith, c.type_inv.b (y * q + x)) in
      rw value (cost_most (block_of s.a.now p) (block_of s.b.now q) in_a in_b (lt_z (pos 0) s.measure) (nat_abs s.width) (nat_abs s.height) lie.0 lie.1)

pub overflow_cast-value : goal.overflow_cast-value
overflow_cast-value c =
    let at = goal.at.overflow_cast-value c in
    let few = small at.After-cost-value (lies at.After-is_held-2) in
    record { sfits = omega arith }

pub returns : goal.returns
returns c =
    let s = c.args in
    let at = goal.at.returns c in
    let few = small at.After-cost-value (lies at.After-is_held-2) in
    let word = to_z_pos w32 {n = c.cost-value.result} (omega arith) ∙ ap pos (value at.After-cost-value) in
    let o = outcome_0 s.measure s.width s.height s.a.now s.a_pitch s.b.now s.b_pitch s.out.now (fits at.After-is_held-2) (held at.After-is_held-2 c.if-not-is_held.false) c.if-out-lt4.false in
    record { answer = ap outcome o.number_is; bytes = c.put_word.ensures ∙ ap (λ (w : ℤ). bytes_of w ++ drop 4 s.out.now) word ∙ o.bytes_are }
