-- Laws of the entries, for every number given: an answer's number is that of the table, the block at the position that is answered is the block, the position
-- of the block that is answered is the position, and the order that is filled has at each position the block that is answered there. Assumes nothing.
use Rattle.std.specs.Prelude.{◌≡◌, List, ℤ, pos, nat_abs, length, get_or, Result, Ok}
use Rattle.std.proofs.Math.Path.{refl}
use Rattle.std.proofs.Common.{sym, ap, ◌∙◌, arith}
use Prim.Native.Nat.{ℕ, ◌+◌, ◌*◌, ◌<◌}
use Rattle.refusals.specs.declared.Refusal.{Refusal}
use Rattle.refusals.specs.Numbers.{answer_number}
use Rattle.refusals.specs.Laws.{number_back}
use Rattle.limits.specs.Refused.{kept_refused}
use Rattle.serpentine.specs.declared.Place.{Place}
use Rattle.serpentine.specs.Walk.{at, block_at, position_at, filled}
use Rattle.serpentine.specs.Answers.{
  position_refusal,
  block_refusal,
  order_refusal,
  position_given,
  position_answer,
  block_given,
  block_answer,
  order_after,
}
use Rattle.serpentine.specs.Walked.{block_inside, position_below, block_undoes_position, position_undoes_block}
use Rattle.serpentine.specs.Filling.{filled_at}
use Rattle.serpentine.specs.Served.{Inside, position_small, block_small, position_served, block_served, order_served, serves_position, serves_block}

-- ---- an answer by its number
module _ (nx ny bx by : ℤ) where
  pub number_of_position : answer_number (position_answer nx ny bx by) ≡ position_refusal nx ny bx by
  unfolding position_answer
  number_of_position = number_back _ (position_refusal nx ny bx by) (position_small nx ny bx by)

  pub position_done : position_refusal nx ny bx by ≡ 0 → position_answer nx ny bx by
      ≡ Ok (position_given (position_at (nat_abs nx) (nat_abs ny) (at (nat_abs bx) (nat_abs by))))
  unfolding position_answer
  position_done e = rw e

module _ (nx ny p : ℤ) where
  pub number_of_block : answer_number (block_answer nx ny p) ≡ block_refusal nx ny p
  unfolding block_answer
  number_of_block = number_back _ (block_refusal nx ny p) (block_small nx ny p)

  pub block_done : block_refusal nx ny p ≡ 0 → block_answer nx ny p ≡ Ok (block_given (block_at (nat_abs nx) (nat_abs ny) (nat_abs p)))
  unfolding block_answer
  block_done e = rw e

module _ (nx ny : ℤ) (order : List ℤ) where
  pub order_done : order_refusal nx ny (length order) ≡ 0 → order_after nx ny order ≡ filled (nat_abs nx) (nat_abs ny) order
  unfolding order_after
  order_done e = rw e

  pub order_kept : 0 < order_refusal nx ny (length order) → order_after nx ny order ≡ order
  unfolding order_after
  order_kept h = kept_refused (order_refusal nx ny (length order)) (filled (nat_abs nx) (nat_abs ny) order) order h

-- ---- the entries undo each other
abbrev served_as : {X : Type 0} → X → Result X Refusal
served_as value = Ok value

inner : {X : Type 0} {p q : X} → served_as p ≡ served_as q → p ≡ q
inner e = cc

inner_x : {p q : ℤ × ℤ} → served_as p ≡ served_as q → p.0 ≡ q.0
inner_x e = ap (λ (p : ℤ × ℤ). p.0) (inner e)

inner_y : {p q : ℤ × ℤ} → served_as p ≡ served_as q → p.1 ≡ q.1
inner_y e = ap (λ (p : ℤ × ℤ). p.1) (inner e)

alike : {x y u v : ℤ} → x ≡ u → y ≡ v → served_as {X = ℤ × ℤ} (x, y) ≡ served_as (u, v)
alike e f = λ i. Ok (e i, f i)

pub block_at_answered_position : (nx ny bx by p : ℤ) → position_answer nx ny bx by ≡ Ok p → block_answer nx ny p ≡ Ok (bx, by)
block_at_answered_position nx ny bx by p e =
    let number = sym (number_of_position nx ny bx by) ∙ ap answer_number e in
    let served = position_served nx ny bx by number in
    let w = nat_abs nx in
    let h = nat_abs ny in
    let W = served.0.sides.wide in
    let H = served.0.sides.high in
    let X = served.1.less in
    let Y = served.2.less in
    let is : p ≡ pos (position_at w h (at (nat_abs bx) (nat_abs by))) = inner (sym e ∙ position_done nx ny bx by number) in
    let there = serves_block nx ny p served.0 (omega (arith, ap nat_abs is, position_below w h W H (nat_abs bx) (nat_abs by) X Y))
    (ap (λ (z : ℤ). pos (nat_abs z)) is ∙ sym is) in
    block_done nx ny p there
    ∙ ap (λ (b : Place). served_as (block_given b)) (ap (λ (z : ℤ). block_at w h (nat_abs z)) is ∙ block_undoes_position w h W H (nat_abs bx) (nat_abs by) X Y)
    ∙ alike served.1.place_is served.2.place_is

pub position_of_answered_block : (nx ny p x y : ℤ) → block_answer nx ny p ≡ Ok (x, y) → position_answer nx ny x y ≡ Ok p
position_of_answered_block nx ny p x y e =
    let number = sym (number_of_block nx ny p) ∙ ap answer_number e in
    let served = block_served nx ny p number in
    let w = nat_abs nx in
    let h = nat_abs ny in
    let W = served.0.sides.wide in
    let H = served.0.sides.high in
    let b = block_at w h (nat_abs p) in
    let within = block_inside w h W H (nat_abs p) served.1 in
    let is_x : x ≡ pos b.x = inner_x (sym e ∙ block_done nx ny p number) in
    let is_y : y ≡ pos b.y = inner_y (sym e ∙ block_done nx ny p number) in
    let i : Inside nx x = record { less = omega (arith, ap nat_abs is_x, within.0); place_is = ap (λ (z : ℤ). pos (nat_abs z)) is_x ∙ sym is_x } in
    let j : Inside ny y = record { less = omega (arith, ap nat_abs is_y, within.1); place_is = ap (λ (z : ℤ). pos (nat_abs z)) is_y ∙ sym is_y } in
    position_done nx ny x y (serves_position nx ny x y served.0 i j)
    ∙ ap (λ (n : ℕ). served_as (position_given n))
    ((λ t. position_at w h (at (nat_abs (is_x t)) (nat_abs (is_y t)))) ∙ position_undoes_block w h W H (nat_abs p) served.1)
    ∙ ap served_as served.2

-- ---- the order that is filled has at each position the block that is answered there
module _ (nx ny : ℤ) (order : List ℤ) (served : order_refusal nx ny (length order) ≡ 0) (p : ℕ) (h : p < nat_abs nx * nat_abs ny) where
  pub order_has_answered_block :
      block_answer nx ny (pos p)
      ≡ Ok (get_or (order_after nx ny order) (2 * p) (pos 0), get_or (order_after nx ny order) (2 * p + 1) (pos 0))
  order_has_answered_block =
      let s = order_served nx ny (length order) served in
      let there = filled_at (nat_abs nx) (nat_abs ny) s.0.sides.wide s.0.sides.high order p h in
      rw (order_done nx ny order served) (block_done nx ny (pos p) (serves_block nx ny (pos p) s.0 h refl) ∙ sym (alike there.0 there.1))
