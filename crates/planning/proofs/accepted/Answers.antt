-- The tests one after the other. Assumes nothing.
use Rattle.std.specs.Prelude.{◌≡◌, refl, true, length}
use Rattle.std.proofs.Common.{arith, sym, ◌∙◌}
use Rattle.planes.specs.Planes.{holds3}
use Rattle.planning.specs.Refusals.{block_count, holds1, holds2, vectors_fit, order_holds, has_room, refusal_of}
use Rattle.planning.specs.Accepted.{settings, count_small, listed_is, held_is, served}
use Rattle.planning.proofs.accepted.Goals as goal
use Rattle.planning.proofs.accepted.Goals.{Else-not-holds_1, Else-not-holds_2, Else-not-vectors_fit, Else-not-holds_3, Else-not-order_holds, Else-not-has_room}

-- ---- what each test left
first : (c : Else-not-holds_1) → holds1 c.args.s (length c.args.order.now) ≡ true
first c = sym c.holds_1.ensures ∙ c.if-not-holds_1.false

second : (c : Else-not-holds_2) → holds2 c.args.s (length c.args.vectors.now) ≡ true
second c = sym c.holds_2.ensures ∙ c.if-not-holds_2.false

components : (c : Else-not-vectors_fit) → vectors_fit c.args.vectors.now (block_count c.args.s.grid) ≡ true
components c = sym (rw c.count_of-n.ensures.value at c.vectors_fit.ensures) ∙ c.if-not-vectors_fit.false

third : (c : Else-not-holds_3) → holds3 c.args.s.planes (length c.args.samples.luma.now) (length c.args.samples.u.now) (length c.args.samples.v.now) ≡ true
third c = sym c.holds_3.ensures ∙ c.if-not-holds_3.false

fourth : (c : Else-not-order_holds) → order_holds c.args.s.grid c.args.order.now (block_count c.args.s.grid) ≡ true
fourth c = sym (rw c.count_of-n.ensures.value at c.order_holds.ensures) ∙ c.if-not-order_holds.false

fifth : (c : Else-not-has_room) → has_room (block_count c.args.s.grid) c.args.words c.args.indices ≡ true
fifth c = sym (rw c.count_of-n.ensures.value at c.has_room.ensures) ∙ c.if-not-has_room.false

-- ---- what the calls ask
pub vectors_fit-requires : goal.vectors_fit-requires
vectors_fit-requires c =
    let e = held_is c.args.s (length c.args.vectors.now) (second (goal.at.vectors_fit-requires c).Else-not-holds_2) in
    let n = c.count_of-n.ensures.value in
    omega arith

pub order_holds-requires : goal.order_holds-requires
order_holds-requires c =
    let e = listed_is c.args.s (length c.args.order.now) (first (goal.at.order_holds-requires c).Else-not-holds_1) in
    let n = c.count_of-n.ensures.value in
    omega arith

pub has_room-requires : goal.has_room-requires
has_room-requires c =
    let at = goal.at.has_room-requires c in
    let k = settings c.args.s (length c.args.order.now) (length c.args.vectors.now) (first at.Else-not-holds_1) (second at.Else-not-holds_2) in
    let small = count_small k in
    let n = c.count_of-n.ensures.value in
    omega arith

pub all_fit-requires : goal.all_fit-requires
all_fit-requires c =
    let at = goal.at.all_fit-requires c in
    rw c.count_of-n.ensures.value
    (served c.args.s c.args.order.now c.args.vectors.now (length c.args.samples.luma.now) (length c.args.samples.u.now) (length c.args.samples.v.now)
    (first at.Else-not-holds_1) (second at.Else-not-holds_2) (components at.Else-not-vectors_fit) (third at.Else-not-holds_3) (fourth at.Else-not-order_holds))

-- ---- each answer
pub returns-then-not-holds_1 : goal.returns-then-not-holds_1
unfolding refusal_of
returns-then-not-holds_1 c =
    let e = sym c.holds_1.ensures ∙ c.if-not-holds_1.true in
    simp e

pub returns-then-not-holds_2 : goal.returns-then-not-holds_2
unfolding refusal_of
returns-then-not-holds_2 c =
    let at = goal.at.returns-then-not-holds_2 c in
    let e = sym c.holds_2.ensures ∙ c.if-not-holds_2.true in
    simp (first at.Else-not-holds_1, e)

pub returns-then-not-vectors_fit : goal.returns-then-not-vectors_fit
unfolding refusal_of
returns-then-not-vectors_fit c =
    let at = goal.at.returns-then-not-vectors_fit c in
    let e = sym (rw c.count_of-n.ensures.value at c.vectors_fit.ensures) ∙ c.if-not-vectors_fit.true in
    simp (first at.Else-not-holds_1, second at.Else-not-holds_2, e)

pub returns-then-not-holds_3 : goal.returns-then-not-holds_3
unfolding refusal_of
returns-then-not-holds_3 c =
    let at = goal.at.returns-then-not-holds_3 c in
    let e = sym c.holds_3.ensures ∙ c.if-not-holds_3.true in
    simp (first at.Else-not-holds_1, second at.Else-not-holds_2, components at.Else-not-vectors_fit, e)

pub returns-then-not-order_holds : goal.returns-then-not-order_holds
unfolding refusal_of
returns-then-not-order_holds c =
    let at = goal.at.returns-then-not-order_holds c in
    let e = sym (rw c.count_of-n.ensures.value at c.order_holds.ensures) ∙ c.if-not-order_holds.true in
    simp (first at.Else-not-holds_1, second at.Else-not-holds_2, components at.Else-not-vectors_fit, third at.Else-not-holds_3, e)

pub returns-then-not-has_room : goal.returns-then-not-has_room
unfolding refusal_of
returns-then-not-has_room c =
    let at = goal.at.returns-then-not-has_room c in
    let e = sym (rw c.count_of-n.ensures.value at c.has_room.ensures) ∙ c.if-not-has_room.true in
    simp (first at.Else-not-holds_1, second at.Else-not-holds_2, components at.Else-not-vectors_fit, third at.Else-not-holds_3, fourth at.Else-not-order_holds, e)

pub returns-then-not-all_fit : goal.returns-then-not-all_fit
unfolding refusal_of
returns-then-not-all_fit c =
    let at = goal.at.returns-then-not-all_fit c in
    let e = sym (rw c.count_of-n.ensures.value at c.all_fit.ensures) ∙ c.if-not-all_fit.true in
    simp (first at.Else-not-holds_1, second at.Else-not-holds_2, components at.Else-not-vectors_fit, third at.Else-not-holds_3, fourth at.Else-not-order_holds, fifth at.Else-not-has_room, e)

pub returns : goal.returns
unfolding refusal_of
returns c =
    let at = goal.at.returns c in
    let e = sym (rw c.count_of-n.ensures.value at c.all_fit.ensures) ∙ c.if-not-all_fit.false in
    simp (first at.Else-not-holds_1, second at.Else-not-holds_2, components at.Else-not-vectors_fit, third at.Else-not-holds_3, fourth at.Else-not-order_holds, fifth at.Else-not-has_room, e) refl
