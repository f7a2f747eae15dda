-- The tests one after the other. Assumes nothing.
use Rattle.std.specs.Prelude.{◌≡◌, true, length}
use Rattle.std.proofs.Common.{sym, ◌∙◌}
use Rattle.planes.specs.Planes.{holds3}
use Rattle.evaluation.specs.Refusals.{holds1, holds2, has_room, refusal_of}
use Rattle.evaluation.specs.Accepted.{searched}
use Rattle.evaluation.proofs.accepted.Goals as goal
use Rattle.evaluation.proofs.accepted.Goals.{Else-not-holds_1, Else-not-holds_2, Else-not-holds_3, Else-not-holds_3-2, Else-not-has_room}

-- ---- what each test left
first : (c : Else-not-holds_1) → holds1 c.args.request ≡ true
first c = sym c.holds_1.ensures ∙ c.if-not-holds_1.false

second : (c : Else-not-holds_2) → holds2 c.args.request ≡ true
second c = sym c.holds_2.ensures ∙ c.if-not-holds_2.false

source : (c : Else-not-holds_3) → holds3 c.args.request.source (length c.args.source.luma.now) (length c.args.source.u.now) (length c.args.source.v.now) ≡ true
source c = sym c.holds_3.ensures ∙ c.if-not-holds_3.false

reference : (c : Else-not-holds_3-2) → holds3 c.args.request.reference (length c.args.reference.luma.now) (length c.args.reference.u.now) (length c.args.reference.v.now) ≡ true
reference c = sym c.holds_3-2.ensures ∙ c.if-not-holds_3-2.false

room : (c : Else-not-has_room) → has_room (length c.args.records.now) c.args.bests ≡ true
room c = sym c.has_room.ensures ∙ c.if-not-has_room.false

pub any_too_wide-requires : goal.any_too_wide-requires
any_too_wide-requires c = searched c.args.request (first (goal.at.any_too_wide-requires c).Else-not-holds_1)

-- ---- each answer
pub returns-then-not-holds_1 : goal.returns-then-not-holds_1
unfolding refusal_of
returns-then-not-holds_1 c =
    let e = sym c.holds_1.ensures ∙ c.if-not-holds_1.true in
    simp e

pub returns-then-not-holds_2 : goal.returns-then-not-holds_2
unfolding refusal_of
returns-then-not-holds_2 c =
    let at = goal.at.returns-then-not-holds_2 c in
    let e = sym c.holds_2.ensures ∙ c.if-not-holds_2.true in
    simp (first at.Else-not-holds_1, e)

pub returns-then-not-holds_3 : goal.returns-then-not-holds_3
unfolding refusal_of
returns-then-not-holds_3 c =
    let at = goal.at.returns-then-not-holds_3 c in
    let e = sym c.holds_3.ensures ∙ c.if-not-holds_3.true in
    simp (first at.Else-not-holds_1, second at.Else-not-holds_2, e)

pub returns-then-not-holds_3-2 : goal.returns-then-not-holds_3-2
unfolding refusal_of
returns-then-not-holds_3-2 c =
    let at = goal.at.returns-then-not-holds_3-2 c in
    let e = sym c.holds_3-2.ensures ∙ c.if-not-holds_3-2.true in
    simp (first at.Else-not-holds_1, second at.Else-not-holds_2, source at.Else-not-holds_3, e)

pub returns-then-not-has_room : goal.returns-then-not-has_room
unfolding refusal_of
returns-then-not-has_room c =
    let at = goal.at.returns-then-not-has_room c in
    let e = sym c.has_room.ensures ∙ c.if-not-has_room.true in
    simp (first at.Else-not-holds_1, second at.Else-not-holds_2, source at.Else-not-holds_3, reference at.Else-not-holds_3-2, e)

pub returns-then-any_too_wide : goal.returns-then-any_too_wide
unfolding refusal_of
returns-then-any_too_wide c =
    let at = goal.at.returns-then-any_too_wide c in
    let e = sym c.any_too_wide.ensures ∙ c.if-any_too_wide.true in
    simp (first at.Else-not-holds_1, second at.Else-not-holds_2, source at.Else-not-holds_3, reference at.Else-not-holds_3-2, room at.Else-not-has_room, e)

pub returns : goal.returns
unfolding refusal_of
returns c =
    let at = goal.at.returns c in
    let e = sym c.any_too_wide.ensures ∙ c.if-any_too_wide.false in
    simp (first at.Else-not-holds_1, second at.Else-not-holds_2, source at.Else-not-holds_3, reference at.Else-not-holds_3-2, room at.Else-not-has_room, e)
