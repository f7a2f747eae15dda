-- Each refusal behind the tests before it, and then the three planes. Assumes nothing.
use Rattle.std.specs.Prelude.{Ok}
use Rattle.std.proofs.Common.{sym, ap, ◌∙◌, FitsSigned, to_z-of_z, length, rules}
use Rattle.std.specs.Int.{w32}
use Rattle.levels.specs.Refusals.{all_have_sides, lengths_kept, refusal_of, level_answer}
use Rattle.levels.specs.Accepted.{cuttable}
use Rattle.levels.proofs.level.Goals as goal

pub returns-then-not-holds_2 : goal.returns-then-not-holds_2
unfolding level_answer refusal_of
returns-then-not-holds_2 c = let e = sym c.holds_2.ensures ∙ c.if-not-holds_2.true in simp e

pub returns-then-not-within : goal.returns-then-not-within
unfolding level_answer refusal_of
returns-then-not-within c =
    let level : FitsSigned w32 c.args.frame.level = search rules in
    let two = sym c.holds_2.ensures ∙ c.if-not-holds_2.false in
    let e = sym (simp to_z-of_z at c.within.ensures) ∙ c.if-not-within.true in
    simp (two, e)

pub planes_of-planes-requires : goal.planes_of-planes-requires
planes_of-planes-requires c =
    let level : FitsSigned w32 c.args.frame.level = search rules in
    let two = sym c.holds_2.ensures ∙ c.if-not-holds_2.false in
    cuttable _ two (sym (simp to_z-of_z at c.within.ensures) ∙ c.if-not-within.false)

pub returns-then-not-all_have_sides : goal.returns-then-not-all_have_sides
unfolding level_answer refusal_of
returns-then-not-all_have_sides c =
    let level : FitsSigned w32 c.args.frame.level = search rules in
    let two = sym c.holds_2.ensures ∙ c.if-not-holds_2.false in
    let ranged = sym (simp to_z-of_z at c.within.ensures) ∙ c.if-not-within.false in
    let sided = c.all_have_sides.ensures ∙ ap all_have_sides c.planes_of-planes.ensures in
    let e = sym sided ∙ c.if-not-all_have_sides.true in
    simp (two, ranged, e)

pub returns-then-not-lengths_kept : goal.returns-then-not-lengths_kept
unfolding level_answer refusal_of
returns-then-not-lengths_kept c =
    let a = c.args in
    let level : FitsSigned w32 a.frame.level = search rules in
    let two = sym c.holds_2.ensures ∙ c.if-not-holds_2.false in
    let ranged = sym (simp to_z-of_z at c.within.ensures) ∙ c.if-not-within.false in
    let sides = sym (c.all_have_sides.ensures ∙ ap all_have_sides c.planes_of-planes.ensures) ∙ c.if-not-all_have_sides.false in
    let kept =
    c.lengths_kept.ensures
    ∙ ap (lengths_kept a.frame (length a.packed.luma.now) (length a.packed.u.now) (length a.packed.v.now) (length a.source.luma.now) (length a.source.u.now) (length a.source.v.now)) c.planes_of-planes.ensures
    in
    let e = sym kept ∙ c.if-not-lengths_kept.true in
    simp (two, ranged, sides, e)

pub returns : goal.returns
unfolding level_answer refusal_of
returns c =
    let a = c.args in
    let level : FitsSigned w32 a.frame.level = search rules in
    let two = sym c.holds_2.ensures ∙ c.if-not-holds_2.false in
    let ranged = sym (simp to_z-of_z at c.within.ensures) ∙ c.if-not-within.false in
    let sides = sym (c.all_have_sides.ensures ∙ ap all_have_sides c.planes_of-planes.ensures) ∙ c.if-not-all_have_sides.false in
    let kept =
    c.lengths_kept.ensures
    ∙ ap (lengths_kept a.frame (length a.packed.luma.now) (length a.packed.u.now) (length a.packed.v.now) (length a.source.luma.now) (length a.source.u.now) (length a.source.v.now)) c.planes_of-planes.ensures
    in
    let e = sym kept ∙ c.if-not-lengths_kept.false in
    simp (two, ranged, sides, e) (ap Ok c.planes_of-planes.ensures)
