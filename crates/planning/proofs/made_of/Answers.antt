-- The frame's sides and the pel are within the limits, so that the diagonal is not refused. Assumes nothing.
use Rattle.std.specs.Prelude.{◌≡◌, true, ℤ, pos}
use Rattle.std.specs.Int.Signed.{le_z}
use Rattle.std.specs.Int.{w32}
use Rattle.std.proofs.Common.{rules, refl, sym, ap, ◌∙◌, FitsSigned, to_z-of_z}
use mir.Val.{to_z, of_z}
use Rattle.whole.specs.Signed.{signed, got}
use Rattle.whole.specs.Interval.{fits}
use Rattle.limits.specs.Ranges.{radius_within}
use Rattle.limits.specs.Limits.{radius_of}
use Rattle.window.specs.Windows.{slots_of}
use Rattle.score.specs.Diagonal.{diagonal_answer}
use Rattle.planning.specs.declared.Made.{Made}
use Rattle.planning.specs.Planned.{made_of}
use Rattle.planning.specs.Accepted.{given, diagonal_given}
use Rattle.planning.proofs.made_of.Goals as goal
use Rattle.planning.proofs.made_of.Goals.{After-radius_of, After-diagonal}

radius_is : (c : After-radius_of) → to_z w32 (of_z w32 c.radius_of.result) ≡ radius_of c.args.s.search.search_param
radius_is c = got w32 c.radius_of.type_inv (c.radius_of.ensures ∙ ap radius_of (to_z-of_z (fits {w = w32} c.requires.search tt tt)))

pub slots_of-requires : goal.slots_of-requires
slots_of-requires c =
    let w = radius_within c.requires.search in
    let low = w.low in
    let high = w.high in
    let least : le_z (pos 0) (radius_of c.args.s.search.search_param) ≡ true = omega signed in
    let most : le_z (radius_of c.args.s.search.search_param) (pos 3) ≡ true = omega signed in
    rw (radius_is (goal.at.slots_of-requires c).After-radius_of, least, most)

-- the diagonal that was answered, of the frame's own sides
diagonal_is : (c : After-diagonal) → c.diagonal.result ≡ diagonal_answer c.args.s.planes.luma.width c.args.s.planes.luma.height c.args.s.level.pel
diagonal_is c =
    let pel : FitsSigned w32 c.args.s.level.pel = search rules in
    let width : FitsSigned w32 c.args.s.planes.luma.width = search rules in
    let height : FitsSigned w32 c.args.s.planes.luma.height = search rules in
    simp to_z-of_z at c.diagonal.ensures

-- it is one
pub unwrap-requires : goal.unwrap-requires
unwrap-requires c =
    rw (diagonal_is c ∙ given c.args.s.planes.luma.width c.args.s.planes.luma.height c.args.s.level.pel c.requires.frame) refl

alike : {a b A B : ℤ} → a ≡ A → b ≡ B → ◌≡◌ {A = Made} (record { slots = a; diagonal = b }) (record { slots = A; diagonal = B })
alike p q = cc

pub returns : goal.returns
unfolding made_of
returns c =
    let at = goal.at.returns c in
    let slots = got w32 c.slots_of.type_inv (c.slots_of.ensures ∙ ap slots_of (radius_is at.After-radius_of)) in
    let found : FitsSigned w32 c.unwrap.result = record { sfits = c.unwrap.type_inv } in
    alike slots
    (to_z-of_z found
    ∙ diagonal_given c.args.s.planes.luma.width c.args.s.planes.luma.height c.args.s.level.pel c.requires.frame (sym (diagonal_is at.After-diagonal) ∙ c.unwrap.ensures))
