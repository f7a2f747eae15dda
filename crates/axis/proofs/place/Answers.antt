-- The place is clamped by the lesser and the greater of two. Assumes nothing.
use Rattle.std.specs.Prelude.{refl}
use Rattle.std.proofs.Common.{to_z-of_z}
use Rattle.std.specs.Int.{w32}
use Rattle.whole.specs.Signed.{got, lesser_read, greater_read}
use Rattle.whole.specs.Interval.{is_call, is_within, ask_sub, is_sub, fits}
use Rattle.axis.specs.Axis.{place_of}
use Rattle.axis.specs.Bounds.{excess_within}
use Rattle.axis.proofs.place.Goals as goal

pub overflow_sub-axis : goal.overflow_sub-axis
overflow_sub-axis c =
    ask_sub (is_within w32 c.requires.origin tt tt) (is_call w32 c.excess-over.type_inv c.excess-over.ensures (excess_within c.requires)) tt tt

pub returns-then-moves : goal.returns-then-moves
unfolding place_of
returns-then-moves c =
    let over = is_call w32 c.excess-over.type_inv c.excess-over.ensures (excess_within c.requires) in
    let moved = is_sub (is_within w32 c.requires.origin tt tt) over tt tt in
    let raised = got w32 c.greater.type_inv (greater_read c.greater.ensures moved.same refl) in
    let most = is_sub (is_within w32 c.requires.frame tt tt) (is_within w32 c.requires.side tt tt) tt tt in
    simp c.if-moves.true (got w32 c.lesser.type_inv (lesser_read c.lesser.ensures raised most.same))

pub returns-else-moves : goal.returns-else-moves
unfolding place_of
returns-else-moves c = simp c.if-moves.false (to_z-of_z (fits {w = w32} c.requires.origin tt tt))
