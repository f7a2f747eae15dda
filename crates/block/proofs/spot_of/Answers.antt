-- Each axis's place, and the chroma place that goes with it. Assumes nothing.
use Rattle.std.specs.Prelude.{◌≡◌, ℤ}
use Rattle.std.proofs.Common.{rules, to_z-of_z, FitsSigned}
use Rattle.std.specs.Int.{w32}
use mir.Val.{to_z, of_z}
use Rattle.whole.specs.Signed.{got}
use Rattle.whole.specs.Interval.{Is, is_within, is_call, is_wider, read_within}
use Rattle.axis.specs.Axis.{place_of}
use Rattle.block.specs.Shapes.{chroma_place, spot_of}
use Rattle.block.specs.Alike.{alike_spots}
use Rattle.block.specs.Bounds.{place_within}
use Rattle.block.proofs.spot_of.Goals as goal
use Rattle.block.proofs.spot_of.Goals.{After-place-y}

module _ (c : After-place-y) where
  x_is : Is w32 16384 16384 (to_z w32 (of_z w32 c.place-x.result)) (place_of c.args.moves c.args.shape.across)
  x_is = is_call w32 c.place-x.type_inv c.place-x.ensures (place_within c.requires.0 c.args.moves)

  y_is : Is w32 16384 16384 (to_z w32 (of_z w32 c.place-y.result)) (place_of c.args.moves c.args.shape.down)
  y_is = is_call w32 c.place-y.type_inv c.place-y.ensures (place_within c.requires.1 c.args.moves)

  left_is : Is w32 16384 16384 (to_z w32 (of_z w32 c.args.shape.across.origin)) c.args.shape.across.origin
  left_is = is_wider (is_within w32 c.requires.0.origin tt tt) tt tt

  top_is : Is w32 16384 16384 (to_z w32 (of_z w32 c.args.shape.down.origin)) c.args.shape.down.origin
  top_is = is_wider (is_within w32 c.requires.1.origin tt tt) tt tt

pub chroma_place-cx-requires : goal.chroma_place-cx-requires
chroma_place-cx-requires c = let k = (goal.at.chroma_place-cx-requires c).After-place-y in (read_within (left_is k), read_within (x_is k))

pub chroma_place-cy-requires : goal.chroma_place-cy-requires
chroma_place-cy-requires c = let k = (goal.at.chroma_place-cy-requires c).After-place-y in (read_within (top_is k), read_within (y_is k))

read : {A a B b S s r : ℤ} → r ≡ chroma_place A B S → A ≡ a → B ≡ b → S ≡ s → r ≡ chroma_place a b s
read e p q t = cc

pub returns : goal.returns
unfolding spot_of
returns c =
    let k = (goal.at.returns c).After-place-y in
    let sx : FitsSigned w32 c.args.shift.x = search rules in
    let sy : FitsSigned w32 c.args.shift.y = search rules in
    alike_spots (x_is k).same (y_is k).same
    (got w32 c.chroma_place-cx.type_inv (read c.chroma_place-cx.ensures (left_is k).same (x_is k).same (to_z-of_z sx)))
    (got w32 c.chroma_place-cy.type_inv (read c.chroma_place-cy.ensures (top_is k).same (y_is k).same (to_z-of_z sy)))
