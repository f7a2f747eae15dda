-- The block's shape and lambda, and then one of the three kinds. Assumes nothing.
use Rattle.std.specs.Prelude.{◌≡◌, Bool}
use Rattle.std.proofs.Common.{rules, sym, subst, ◌∙◌, to_z-of_z, FitsSigned}
use Rattle.std.specs.Int.{w32}
use mir.Val.{to_z, of_z}
use Rattle.whole.specs.Signed.{got}
use Rattle.axis.specs.Bounds.{Bounded}
use Rattle.block.specs.declared.Shape.{Shape}
use Rattle.block.specs.declared.Settings.{Settings}
use Rattle.block.specs.declared.Block.{Block}
use Rattle.block.specs.Shapes.{shape_of, lambda_of, is_bad, spot_of}
use Rattle.block.specs.Asked.{Addressed, SpotHeld, Ready}
use Rattle.block.specs.Reach.{across_bounded, down_bounded, spot_held, origin_addressed}
use Rattle.block.proofs.Stages.{bad_case, luma_case, quiet_case, stepped}
use Rattle.block.proofs.plan_block.Goals as goal
use Rattle.block.proofs.plan_block.Goals.{After-is_bad}

-- what a bad block's step asks, of the shape that was worked out
record Asks (s : Settings) (h : Shape) : Type 0 where
  across : Bounded h.across
  down : Bounded h.down
  held : (moves : Bool) → SpotHeld s.planes h.negative (spot_of s.shift moves h)
  luma : Addressed s.planes.luma h.across.origin h.down.origin

asks : {s : Settings} {b : Block} {h : Shape} → Ready s b → h ≡ shape_of s b → Asks s h
asks {s} {b} k e =
    subst (Asks s) (sym e)
    (record { across = across_bounded k; down = down_bounded k; held = spot_held k; luma = origin_addressed k })

pub bad_step-requires : goal.bad_step-requires
bad_step-requires c =
    let k = asks c.requires c.shape_of-shape.ensures in
    record { bounded = (k.across, k.down); spot_held = k.held }

pub luma_step-requires : goal.luma_step-requires
luma_step-requires c = (asks c.requires c.shape_of-shape.ensures).luma

-- the lambda, and the test's outcome, of the block's own SAD
lambda_is : (c : After-is_bad) → to_z w32 (of_z w32 c.lambda_of-lambda.result) ≡ lambda_of c.args.s.weights c.shape_of-shape.result.negative
lambda_is c = got w32 c.lambda_of-lambda.type_inv c.lambda_of-lambda.ensures

bad_is : (c : After-is_bad) → c.is_bad.result ≡ is_bad c.args.s.weights c.shape_of-shape.result.negative c.args.block.sad
bad_is c =
    let f : FitsSigned w32 c.args.block.sad = search rules in
    simp to_z-of_z at c.is_bad.ensures

pub returns-then-is_bad : goal.returns-then-is_bad
returns-then-is_bad c =
    let k = (goal.at.returns-then-is_bad c).After-is_bad in
    let h = c.shape_of-shape.result in
    let l = to_z w32 (of_z w32 c.lambda_of-lambda.result) in
    c.bad_step.ensures
    ∙ bad_case c.args.s c.args.block c.args.slots h l (sym (bad_is k) ∙ c.if-is_bad.true)
    ∙ stepped c.args.s c.args.block c.args.slots h l c.shape_of-shape.ensures (lambda_is k)

pub returns-then-s : goal.returns-then-s
returns-then-s c =
    let k = (goal.at.returns-then-s c).After-is_bad in
    let h = c.shape_of-shape.result in
    let l = to_z w32 (of_z w32 c.lambda_of-lambda.result) in
    c.luma_step.ensures
    ∙ luma_case c.args.s c.args.block c.args.slots h l (sym (bad_is k) ∙ c.if-is_bad.false) c.if-s.true
    ∙ stepped c.args.s c.args.block c.args.slots h l c.shape_of-shape.ensures (lambda_is k)

pub returns-else-s : goal.returns-else-s
returns-else-s c =
    let k = (goal.at.returns-else-s c).After-is_bad in
    let h = c.shape_of-shape.result in
    let l = to_z w32 (of_z w32 c.lambda_of-lambda.result) in
    c.quiet_step.ensures
    ∙ quiet_case c.args.s c.args.block c.args.slots h l (sym (bad_is k) ∙ c.if-is_bad.false) c.if-s.false
    ∙ stepped c.args.s c.args.block c.args.slots h l c.shape_of-shape.ensures (lambda_is k)
