-- Both shifts of bounded numbers, and their difference. Assumes nothing.
use Rattle.std.specs.Prelude.{◌≡◌, ℤ, ◌-ℤ◌}
use Rattle.std.proofs.Common.{to_z-of_z}
use Rattle.std.specs.Int.{w32}
use mir.Val.{to_z, of_z}
use Rattle.whole.specs.Interval.{Is, is_within, is_call, ask_sub, is_sub, within_sub}
use Rattle.limits.specs.Limits.{shifted_by}
use Rattle.limits.specs.Ranges.{within_shifted}
use Rattle.block.specs.Shapes.{chroma_place}
use Rattle.block.proofs.chroma_place.Goals as goal
use Rattle.block.proofs.chroma_place.Goals.{After-shifted, After-shifted-2}

read : {Z z S s r : ℤ} → r ≡ shifted_by Z S → Z ≡ z → S ≡ s → r ≡ shifted_by z s
read e p q = cc

old_is : (c : After-shifted) → Is w32 16384 16384 (to_z w32 (of_z w32 c.shifted.result)) (shifted_by c.args.origin c.args.shift)
old_is c =
    is_call w32 c.shifted.type_inv (read c.shifted.ensures (is_within w32 c.requires.0 tt tt).same (to_z-of_z c.ranges.shift))
    (within_shifted c.args.shift c.requires.0)

d_is : (c : After-shifted-2) → Is w32 32768 32768 (to_z w32 (of_z w32 c.shifted-2.result)) (shifted_by (c.args.origin -ℤ c.args.place) c.args.shift)
d_is c =
    let d = is_sub (is_within w32 c.requires.0 tt tt) (is_within w32 c.requires.1 tt tt) tt tt in
    is_call w32 c.shifted-2.type_inv (read c.shifted-2.ensures d.same (to_z-of_z c.ranges.shift))
    (within_shifted c.args.shift (within_sub c.requires.0 c.requires.1))

pub overflow_sub-result : goal.overflow_sub-result
overflow_sub-result c = let at = goal.at.overflow_sub-result c in ask_sub (old_is at.After-shifted) (d_is at.After-shifted-2) tt tt

pub returns : goal.returns
unfolding chroma_place
returns c = let at = goal.at.returns c in (is_sub (old_is at.After-shifted) (d_is at.After-shifted-2) tt tt).same
