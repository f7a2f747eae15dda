-- Two rims, joined. Assumes nothing.
use Rattle.std.specs.Prelude.{Bool, ◌&&◌}
use Rattle.std.proofs.Common.{rules, ap, to_z-of_z, FitsSigned}
use Rattle.std.specs.Int.{w32}
use Rattle.whole.specs.Truth.{either_alike}
use Rattle.whole.specs.Interval.{fits}
use Rattle.block.specs.Shapes.{negative_of}
use Rattle.block.proofs.is_negative.Goals as goal

pub returns : goal.returns
unfolding negative_of
returns c =
    let fx : FitsSigned w32 c.args.block.x = search rules in
    let fy : FitsSigned w32 c.args.block.y = search rules in
    let gx : FitsSigned w32 c.args.grid.x = fits c.requires.0 tt tt in
    let gy : FitsSigned w32 c.args.grid.y = fits c.requires.1 tt tt in
    ap (λ (t : Bool). c.args.level.smallest && t) (either_alike (simp to_z-of_z at c.on_rim.ensures) (simp to_z-of_z at c.on_rim-2.ensures))
