-- Both components are asked. Assumes nothing.
use Rattle.std.specs.Prelude.{◌+◌, ◌*◌, pos, get_or}
use Rattle.std.specs.Int.{w32}
use Rattle.std.proofs.Common.{rules, FitsSigned, to_z-of_z}
use Rattle.whole.specs.Truth.{both_alike}
use Rattle.planning.specs.Refusals.{vector_fits}
use Rattle.planning.proofs.vector_fits.Goals as goal

pub returns : goal.returns
unfolding vector_fits
returns c =
    let f : FitsSigned w32 (get_or c.args.vectors.now (3 * c.args.i) (pos 0)) = search rules in
    let g : FitsSigned w32 (get_or c.args.vectors.now (3 * c.args.i + 1) (pos 0)) = search rules in
    both_alike (simp to_z-of_z at c.fits_i16.ensures) (simp to_z-of_z at c.fits_i16-2.ensures)
