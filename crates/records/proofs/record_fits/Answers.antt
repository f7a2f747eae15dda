-- The offsets, the pairs and the last word are tested, and the tests are joined. Assumes nothing.
use Rattle.std.proofs.Common.{rules, w32, FitsSigned, to_z-of_z}
use Rattle.whole.specs.Truth.{both_alike}
use Rattle.records.specs.Packing.{record_fits}
use Rattle.records.proofs.record_fits.Goals as goal

pub returns : goal.returns
unfolding record_fits
returns c =
    let f : FitsSigned w32 c.args.given.lambda = search rules in
    let g : FitsSigned w32 c.args.given.flags = search rules in
    both_alike (both_alike c.offsets_fit.ensures c.pairs_fit.ensures) (simp to_z-of_z at c.last_fits.ensures)
