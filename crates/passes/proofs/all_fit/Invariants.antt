-- So far every record fits.
use Rattle.std.specs.Prelude.{◌≡◌, true}
use Rattle.passes.specs.Fold.{slots_at, all_fit}
use Rattle.passes.proofs.all_fit.Given as goal

abbrev pub invariant-loop-i : goal.invariant-loop-i
invariant-loop-i l = (l.slots ≡ slots_at l.s l.order l.vectors l.i) × (all_fit l.s l.order l.vectors l.i ≡ true)
