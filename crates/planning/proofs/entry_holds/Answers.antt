-- Four comparisons, each of what is read. Assumes nothing.
use Rattle.std.specs.Prelude.{◌≡◌, ◌+◌, ◌*◌, ℤ, pos, get_or}
use Rattle.std.specs.Int.Signed.{lt_z, le_z}
use Rattle.std.specs.Int.{w32}
use Rattle.std.proofs.Common.{rules, ap, FitsSigned, to_z-of_z}
use Rattle.whole.specs.Truth.{four_alike}
use Rattle.planning.specs.Refusals.{entry_holds}
use Rattle.planning.proofs.entry_holds.Goals as goal

below : {A a B b : ℤ} → A ≡ a → B ≡ b → lt_z A B ≡ lt_z a b
below p q = cc

pub returns : goal.returns
unfolding entry_holds
returns c =
    let x : FitsSigned w32 (get_or c.args.order.now (2 * c.args.i) (pos 0)) = search rules in
    let y : FitsSigned w32 (get_or c.args.order.now (2 * c.args.i + 1) (pos 0)) = search rules in
    let nx : FitsSigned w32 c.args.grid.x = search rules in
    let ny : FitsSigned w32 c.args.grid.y = search rules in
    four_alike (ap (le_z (pos 0)) (to_z-of_z x)) (below (to_z-of_z x) (to_z-of_z nx)) (ap (le_z (pos 0)) (to_z-of_z y)) (below (to_z-of_z y) (to_z-of_z ny))
