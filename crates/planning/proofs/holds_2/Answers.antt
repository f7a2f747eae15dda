-- Five tests, each as the definition has it. Assumes nothing.
use Rattle.std.specs.Prelude.{ℕ, ◌*◌, eqb}
use Rattle.std.specs.Int.{w32}
use Rattle.std.proofs.Common.{rules, ap, FitsSigned, to_z-of_z}
use Rattle.whole.specs.Truth.{five_alike}
use Rattle.planning.specs.Refusals.{holds2}
use Rattle.planning.proofs.holds_2.Goals as goal

pub returns : goal.returns
unfolding holds2
returns c =
    let pel : FitsSigned w32 c.args.s.level.pel = search rules in
    let x : FitsSigned w32 c.args.s.shift.x = search rules in
    let y : FitsSigned w32 c.args.s.shift.y = search rules in
    five_alike
    c.sides_hold.ensures
    (simp to_z-of_z at c.is_pel.ensures)
    (simp to_z-of_z at c.are_shifts.ensures)
    c.planes_hold.ensures
    (ap (λ (n : ℕ). eqb c.args.held (3 * n)) c.count_of.ensures.value)
