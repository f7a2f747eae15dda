-- Six tests, each as the definition has it. Assumes nothing.
use Rattle.std.specs.Prelude.{refl, ℕ, ◌*◌, eqb, pos}
use Rattle.std.specs.Int.Signed.{le_z}
use Rattle.std.specs.Int.{w32}
use Rattle.std.proofs.Common.{rules, ap, FitsSigned, to_z-of_z}
use Rattle.whole.specs.Truth.{six_alike}
use Rattle.planning.specs.Refusals.{holds1}
use Rattle.planning.proofs.holds_1.Goals as goal

pub returns : goal.returns
unfolding holds1
returns c =
    let search_param : FitsSigned w32 c.args.s.search.search_param = search rules in
    let w : FitsSigned w32 c.args.s.block.x = search rules in
    let h : FitsSigned w32 c.args.s.block.y = search rules in
    let x : FitsSigned w32 c.args.s.grid.x = search rules in
    let y : FitsSigned w32 c.args.s.grid.y = search rules in
    six_alike
    {a = c.args.s.search.exhaustive}
    refl
    (simp to_z-of_z at c.is_block.ensures)
    (ap (le_z (pos 2)) (to_z-of_z x))
    (ap (le_z (pos 2)) (to_z-of_z y))
    (ap (λ (n : ℕ). eqb c.args.listed (2 * n)) c.count_of.ensures.value)
    (simp to_z-of_z at c.within.ensures)
