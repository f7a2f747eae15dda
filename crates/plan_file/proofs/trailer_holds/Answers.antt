-- Each word is asked about its rule. Assumes nothing.
use Rattle.std.proofs.Common.{pos, rules, w32, SFits, lit<, to_z-of_z}
use Rattle.whole.specs.Truth.{six_alike}
use Rattle.limits.specs.Equal.{equal_words}
use Rattle.plan_file.specs.PlanFile.{trailer_holds}
use Rattle.plan_file.proofs.trailer_holds.Goals as goal

pub returns : goal.returns
unfolding trailer_holds
returns c =
    let t = c.args.t in
    let f0 : SFits w32 t.back = search rules in
    let f1 : SFits w32 t.count = search rules in
    let f2 : SFits w32 t.width = search rules in
    let f3 : SFits w32 t.height = search rules in
    let f4 : SFits w32 t.pel = search rules in
    let f5 : SFits w32 t.radius = search rules in
    let f6 : SFits w32 t.satd = search rules in
    let f7 : SFits w32 t.form = search rules in
    let one : SFits w32 (pos 1) = record { sfits = lit< tt } in
    six_alike
    (simp to_z-of_z at c.lengths_hold.ensures)
    (simp to_z-of_z at c.is_block.ensures)
    (simp to_z-of_z at c.is_pel.ensures)
    (simp to_z-of_z at c.within.ensures)
    (simp to_z-of_z at c.within-2.ensures)
    (equal_words f7 one)
