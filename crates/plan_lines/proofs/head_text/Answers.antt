-- Each part behind the one before it. Assumes nothing.
use Rattle.std.proofs.Common.{rules, w32, SFits, to_z-of_z}
use Rattle.plan_lines.specs.Parts.{head_put}
use Rattle.plan_lines.proofs.head_text.Goals as goal

pub returns : goal.returns
returns c =
    let h = c.args.head in
    let f0 : SFits w32 h.count = search rules in
    let f1 : SFits w32 h.searched = search rules in
    let f2 : SFits w32 h.kept = search rules in
    let f3 : SFits w32 h.width = search rules in
    let f4 : SFits w32 h.height = search rules in
    let f5 : SFits w32 h.pel = search rules in
    let f6 : SFits w32 h.slots = search rules in
    let blocks = simp (to_z-of_z, c.new-text.ensures) at c.put_field.ensures.puts in
    let bad = simp to_z-of_z at c.put_two.ensures.puts in
    let size = simp to_z-of_z at c.put_two-2.ensures.puts in
    let rest = simp to_z-of_z at c.put_two-3.ensures.puts in
    head_put h blocks bad size rest c.put.ensures
