-- Each number behind the one before it. Assumes nothing.
use Rattle.std.proofs.Common.{rules, w16, SFits, to_z-of_z}
use Rattle.report_text.specs.PuttingLaws.{both_put}
use Rattle.tile_lines.proofs.put_row.Goals as goal

pub returns-clause-puts : goal.returns-clause-puts
returns-clause-puts c =
    let q = c.args.row in
    let f0 : SFits w16 q.a = search rules in
    let f1 : SFits w16 q.b = search rules in
    let f2 : SFits w16 q.c = search rules in
    let f3 : SFits w16 q.d = search rules in
    let one = simp to_z-of_z at c.put_entry.ensures.puts in
    let two = simp to_z-of_z at c.put_entry-2.ensures.puts in
    let three = simp to_z-of_z at c.put_entry-3.ensures.puts in
    let four = simp to_z-of_z at c.put_entry-4.ensures.puts in
    both_put _ _ _ (both_put _ _ _ (both_put _ _ _ (both_put _ _ _ one two) three) four) c.put.ensures
