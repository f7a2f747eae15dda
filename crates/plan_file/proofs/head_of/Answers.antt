-- The trailer's numbers, and the two counts. Assumes nothing.
use Rattle.std.proofs.Common.{rules, arith, w32, SFits, to_z-of_z}
use Rattle.std.proofs.lemmas.Grind.{common_steps}
use Rattle.std.proofs.lemmas.Int.{to_z_pos}
use Rattle.window.specs.Windows.{is_searched, is_kept}
use Rattle.plan_file.specs.PlanFile.{words_of, head_of}
use Rattle.plan_file.specs.Counting.{counted_most}
use Rattle.plan_file.specs.Served.{served}
use Rattle.plan_file.specs.Alike.{alike_heads}
use Rattle.plan_file.proofs.head_of.Goals as goal

pub slots_of-requires : goal.slots_of-requires
slots_of-requires c =
    let f : SFits w32 c.trailer_of-t.result.radius = search rules in
    rw (to_z-of_z f, c.trailer_of-t.ensures) (served c.args.file.now c.requires).radius_lies

pub returns : goal.returns
unfolding head_of
returns c =
    let k = served c.args.file.now c.requires in
    let searched = counted_most is_searched (words_of c.args.file.now) c.count_of.result in
    let kept = counted_most is_kept (words_of c.args.file.now) c.count_of.result in
    let r = c.trailer_of-t.result in
    let f1 : SFits w32 r.count = search rules in
    let f2 : SFits w32 r.width = search rules in
    let f3 : SFits w32 r.height = search rules in
    let f4 : SFits w32 r.pel = search rules in
    let f5 : SFits w32 r.radius = search rules in
    alike_heads
    (grind (arith, common_steps, to_z-of_z, to_z_pos))
    (grind (arith, common_steps, to_z-of_z, to_z_pos))
    (grind (arith, common_steps, to_z-of_z, to_z_pos))
    (grind (arith, common_steps, to_z-of_z, to_z_pos))
    (grind (arith, common_steps, to_z-of_z, to_z_pos))
    (grind (arith, common_steps, to_z-of_z, to_z_pos))
    (grind (arith, common_steps, to_z-of_z, to_z_pos))
