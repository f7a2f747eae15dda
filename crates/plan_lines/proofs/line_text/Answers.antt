-- Each part behind the one before it. Assumes nothing.
use Rattle.std.proofs.Common.{◌≡◌, rules, w32, SFits, to_z, of_z, to_z-of_z}
use Rattle.whole.specs.Signed.{got}
use Rattle.window.specs.Windows.{bad_flag, half_flag}
use Rattle.plan_lines.specs.Parts.{line_put}
use Rattle.plan_lines.proofs.line_text.Goals as goal

pub returns : goal.returns
returns c =
    let r = c.args.given in
    let f0 = c.ranges.number in
    let f1 : SFits w32 r.lambda = search rules in
    let f2 : SFits w32 r.flags = search rules in
    let f3 : SFits w32 r.sad = search rules in
    let b : to_z w32 (of_z w32 c.bad_flag-bad.result) ≡ bad_flag r.flags = got w32 c.bad_flag-bad.type_inv (simp to_z-of_z at c.bad_flag-bad.ensures) in
    let h : to_z w32 (of_z w32 c.half_flag-half.result) ≡ half_flag r.flags = got w32 c.half_flag-half.type_inv (simp to_z-of_z at c.half_flag-half.ensures) in
    let first = simp (to_z-of_z, b, c.new-text.ensures) at c.put_two.ensures.puts in
    let strength = simp (to_z-of_z, h) at c.put_two-2.ensures.puts in
    let sad = simp to_z-of_z at c.put_field.ensures.puts in
    line_put c.args.number r first strength c.put_pair.ensures.puts sad c.put_offset.ensures.puts c.put_pair-2.ensures.puts c.put_pair-3.ensures.puts c.put.ensures
