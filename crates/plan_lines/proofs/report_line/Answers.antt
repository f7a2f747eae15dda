-- 8, 4, and then the text. Assumes nothing.
use Rattle.std.proofs.Common.{sym, arith}
use Rattle.std.proofs.lemmas.Int.{to_z_pos}
use Rattle.std.proofs.lemmas.Grind.{common_steps}
use Rattle.plan_file.specs.Served.{served}
use Rattle.plan_lines.specs.Report.{line_answer, line_line}
use Rattle.plan_lines.proofs.report_line.Goals as goal

pub overflow_cast-number : goal.overflow_cast-number
overflow_cast-number c =
    let k = served c.args.file.now in
    grind (arith, common_steps)

pub returns-clause-answer : goal.returns-clause-answer
unfolding line_answer
returns-clause-answer c =
    let k = served c.args.file.now (sym c.if-not-is_plan_file.ensures) in
    grind (arith, common_steps, to_z_pos)

pub returns-clause-line : goal.returns-clause-line
unfolding line_line
returns-clause-line c =
    let k = served c.args.file.now (sym c.if-not-is_plan_file.ensures) in
    grind (arith, common_steps, to_z_pos)
