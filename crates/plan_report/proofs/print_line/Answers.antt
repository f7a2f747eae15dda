-- A record's line has at most 131 bytes, since no file has more than 1,364 records. Assumes nothing.
use Rattle.std.proofs.Common.{sym, ◌∙◌, arith, length, length-take-le}
use Rattle.refusals.specs.Laws.{done_means}
use Rattle.plan_file.specs.Served.{served}
use Rattle.plan_lines.specs.Report.{line_of, line_answer}
use Rattle.plan_lines.specs.Lengths.{line_most}
use Rattle.plan_report.proofs.print_line.Goals as goal

pub slice_bounds-line-end : goal.slice_bounds-line-end
unfolding line_answer
slice_bounds-line-end c =
    let file = c.args.file.now in
    let k = served file c.requires.0.holds in
    let bytes = done_means {done = length (line_of file c.args.number)} _ (sym c.report_line.ensures.answer ∙ c.unwrap-bytes.ensures) in
    omega (arith, bytes.1, line_most file c.args.number (omega (arith, c.requires.1, k.counted, k.most)), c.report_line.auto.line)

pub slice_bounds-write_all-end : goal.slice_bounds-write_all-end
unfolding line_answer
slice_bounds-write_all-end c =
    let file = c.args.file.now in
    let k = served file c.requires.0.holds in
    let bytes = done_means {done = length (line_of file c.args.number)} _ (sym c.report_line.ensures.answer ∙ c.unwrap-bytes.ensures) in
    sym (length-take-le _ _ (omega (arith, bytes.1, line_most file c.args.number (omega (arith, c.requires.1, k.counted, k.most)), c.report_line.auto.line)))
