-- The first line has at most 66 bytes. Assumes nothing.
use Rattle.std.proofs.Common.{sym, ◌∙◌, arith, length, length-take-le}
use Rattle.refusals.specs.Laws.{done_means}
use Rattle.plan_file.specs.PlanFile.{head_of}
use Rattle.plan_lines.specs.Report.{head_text, head_answer}
use Rattle.plan_lines.specs.Lengths.{head_most}
use Rattle.plan_report.proofs.print_head.Goals as goal

pub slice_bounds-write_all-end : goal.slice_bounds-write_all-end
unfolding head_answer
slice_bounds-write_all-end c =
    let file = c.args.file.now in
    let bytes = done_means {done = length (head_text (head_of file))} _ (sym c.report_head.ensures.answer ∙ c.unwrap-bytes.ensures) in
    sym (length-take-le _ _ (omega (arith, bytes.1, head_most file c.requires.holds, c.report_head.auto.line)))
