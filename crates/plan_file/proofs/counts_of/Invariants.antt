-- Each count is the tally of the records passed, by its own test.
use Rattle.std.proofs.Common.{◌≡◌}
use Rattle.window.specs.Windows.{is_searched, is_kept}
use Rattle.plan_file.specs.PlanFile.{tally}
use Rattle.plan_file.proofs.counts_of.Given as goal

abbrev pub invariant-loop-number : goal.invariant-loop-number
invariant-loop-number l = (l.searched ≡ tally is_searched l.words l.number) × (l.kept ≡ tally is_kept l.words l.number)
