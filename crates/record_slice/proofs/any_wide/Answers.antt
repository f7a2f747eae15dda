-- The numbers of the records are gone over, one after the other. Assumes nothing.
use Rattle.std.proofs.Common.{rules, refl}
use borrow.Author.Tests.{tests}
use Rattle.limits.proofs.Chains.{any_over}
use Rattle.window.specs.Windows.{is_wide}
use Rattle.record_slice.specs.RecordSlice.{record_at}
use Rattle.record_slice.proofs.any_wide.Goals as goal

pub returns : goal.returns
returns c = any_over (λ i. is_wide c.args.radius (record_at c.args.records.now i)) c.args.n c.any.ensures.ran refl (λ x b q k. search (rules, tests))
