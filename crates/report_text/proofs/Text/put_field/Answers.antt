-- The label, and then the number as the library prints it. Assumes nothing.
use Rattle.std.proofs.Common.{arith, to_z-of_z}
use Rattle.std.proofs.lemmas.Grind.{common_steps}
use Rattle.report_text.specs.Digits.{decimal_is}
use Rattle.report_text.proofs.Text.put_field.Goals as goal

pub returns-clause-puts : goal.returns-clause-puts
returns-clause-puts g c =
    let number = to_z-of_z c.ranges.number in
    let text = decimal_is c.ranges.number in
    grind (arith, common_steps)
