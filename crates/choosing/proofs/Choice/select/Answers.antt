-- A struct's fields are read back as they were stored, and the SAD is tripled on either way. Assumes nothing.
use Rattle.std.proofs.Common.{◌≡◌, ap, FitsSigned, to_z-of_z, rules}
use Rattle.std.specs.Int.{w32}
use Rattle.whole.specs.Signed.{got}
use Rattle.choosing.specs.Choosing.{tripled_of, with_tripled, selected}
use Rattle.choosing.specs.Fields.{read}
use Rattle.choosing.proofs.Choice.select.Goals as goal

pub returns-then-bad : goal.returns-then-bad
unfolding selected
returns-then-bad c =
    let best = c.choose-best.result in
    let x : FitsSigned w32 best.x = search rules in
    let y : FitsSigned w32 best.y = search rules in
    let sad : FitsSigned w32 best.sad = search rules in
    let thrice : read c.tripled.result ≡ tripled_of c.args.negative best.sad = got w32 c.tripled.type_inv (simp to_z-of_z at c.tripled.ensures) in
    let yes = c.if-bad.true in
    simp (to_z-of_z, thrice, yes) (ap (with_tripled c.args.negative) c.choose-best.ensures)

pub returns-else-bad : goal.returns-else-bad
unfolding selected
returns-else-bad c =
    let x : FitsSigned w32 c.args.self.x = search rules in
    let y : FitsSigned w32 c.args.self.y = search rules in
    let sad = c.ranges.sad in
    let thrice : read c.tripled-else-bad.result ≡ tripled_of c.args.negative c.args.sad = got w32 c.tripled-else-bad.type_inv (simp to_z-of_z at c.tripled-else-bad.ensures) in
    let no = c.if-bad.false in
    simp (to_z-of_z, thrice, no)
