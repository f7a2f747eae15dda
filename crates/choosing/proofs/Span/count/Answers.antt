-- The difference of two 16-bit numbers, and one more, fit. Assumes nothing.
use Rattle.std.proofs.Common.{ap, pos, FitsSigned, rules, to_z-of_z}
use Rattle.std.proofs.Math.IntN.{nat_abs}
use Rattle.std.specs.Int.{w32}
use Rattle.whole.specs.Interval.{is_arg, is_sub, is_add, is_literal}
use Rattle.choosing.specs.Choosing.{count_of}
use Rattle.choosing.proofs.Span.count.Goals as goal

pub returns-then-self : goal.returns-then-self
unfolding count_of
returns-then-self c =
    let f : FitsSigned w32 c.args.self.least = search rules in
    let g : FitsSigned w32 c.args.self.greatest = search rules in
    let least = is_arg f c.requires.0 in
    let greatest = is_arg g c.requires.1 in
    let counted = is_add (is_sub greatest least tt tt) (is_literal w32 (pos 1)) tt tt in
    let yes = simp to_z-of_z at c.if-self.true in
    simp yes (ap nat_abs counted.same)

pub returns-else-self : goal.returns-else-self
unfolding count_of
returns-else-self c =
    let f : FitsSigned w32 c.args.self.least = search rules in
    let g : FitsSigned w32 c.args.self.greatest = search rules in
    let no = simp to_z-of_z at c.if-self.false in
    simp no
