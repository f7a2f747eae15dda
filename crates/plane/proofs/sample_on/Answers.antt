-- A near offset and a few bytes more fit 64 bits. Assumes nothing.
use Rattle.std.proofs.Common.{◌≡◌, ap, ◌∙◌, pos, ◌+ℤ◌, FitsSigned, to_z, to_z-of_z, arith}
use Rattle.std.proofs.Math.Facts.{to_z_pos}
use Rattle.std.specs.Int.{w64}
use Rattle.whole.specs.Signed.{signed}
use Rattle.plane.specs.Samples.{weight, sample_at}
use Rattle.plane.proofs.sample_on.Goals as goal

pub returns : goal.returns
unfolding sample_at
returns c =
    let f = c.ranges.at in
    let near = c.requires.0 in
    let g : FitsSigned w64 (c.args.at +ℤ pos c.args.n) = omega signed in
    let e : to_z w64 c.args.n ≡ pos c.args.n = to_z_pos w64 (omega arith) in
    c.weight.ensures ∙ ap weight (simp (to_z-of_z, e) at c.sample.ensures)
