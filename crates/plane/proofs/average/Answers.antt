-- The block that was gathered has the definition's sum, and its area is the power that log2 of it gives. Assumes nothing.
use Rattle.std.proofs.Common.{◌≡◌, refl, ap, ◌∙◌, ℕ, ◌*◌, ◌/◌, ◌<◌, lt-ltb, le-ltb, pos, FitsSigned, arith, rules}
use Rattle.std.proofs.Math.Facts.{to_z_pos}
use Rattle.std.specs.Int.{w32}
use Rattle.whole.specs.Interval.{widened}
use Rattle.plane.specs.Samples.{placed_at, average_of, total}
use Rattle.plane.specs.Averages.{total_gathered, average_small}
use Rattle.plane.proofs.average.Goals as goal

pub returns-in_default : goal.returns-in_default
unfolding average_of
returns-in_default c = rw c.in_default.is refl

pub returns-then-h-lt4 : goal.returns-then-h-lt4
unfolding average_of
returns-then-h-lt4 c = rw (c.in-Some.is, lt-ltb _ _ c.if-h-lt4.true)

pub returns : goal.returns
unfolding average_of
returns c =
    let w = c.args.w in
    let h = c.args.h in
    let f : FitsSigned w32 c.in-Some.at = search rules in
    let block = placed_at c.args.samples.bytes.now c.in-Some.at c.args.samples.pitch in
    let out = rw (widened f).same at c.gather-block.ensures in
    let sum_is : c.cost-total.result ≡ total w h block =
    c.cost-total.ensures ∙ total_gathered w h block c.requires.pitch_bound.1.0 c.requires.pitch_bound.1.1 c.gather-block.result out
    in
    let small : c.cost-total.result / (w * h) < 2147483648 = average_small w h c.cost-total.result c.requires.power c.if-h-lt4.false (omega arith) in
    let power = c.requires.power in
    to_z_pos w32 small ∙ rw (c.in-Some.is, le-ltb _ _ c.if-h-lt4.false, power) (ap (λ (n : ℕ). pos (n / (w * h))) sum_is)
