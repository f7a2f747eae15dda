-- Both rows end inside. Assumes nothing.
use Rattle.std.proofs.Common.{◌≡◌, ◌*◌, ◌∙◌, ℕ, sym, arith, length}
use Rattle.distance.specs.Distance.{sum, gap, block_of}
use Rattle.distance.specs.Sums.{sum_zero, sum_next}
use Rattle.distance.proofs.Slices.{inside, part_gaps}
use Rattle.distance.proofs.sad_of.Goals as goal

pub loop-y-init : goal.loop-y-init
loop-y-init c = record { same = sym (sum_zero _); below = omega arith }

pub loop-y-preserved : goal.loop-y-preserved
loop-y-preserved c =
    let w = c.args.w in
    let a = c.args.a in
    let b = c.args.b in
    let y = c.loop-y.y in
    let end = inside c.args.h a.pitch w (length a.bytes.now) c.requires.first c.loop-y-test.true in
    let here : c.row_gaps-total.result ≡ sum w (λ x. gap (block_of a.bytes.now a.pitch y x) (block_of b.bytes.now b.pitch y x)) =
    c.row_gaps-total.ensures.value ∙ rw (c.row.ensures, c.row-in-loop-y.ensures) (part_gaps a.bytes.now b.bytes.now (y * a.pitch) (y * b.pitch) w end) in
    record {
      same = omega (arith, sum_next y (λ (j : ℕ). sum w (λ (x : ℕ). gap (block_of a.bytes.now a.pitch j x) (block_of b.bytes.now b.pitch j x))));
      below = omega arith;
    }
