-- Each row of tiles ends inside. Assumes nothing.
use Rattle.std.proofs.Common.{◌≡◌, ◌∙◌, ◌*◌, ◌/◌, ℕ, sym, arith, length, length-drop}
use Rattle.distance.specs.Distance.{sum, tile_sum, differ, block_of}
use Rattle.distance.specs.Sums.{sum_zero, sum_next}
use Rattle.distance.proofs.Slices.{tiles_inside, tiles_differ}
use Rattle.distance.proofs.satd_of.Goals as goal

pub loop-i-init : goal.loop-i-init
loop-i-init c = record { same = sym (sum_zero _); below = omega arith }

pub tiles_at-total-requires-clause-held : goal.tiles_at-total-requires-clause-held
tiles_at-total-requires-clause-held c =
    let w = c.args.w in
    let h = c.args.h in
    let a = c.args.a in
    let b = c.args.b in
    rw (c.from.ensures.bytes, c.from.ensures.pitch, c.from-in-loop-i.ensures.bytes, c.from-in-loop-i.ensures.pitch) (
      simp length-drop (omega (arith, tiles_inside h a.pitch w (length a.bytes.now) c.requires.first c.loop-i-test.true)),
      simp length-drop (omega (arith, tiles_inside h b.pitch w (length b.bytes.now) c.requires.second c.loop-i-test.true)),
    )

pub loop-i-preserved : goal.loop-i-preserved
loop-i-preserved c =
    let m = c.args.w / 4 in
    let a = c.args.a in
    let b = c.args.b in
    let i = c.loop-i.i in
    let here : c.tiles_at-total.result ≡ sum m (λ j. tile_sum (differ (block_of a.bytes.now a.pitch) (block_of b.bytes.now b.pitch) (4 * i) (4 * j))) =
    c.tiles_at-total.ensures.value
    ∙ rw (c.from.ensures.bytes, c.from.ensures.pitch, c.from-in-loop-i.ensures.bytes, c.from-in-loop-i.ensures.pitch)
    (tiles_differ m a.bytes.now b.bytes.now (4 * i) a.pitch b.pitch) in
    record {
      same = omega (arith, sum_next i (λ (i : ℕ). sum m (λ (j : ℕ). tile_sum (differ (block_of a.bytes.now a.pitch) (block_of b.bytes.now b.pitch) (4 * i) (4 * j)))));
      below = omega arith;
    }
