-- The array is the one that the definition has gathered so far. Assumes nothing.
use Rattle.std.proofs.Common.{◌≡◌, sym, ap, ◌∙◌, ℕ, ◌+◌, ◌*◌, ◌<◌, List, set, arith, to_z, of_z}
use Rattle.std.specs.Int.{w64}
use Rattle.distance.specs.Distance.{Block}
use Rattle.plane.specs.Samples.{placed_at, nth, gathered}
use Rattle.plane.specs.Reads.{gathered_none, gathered_next, nth_of}
use Rattle.plane.proofs.gather.Goals as goal

same_count : {out : List ℕ} {m n : ℕ} (f : ℕ → ℕ) → m ≡ n → out ≡ gathered m f → out ≡ gathered n f
same_count f e p = p ∙ ap (λ (k : ℕ). gathered k f) e

one_more : {out : List ℕ} (w : ℕ) (block : Block) (y : ℕ) {x v : ℕ} → x < w → v ≡ block y x → out ≡ gathered (y * w + x) (nth w block) →
    set out (y * w + x) v ≡ gathered (y * w + (x + 1)) (nth w block)
one_more w block y {x} {v} l e p =
    same_count {m = y * w + x + 1} (nth w block) (omega arith) (gathered_next (y * w + x) (nth w block) (e ∙ sym (nth_of w block y l)) p)

pub loop-y-init : goal.loop-y-init
loop-y-init c = same_count {m = 0} _ (omega arith) (sym (gathered_none _))

pub loop-x-preserved : goal.loop-x-preserved
loop-x-preserved c =
    let block = placed_at c.args.samples.bytes.now (to_z w64 (of_z w64 c.args.at)) c.args.samples.pitch in
    one_more c.args.w block c.loop-y.y c.loop-x-test.true c.sample_on.ensures c.loop-x.invariant
