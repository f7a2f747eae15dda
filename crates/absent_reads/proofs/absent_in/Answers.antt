-- A row further, what the row shares with the data is there, and the rest of it is not. Assumes nothing.
use Rattle.std.proofs.Common.{◌≡◌, sym, ◌*◌, ◌≤◌, length, mul-le-mul, add-one, arith, pos, ◌+ℤ◌, FitsSigned, to_z, to_z-of_z}
use Rattle.std.proofs.Math.Facts.{to_z_pos}
use Rattle.std.specs.Int.{w64}
use Rattle.whole.specs.Signed.{signed}
use Rattle.absent_reads.specs.Rows.{shared_by, shared_most, rows_none, rows_next}
use Rattle.absent_reads.proofs.absent_in.Goals as goal

pub loop-y-init : goal.loop-y-init
loop-y-init c = record { counted = sym (rows_none _ _ _ _); few = omega arith }

pub loop-y-preserved : goal.loop-y-preserved
loop-y-preserved c =
    let s = c.args.samples.bytes.now in
    let at = c.args.at in
    let step = c.loop-y.y * c.args.samples.pitch in
    let f = c.ranges.at in
    let near = c.requires.near.0 in
    let step_few : step ≤ 1048576 = mul-le-mul {n₁ = c.loop-y.y} {m₁ = c.args.samples.pitch} {n₂ = 16} {m₂ = 65536} (omega arith) (omega arith) in
    let step_is : to_z w64 step ≡ pos step = to_z_pos w64 (omega (arith, step_few)) in
    let g : FitsSigned w64 (at +ℤ pos step) = omega (signed, step_few) in
    let shared_is : c.shared.result ≡ shared_by (length s) (at +ℤ pos step) c.args.w = simp (to_z-of_z, step_is) at c.shared.ensures in
    let shared_few : c.shared.result ≤ c.args.w = omega (arith, shared_is, shared_most s (at +ℤ pos step) c.args.w) in
    let counted = simp to_z-of_z at c.loop-y.invariant.counted in
    record {
      counted = simp (to_z-of_z, add-one) (omega (arith, counted, shared_is, rows_next s at c.args.samples.pitch c.args.w c.loop-y.y));
      few = omega (arith, shared_few, c.loop-y.invariant.few);
    }
