-- A candidate lies at most 6 past the window's least, which fits i16. Assumes nothing.
use Rattle.std.proofs.Common.{◌≡◌, ◌<◌, ◌^◌, ℕ, ℤ, pos, ◌+ℤ◌, arith}
use Rattle.std.specs.Int.{w32, w64}
use Rattle.std.specs.Int.Signed.{mag}
use mir.Val.{to_z, of_z, hbits}
use Rattle.whole.specs.Signed.{add_is, got}
use Rattle.whole.specs.Interval.{Within, Is, is_call}
use Rattle.tables.proofs.Reference.window_offset.Goals as goal

at : {v : ℤ} (z : ℤ) (n : ℕ) → Within 32768 32767 z → n < 7 → mag v < 2 ^ hbits w32 → v ≡ z +ℤ pos n → Is w32 32768 65536 (to_z w32 (of_z w32 v)) (z +ℤ pos n)
at z n p l small e = is_call w32 small e (omega (arith, add_is z (pos n)))

pub returns-clause-value : goal.returns-clause-value
returns-clause-value c =
    let p = c.requires.served in
    let x = at _ _ p.0.ranged.least_x p.1.1 c.x_at-vx.type_inv c.x_at-vx.ensures in
    let y = at _ _ p.0.ranged.least_y p.1.0 c.y_at-vy.type_inv c.y_at-vy.ensures in
    got w64 c.vector_offset.type_inv (rw (x.same, y.same) at c.vector_offset.ensures.value)
