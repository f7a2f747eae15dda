-- Positions fit i16 and vectors are little longer, so that the sums fit; the offset is near, as every offset of a plane is. Assumes nothing.
use Rattle.std.proofs.Common.{◌≡◌, ◌<◌, ◌^◌, ℤ, ◌+ℤ◌, rules, to_z-of_z}
use Rattle.std.specs.Int.{w32, w64}
use Rattle.std.specs.Int.Signed.{mag}
use mir.Val.{SFits, to_z, of_z, hbits}
use Rattle.whole.specs.Signed.{got}
use Rattle.whole.specs.Interval.{Within, Is, within_more, is_call, is_within, is_cast, is_add}
use Rattle.limits.specs.Limits.{shifted_by}
use Rattle.plane.specs.Places.{Near, subpel_of}
use Rattle.plane.specs.Offsets.{subpel_near}
use Rattle.tables.specs.declared.Reference.{Reference}
use Rattle.tables.specs.Tables.{vector_offset}
use Rattle.tables.specs.Bounds.{Reached}
use Rattle.tables.specs.Laws.{shifted_within}
use Rattle.tables.proofs.Reference.vector_offset.Goals as goal

-- what the machine makes of a position and of a vector's part
abbrev read : ℤ → ℤ → ℤ
read p d = to_z w64 (of_z w64 (to_z w64 (of_z w64 (to_z w32 (of_z w32 p))) +ℤ to_z w64 (of_z w64 (to_z w32 (of_z w32 d)))))

sum : {d : ℤ} (p v s : ℤ) → Within 32768 32767 p → Within 32768 65536 v → SFits w32 v → SFits w32 s → mag d < 2 ^ hbits w32 → d ≡ shifted_by (to_z w32 (of_z w32 v)) (to_z w32 (of_z w32 s)) →
    Is w64 65536 98303 (read p d) (p +ℤ shifted_by v s)
sum p v s k l f g small e =
    is_add (is_cast w64 (is_within w32 k tt tt) tt tt)
    (is_cast w64 (is_call w32 small (simp to_z-of_z at e) (shifted_within s l)) tt tt) tt tt

module _ (r : Reference) (reached : Reached r) (vx vy : ℤ) {X Y o : ℤ} (x_is : Is w64 65536 98303 X (r.x +ℤ shifted_by vx r.shift)) (y_is : Is w64 65536 98303 Y (r.y +ℤ shifted_by vy r.shift)) (small : mag o < 2 ^ hbits w64) (e : o ≡ subpel_of r.place X Y) where
  same : to_z w64 (of_z w64 o) ≡ vector_offset r vx vy
  unfolding vector_offset
  same = got w64 small (rw (x_is.same, y_is.same) at e)

  near : Near (to_z w64 (of_z w64 o))
  unfolding vector_offset
  near = rw same (subpel_near r.place reached.placed (within_more x_is.lies tt tt) (within_more y_is.lies tt tt))

pub returns-clause-value : goal.returns-clause-value
returns-clause-value c =
    let r = c.args.self in
    let k = c.requires.reached in
    let f : SFits w32 c.args.vx = search rules in
    let g : SFits w32 c.args.vy = search rules in
    let h : SFits w32 r.shift = search rules in
    same r k c.args.vx c.args.vy (sum r.x c.args.vx r.shift k.x_in c.requires.within.0 f h c.shifted.type_inv c.shifted.ensures) (sum r.y c.args.vy r.shift k.y_in c.requires.within.1 g h c.shifted-2.type_inv c.shifted-2.ensures) c.subpel.type_inv (rw c.new.ensures.1 at c.subpel.ensures)

pub returns-clause-near : goal.returns-clause-near
returns-clause-near c =
    let r = c.args.self in
    let k = c.requires.reached in
    let f : SFits w32 c.args.vx = search rules in
    let g : SFits w32 c.args.vy = search rules in
    let h : SFits w32 r.shift = search rules in
    near r k c.args.vx c.args.vy (sum r.x c.args.vx r.shift k.x_in c.requires.within.0 f h c.shifted.type_inv c.shifted.ensures) (sum r.y c.args.vy r.shift k.y_in c.requires.within.1 g h c.shifted-2.type_inv c.shifted-2.ensures) c.subpel.type_inv (rw c.new.ensures.1 at c.subpel.ensures)
