-- A length within its limit, less what the rows reach over, fits 64 bits for any sides and pitch, and is the base's room. Assumes nothing.
use Rattle.std.proofs.Common.{◌≡◌, refl, sym, ap, ◌∙◌, Bool, true, false, ◌&&◌, leb, leb-true, ℕ, ℤ, pos, ◌+ℤ◌, ◌-ℤ◌, ◌*ℤ◌, FitsSigned, to_z, rules}
use Rattle.std.proofs.Math.IntN.{nat_abs}
use Rattle.std.specs.Int.{w32, w64}
use Rattle.std.specs.Int.Signed.{le_z}
use Rattle.whole.specs.Interval.{Is, widened, is_literal, ask_add, is_add, ask_sub, is_sub, ask_times, is_times, is_wider}
use Rattle.limits.specs.Limits.{is_length}
use Rattle.plane.specs.Places.{last_end}
use Rattle.plane.specs.Offsets.{no_room, some_room}
use Rattle.plane.proofs.Machine.{as_64, is_natural}
use Rattle.plane.proofs.Place.keeps_length.Goals as goal

-- ---- the sums, over what the machine reads of each number
module _ {L H Q W l h q w : ℤ} (length_is : Is w64 1073741823 1073741823 L l) (height_is : Is w64 2147483648 2147483648 H h) (pitch_is : Is w64 2147483648 2147483648 Q q) (width_is : Is w64 2147483648 2147483648 W w) where
  steps : Is w64 2147483649 2147483649 (as_64 (H -ℤ pos 1)) (h -ℤ pos 1)
  steps = is_wider (is_sub height_is (is_literal w64 (pos 1)) tt tt) tt tt

  rows : Is w64 4611686020574871552 4611686020574871552 (as_64 (as_64 (H -ℤ pos 1) *ℤ Q)) ((h -ℤ pos 1) *ℤ q)
  rows = is_times steps pitch_is tt tt

  reach : Is w64 4611686022722355200 4611686022722355200 (as_64 (as_64 (as_64 (H -ℤ pos 1) *ℤ Q) +ℤ W)) ((h -ℤ pos 1) *ℤ q +ℤ w)
  reach = is_add rows width_is tt tt

  room : Is w64 4611686023796097023 4611686023796097023 (as_64 (L -ℤ as_64 (as_64 (as_64 (H -ℤ pos 1) *ℤ Q) +ℤ W))) (l -ℤ ((h -ℤ pos 1) *ℤ q +ℤ w))
  room = is_sub length_is reach tt tt

right_false : (a : Bool) {b : Bool} → b ≡ false → (a && b) ≡ false
right_false true e = e
right_false false e = refl

length_at : {n : ℕ} → is_length n ≡ true → Is w64 1073741823 1073741823 (to_z w64 n) (pos n)
length_at e = is_natural 1073741823 (leb-true _ _ e) tt

pub overflow_mul-room : goal.overflow_mul-room
overflow_mul-room c =
    let pitch : FitsSigned w32 c.args.self.pitch = search rules in
    let width : FitsSigned w32 c.args.self.width = search rules in
    let height : FitsSigned w32 c.args.self.height = search rules in
    let long : is_length c.args.length ≡ true = search rules in
    ask_times (steps (length_at long) (widened height) (widened pitch) (widened width)) (widened pitch) tt tt

pub overflow_add-room : goal.overflow_add-room
overflow_add-room c =
    let pitch : FitsSigned w32 c.args.self.pitch = search rules in
    let width : FitsSigned w32 c.args.self.width = search rules in
    let height : FitsSigned w32 c.args.self.height = search rules in
    let long : is_length c.args.length ≡ true = search rules in
    ask_add (rows (length_at long) (widened height) (widened pitch) (widened width)) (widened width) tt tt

pub overflow_sub-room-2 : goal.overflow_sub-room-2
overflow_sub-room-2 c =
    let pitch : FitsSigned w32 c.args.self.pitch = search rules in
    let width : FitsSigned w32 c.args.self.width = search rules in
    let height : FitsSigned w32 c.args.self.height = search rules in
    let long : is_length c.args.length ≡ true = search rules in
    ask_sub (length_at long) (reach (length_at long) (widened height) (widened pitch) (widened width)) tt tt

pub returns-then-room-lt0 : goal.returns-then-room-lt0
returns-then-room-lt0 c =
    let p = c.args.self in
    let pitch : FitsSigned w32 p.pitch = search rules in
    let width : FitsSigned w32 p.width = search rules in
    let height : FitsSigned w32 p.height = search rules in
    let long : is_length c.args.length ≡ true = search rules in
    let at = room (length_at long) (widened height) (widened pitch) (widened width) in
    sym (right_false (is_length c.args.length) (no_room p.base c.args.length ((p.height -ℤ pos 1) *ℤ p.pitch) p.width (rw at.same at c.if-room-lt0.true)))

pub returns : goal.returns
returns c =
    let p = c.args.self in
    let pitch : FitsSigned w32 p.pitch = search rules in
    let width : FitsSigned w32 p.width = search rules in
    let height : FitsSigned w32 p.height = search rules in
    let long : is_length c.args.length ≡ true = search rules in
    let at = room (length_at long) (widened height) (widened pitch) (widened width) in
    ap (λ (z : ℤ). leb p.base (nat_abs z)) at.same
    ∙ some_room p.base c.args.length ((p.height -ℤ pos 1) *ℤ p.pitch) p.width (rw at.same at c.if-room-lt0.false)
    ∙ sym (ap (λ (t : Bool). t && le_z (last_end p) (pos c.args.length)) long)
