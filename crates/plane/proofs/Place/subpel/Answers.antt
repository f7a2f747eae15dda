-- A subplane's number is at most 15, so that the products fit, and with them the sum. Assumes nothing.
use Rattle.std.proofs.Common.{◌≡◌, ◌∙◌, true, ◌<◌, ℤ, pos, ◌+ℤ◌, ◌*ℤ◌, FitsSigned, to_z, of_z, to_z-of_z, rules}
use Rattle.std.proofs.Math.IntN.{nat_abs}
use Rattle.std.specs.Int.{w32, w64}
use Rattle.std.specs.Int.Signed.{shr_z}
use lib.Signed.{mag}
use Rattle.limits.specs.Limits.{is_pel}
use Rattle.limits.specs.Ranges.{pel_within}
use Rattle.whole.specs.Numbers.{mod_z}
use Rattle.whole.specs.Interval.{Within, Is, within_more, within_shr, read_within, is_arg, is_cast, ask_add, is_add, ask_times, is_times}
use Rattle.plane.specs.declared.Place.{Place}
use Rattle.plane.specs.Places.{Placed, Coordinate, pel1_of, subpel_of}
use Rattle.plane.specs.Offsets.{mod_within, pel1_within}
use Rattle.plane.proofs.Machine.{as_64, is_answer}
use Rattle.plane.proofs.Place.subpel.Goals as goal

-- ---- the sums, over what the machine reads of each number
module _ {A E B a e b : ℤ} (x_left : Is w64 3 3 A a) (pel_is : Is w64 4 4 E e) (y_left : Is w64 3 3 B b) where
  row : Is w64 12 12 (as_64 (E *ℤ B)) (e *ℤ b)
  row = is_times pel_is y_left tt tt

  subplane : Is w64 15 15 (as_64 (A +ℤ as_64 (E *ℤ B))) (a +ℤ e *ℤ b)
  subplane = is_add x_left row tt tt

  module _ {Q H q h : ℤ} (pitch_is : Is w64 65536 65536 Q q) (height_is : Is w64 16384 16384 H h) where
    step : Is w64 983040 983040 (as_64 (as_64 (A +ℤ as_64 (E *ℤ B)) *ℤ Q)) ((a +ℤ e *ℤ b) *ℤ q)
    step = is_times subplane pitch_is tt tt

    far : Is w64 16106127360 16106127360 (as_64 (as_64 (as_64 (A +ℤ as_64 (E *ℤ B)) *ℤ Q) *ℤ H)) ((a +ℤ e *ℤ b) *ℤ q *ℤ h)
    far = is_times step height_is tt tt

-- ---- what is known of each
pel_at : {pel : ℤ} → FitsSigned w32 pel → is_pel pel ≡ true → Is w64 4 4 (as_64 (to_z w32 (of_z w32 pel))) pel
pel_at {pel} f e = is_cast w64 (is_arg f (within_more (pel_within pel e) tt tt)) tt tt

wide_at : {z : ℤ} → FitsSigned w32 z → Within 0 65536 z → Is w64 65536 65536 (as_64 (to_z w32 (of_z w32 z))) z
wide_at f lies = is_cast w64 (is_arg f (within_more lies tt tt)) tt tt

high_at : {z : ℤ} → FitsSigned w32 z → Within 0 16384 z → Is w64 16384 16384 (as_64 (to_z w32 (of_z w32 z))) z
high_at f lies = is_cast w64 (is_arg f (within_more lies tt tt)) tt tt

-- what a coordinate leaves, and what was divided by pel
left_at : {pel z r : ℤ} → FitsSigned w32 pel → FitsSigned w64 z → is_pel pel ≡ true → mag r < 9223372036854775808 →
    r ≡ pos (mod_z (as_64 z) (nat_abs (to_z w32 (of_z w32 pel)))) → Is w64 3 3 (as_64 r) (pos (mod_z z (nat_abs pel)))
left_at {pel} {z} g f e small told = is_answer small (simp to_z-of_z at told) (within_more (mod_within pel e z) tt tt)

floored_at : {pel z r : ℤ} → FitsSigned w32 pel → FitsSigned w64 z → Coordinate z → mag r < 9223372036854775808 →
    r ≡ shr_z (as_64 z) (nat_abs (to_z w32 (of_z w32 pel))) → Is w64 4000000000 4000000000 (as_64 r) (shr_z z (nat_abs pel))
floored_at {pel} {z} g f lies small told = is_answer small (simp to_z-of_z at told) (within_shr (nat_abs pel) lies)

alike : (p : Place) {X Y x y : ℤ} → X ≡ x → Y ≡ y → pel1_of p X Y ≡ pel1_of p x y
alike p e f = cc

start_at : {p : Place} {X Y x y r : ℤ} → Placed p → Is w64 4000000000 4000000000 X x → Is w64 4000000000 4000000000 Y y → mag r < 9223372036854775808 →
    r ≡ pel1_of p X Y → Is w64 262150147483647 262150147483647 (as_64 r) (pel1_of p x y)
start_at {p} placed x y small told = is_answer small (told ∙ alike p x.same y.same) (pel1_within p placed x.lies y.lies)

pub overflow_mul-subplane : goal.overflow_mul-subplane
overflow_mul-subplane c =
    let pel : FitsSigned w32 c.args.self.pel = search rules in
    let in_pel = c.requires.placed.pel_in in
    let b = left_at pel c.ranges.y in_pel c.remainder-2.type_inv c.remainder-2.ensures in
    ask_times (pel_at pel in_pel) b tt tt

pub overflow_add-subplane : goal.overflow_add-subplane
overflow_add-subplane c =
    let pel : FitsSigned w32 c.args.self.pel = search rules in
    let in_pel = c.requires.placed.pel_in in
    let a = left_at pel c.ranges.x in_pel c.remainder.type_inv c.remainder.ensures in
    let b = left_at pel c.ranges.y in_pel c.remainder-2.type_inv c.remainder-2.ensures in
    ask_add a (row a (pel_at pel in_pel) b) tt tt

pub pel1-requires : goal.pel1-requires
pel1-requires c =
    let pel : FitsSigned w32 c.args.self.pel = search rules in
    let x = floored_at pel c.ranges.x c.requires.x_in c.floored.type_inv c.floored.ensures in
    let y = floored_at pel c.ranges.y c.requires.y_in c.floored-2.type_inv c.floored-2.ensures in
    record { placed = c.requires.placed; x_in = read_within x; y_in = read_within y }

pub overflow_mul-result : goal.overflow_mul-result
overflow_mul-result c =
    let pel : FitsSigned w32 c.args.self.pel = search rules in
    let pitch : FitsSigned w32 c.args.self.pitch = search rules in
    let in_pel = c.requires.placed.pel_in in
    let a = left_at pel c.ranges.x in_pel c.remainder.type_inv c.remainder.ensures in
    let b = left_at pel c.ranges.y in_pel c.remainder-2.type_inv c.remainder-2.ensures in
    ask_times (subplane a (pel_at pel in_pel) b) (wide_at pitch c.requires.placed.pitch_in) tt tt

pub overflow_mul-result-2 : goal.overflow_mul-result-2
overflow_mul-result-2 c =
    let pel : FitsSigned w32 c.args.self.pel = search rules in
    let pitch : FitsSigned w32 c.args.self.pitch = search rules in
    let height : FitsSigned w32 c.args.self.height = search rules in
    let in_pel = c.requires.placed.pel_in in
    let a = left_at pel c.ranges.x in_pel c.remainder.type_inv c.remainder.ensures in
    let b = left_at pel c.ranges.y in_pel c.remainder-2.type_inv c.remainder-2.ensures in
    let q = wide_at pitch c.requires.placed.pitch_in in
    let h = high_at height c.requires.placed.height_in in
    ask_times (step a (pel_at pel in_pel) b q h) h tt tt

pub overflow_add-result : goal.overflow_add-result
overflow_add-result c =
    let pel : FitsSigned w32 c.args.self.pel = search rules in
    let pitch : FitsSigned w32 c.args.self.pitch = search rules in
    let height : FitsSigned w32 c.args.self.height = search rules in
    let in_pel = c.requires.placed.pel_in in
    let a = left_at pel c.ranges.x in_pel c.remainder.type_inv c.remainder.ensures in
    let b = left_at pel c.ranges.y in_pel c.remainder-2.type_inv c.remainder-2.ensures in
    let q = wide_at pitch c.requires.placed.pitch_in in
    let h = high_at height c.requires.placed.height_in in
    let x = floored_at pel c.ranges.x c.requires.x_in c.floored.type_inv c.floored.ensures in
    let y = floored_at pel c.ranges.y c.requires.y_in c.floored-2.type_inv c.floored-2.ensures in
    ask_add (start_at c.requires.placed x y c.pel1.type_inv c.pel1.ensures) (far a (pel_at pel in_pel) b q h) tt tt

pub returns : goal.returns
unfolding subpel_of
returns c =
    let pel : FitsSigned w32 c.args.self.pel = search rules in
    let pitch : FitsSigned w32 c.args.self.pitch = search rules in
    let height : FitsSigned w32 c.args.self.height = search rules in
    let in_pel = c.requires.placed.pel_in in
    let a = left_at pel c.ranges.x in_pel c.remainder.type_inv c.remainder.ensures in
    let b = left_at pel c.ranges.y in_pel c.remainder-2.type_inv c.remainder-2.ensures in
    let q = wide_at pitch c.requires.placed.pitch_in in
    let h = high_at height c.requires.placed.height_in in
    let x = floored_at pel c.ranges.x c.requires.x_in c.floored.type_inv c.floored.ensures in
    let y = floored_at pel c.ranges.y c.requires.y_in c.floored-2.type_inv c.floored-2.ensures in
    (is_add (start_at c.requires.placed x y c.pel1.type_inv c.pel1.ensures) (far a (pel_at pel in_pel) b q h) tt tt).same
