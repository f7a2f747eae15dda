-- Laws of Places: one formula for every pel, that an accepted plane's offsets are near, and that the length rule can be asked without a sum. Assumes nothing.
use Rattle.std.specs.Prelude.{◌≡◌, refl, Bool, true, false, ℕ, suc, ◌+◌, ◌*◌, ◌≤◌, leb, ℤ, pos, negsuc, ◌+ℤ◌, ◌-ℤ◌, ◌*ℤ◌, neg_ℤ, ◌≤ℤ◌}
use Rattle.std.proofs.Common.{sym, ap, ◌∙◌, arith, lit<, leb-true, leb-false}
use Rattle.std.proofs.Math.IntN.{nat_abs}
use Rattle.std.specs.Int.Signed.{shr_z, le_z, lt_z}
use Rattle.whole.specs.Numbers.{mod_z}
use Rattle.whole.specs.Signed.{P, N, signed, add_is, diff_is, abs_is}
use Rattle.whole.specs.Truth.{left_of, right_of, lies_low, lies_high}
use Rattle.whole.specs.Floor.{mod_below}
use Rattle.whole.specs.Interval.{Within, within_more, within_add, within_times, within_shr}
use Rattle.limits.specs.Limits.{is_pel, is_pitch, is_length, greatest_length}
use Rattle.limits.specs.Ranges.{at_each_pel, pel_within}
use Rattle.plane.specs.declared.Place.{Place}
use Rattle.plane.specs.Places.{limits_hold, last_end, keeps_length, pel1_of, subpel_of, Placed, Coordinate, Near}

-- ---- what a division by pel leaves
pub mod_within : (pel : ℤ) → is_pel pel ≡ true → (z : ℤ) → Within 0 3 (pos (mod_z z (nat_abs pel)))
mod_within pel e z =
    at_each_pel (λ (k : ℤ). Within 0 3 (pos (mod_z z (nat_abs k))))
    (omega (arith, mod_below {m = 1} (lit< tt) z)) (omega (arith, mod_below {m = 2} (lit< tt) z)) (omega (arith, mod_below {m = 4} (lit< tt) z)) pel e

-- ---- at pel 1 nothing is divided off and nothing left
pub shr_1 : (z : ℤ) → shr_z z 1 ≡ z
shr_1 (pos n) = ap pos (omega arith)
shr_1 (negsuc n) = ap negsuc (omega arith)

pub mod_1 : (z : ℤ) → mod_z z 1 ≡ 0
mod_1 (pos n) = omega arith
mod_1 (negsuc n) = omega arith

none_times : (z : ℤ) → pos 0 *ℤ z ≡ pos 0
none_times (pos n) = ap pos (omega arith)
none_times (negsuc n) = let e : 0 * suc n ≡ 0 = omega arith in ap (λ (k : ℕ). neg_ℤ (pos k)) e

nothing_added : (z pitch height : ℤ) (a b : ℕ) → a ≡ 0 → b ≡ 0 → z +ℤ (pos a +ℤ pos 1 *ℤ pos b) *ℤ pitch *ℤ height ≡ z
nothing_added z pitch height a b d e =
    let none : a + 1 * b ≡ 0 = omega arith in
    ap (λ (n : ℕ). z +ℤ pos n *ℤ pitch *ℤ height) none
    ∙ ap (λ (k : ℤ). z +ℤ k) (ap (λ (k : ℤ). k *ℤ height) (none_times pitch) ∙ none_times height)
    ∙ omega (signed, add_is z (pos 0))

pub whole_pel : (p : Place) (x y : ℤ) → p.pel ≡ pos 1 → subpel_of p x y ≡ pel1_of p x y
unfolding subpel_of
whole_pel p x y e = one (nat_abs p.pel) p.pel (ap nat_abs e) e
  where
    one : (n : ℕ) (pel : ℤ) → n ≡ 1 → pel ≡ pos 1 → pel1_of p (shr_z x n) (shr_z y n) +ℤ (pos (mod_z x n) +ℤ pel *ℤ pos (mod_z y n)) *ℤ p.pitch *ℤ p.height
        ≡ pel1_of p x y
    one n pel d e = simp (d, e, shr_1) (nothing_added (pel1_of p x y) p.pitch p.height (mod_z x 1) (mod_z y 1) (mod_1 x) (mod_1 y))

-- ---- every offset of a plane is near
natural_within : {n h : ℕ} → n ≤ h → Within h h (pos n)
natural_within l = omega arith

module _ (p : Place) (k : Placed p) where
  pub pel1_within : {x y : ℤ} → Coordinate x → Coordinate y → Within 262150147483647 262150147483647 (pel1_of p x y)
  pel1_within column row =
      let pitch : Within 65536 65536 p.pitch = within_more k.pitch_in tt tt in
      within_add (within_add (natural_within k.base_in) (within_times row pitch)) column

  pub subpel_near : {x y : ℤ} → Coordinate x → Coordinate y → Near (subpel_of p x y)
  unfolding subpel_of
  subpel_near {x} {y} column row =
      let pel = nat_abs p.pel in
      let left : (z : ℤ) → Within 3 3 (pos (mod_z z pel)) = λ z. within_more (mod_within p.pel k.pel_in z) tt tt in
      let by_pel : Within 4 4 p.pel = within_more (pel_within p.pel k.pel_in) tt tt in
      let pitch : Within 65536 65536 p.pitch = within_more k.pitch_in tt tt in
      let height : Within 16384 16384 p.height = within_more k.height_in tt tt in
      within_more
      (within_add
      (pel1_within (within_shr pel column) (within_shr pel row))
      (within_times (within_times (within_add (left x) (within_times by_pel (left y))) pitch) height))
      tt tt

-- ---- what an offset asks, from the limits and the sides
pub limits_placed : (p : Place) → limits_hold p ≡ true → p.base ≤ 2147483647 → pos 0 ≤ℤ p.width → Within 0 16384 p.height → Placed p
limits_placed p limits short wide high =
    let pitch = right_of (is_pel p.pel) (is_pitch p.width p.pitch) limits in
    let above = lies_low p.width (pos 65536) p.pitch pitch in
    let below = lies_high p.width (pos 65536) p.pitch pitch in
    record {
      base_in = short;
      pitch_in = omega signed;
      height_in = high;
      pel_in = left_of (is_pel p.pel) (is_pitch p.width p.pitch) limits;
    }

-- an accepted plane has it: its numbers are within the limits, its sides are 1 or more, and it keeps its length rule
module _ (p : Place) (n : ℕ) (limits : limits_hold p ≡ true) (kept : keeps_length p n ≡ true) where
  pub accepted_placed : pos 1 ≤ℤ p.width → pos 1 ≤ℤ p.height → p.height ≤ℤ pos 16384 → Placed p
  accepted_placed wide high low =
      let rows = p.height -ℤ pos 1 in
      let pitch = right_of (is_pel p.pel) (is_pitch p.width p.pitch) limits in
      let above = lies_low p.width (pos 65536) p.pitch pitch in
      let short = leb-true n greatest_length (left_of (is_length n) (le_z (last_end p) (pos n)) kept) in
      let ends = right_of (is_length n) (le_z (last_end p) (pos n)) kept in
      let product = times_above rows p.pitch (omega (signed, diff_is p.height (pos 1))) (omega signed) in
      limits_placed p limits
      (omega (signed, add_is (pos p.base) (rows *ℤ p.pitch), add_is (pos p.base +ℤ rows *ℤ p.pitch) p.width))
      (omega signed) (omega signed)
    where
      times_above : (a b : ℤ) → N a ≤ P a → N b ≤ P b → N (a *ℤ b) ≤ P (a *ℤ b)
      times_above (pos m) (pos n) k l = omega arith
      times_above (pos m) (negsuc n) k l = absurd (omega arith)
      times_above (negsuc m) b k l = absurd (omega arith)

-- ---- the length rule without a sum of the base: what the rows leave of the length is the base's room
module _ (base n : ℕ) (rows width : ℤ) where
  pub no_room : lt_z (pos n -ℤ (rows +ℤ width)) (pos 0) ≡ true → le_z (pos base +ℤ rows +ℤ width) (pos n) ≡ false
  no_room e = omega (signed, diff_is (pos n) (rows +ℤ width), add_is rows width, add_is (pos base) rows, add_is (pos base +ℤ rows) width)

  pub some_room : lt_z (pos n -ℤ (rows +ℤ width)) (pos 0) ≡ false → leb base (nat_abs (pos n -ℤ (rows +ℤ width))) ≡ le_z (pos base +ℤ rows +ℤ width) (pos n)
  some_room e = by (leb base room) refl
    where
      room : ℕ
      room = nat_abs (pos n -ℤ (rows +ℤ width))

      by : (t : Bool) → leb base room ≡ t → t ≡ le_z (pos base +ℤ rows +ℤ width) (pos n)
      by true k =
          let l = leb-true base room k in
          sym (omega (
            signed,
            abs_is (pos n -ℤ (rows +ℤ width)),
            diff_is (pos n) (rows +ℤ width),
            add_is rows width,
            add_is (pos base) rows,
            add_is
                (pos base +ℤ rows) width,
          ))
      by false k =
          let l = leb-false base room k in
          sym (omega (
            signed,
            abs_is (pos n -ℤ (rows +ℤ width)),
            diff_is (pos n) (rows +ℤ width),
            add_is rows width,
            add_is (pos base) rows,
            add_is
                (pos base +ℤ rows) width,
          ))
