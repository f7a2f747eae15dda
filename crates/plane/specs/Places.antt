-- Where a plane's samples stand: 01, "Numbers accepted", and the first sentences of "Evaluating and choosing". Definitions alone.
-- A plane's place is its base, pitch, sides and pel, as a caller lends them: any numbers. Its bytes are lent beside it.
use Rattle.std.specs.Prelude.{◌≡◌, Bool, true, ◌&&◌, ℕ, ◌≤◌, ℤ, pos, ◌+ℤ◌, ◌-ℤ◌, ◌*ℤ◌, nat_abs}
use Rattle.std.specs.Int.Signed.{le_z, shr_z}
use Rattle.whole.specs.Numbers.{mod_z}
use Rattle.whole.specs.Interval.{Within}
use Rattle.limits.specs.Limits.{is_pel, is_pitch, is_length}
use Rattle.plane.specs.declared.Place.{Place}

-- ---- refusal 2, as far as a plane's own numbers go: "Pel 1, 2 or 4 .. Pitch from the plane's width to 65,536, base 0 or more"
-- Every usize is 0 or more. What the sides may be differs between luma and chroma, and is asked by the entries.
abbrev pub limits_hold : Place → Bool
limits_hold p = is_pel p.pel && is_pitch p.width p.pitch

-- ---- refusal 3: "A plane's data are at most 1,073,741,823 bytes, and base + (height - 1) x pitch + width is at most that length."
abbrev pub last_end : Place → ℤ
last_end p = pos p.base +ℤ (p.height -ℤ pos 1) *ℤ p.pitch +ℤ p.width

abbrev pub keeps_length : Place → ℕ → Bool
keeps_length p length = is_length length && le_z (last_end p) (pos length)

-- ---- "pel 1, base + y x pitch + x"
abbrev pub pel1_of : Place → ℤ → ℤ → ℤ
pel1_of p x y = pos p.base +ℤ y *ℤ p.pitch +ℤ x

-- "At pel 2 or 4, x and y are divided by pel rounding down, and (x mod pel + pel x (y mod pel)) x pitch x height is added, remainders from 0."
-- At pel 1 nothing is divided off and nothing left (Offsets, `whole_pel`), so that one formula serves every pel.
unfoldable pub subpel_of : Place → ℤ → ℤ → ℤ
subpel_of p x y =
    let pel = nat_abs p.pel in
    pel1_of p (shr_z x pel) (shr_z y pel) +ℤ (pos (mod_z x pel) +ℤ p.pel *ℤ pos (mod_z y pel)) *ℤ p.pitch *ℤ p.height

-- ---- what an offset asks of its callers
-- of the plane: an accepted one has it all (Offsets, `accepted_placed`), for its base lies in its data
pub record Placed (p : Place) : Type 0 where
  pub base_in : p.base ≤ 2147483647
  pub pitch_in : Within 0 65536 p.pitch
  pub height_in : Within 0 16384 p.height
  pub pel_in : is_pel p.pel ≡ true

-- of a coordinate: from -4,000,000,000 to 4,000,000,000. A position of 32 bits and a vector together are well within.
abbrev pub Coordinate : ℤ → Type 0
Coordinate z = Within 4000000000 4000000000 z

pub record Located (p : Place) (x y : ℤ) : Type 0 where
  pub placed : Placed p
  pub x_in : Coordinate x
  pub y_in : Coordinate y

-- ---- an offset from -2^48 to 2^48. Every offset of a plane is (Offsets, `subpel_near`), so that a block's steps from it stay in 64 bits.
abbrev pub Near : ℤ → Type 0
Near z = Within 281474976710656 281474976710656 z
