-- What a record says of its search: its flags, whether its window holds a candidate, and refusal 7 of it. Definitions alone.
use Rattle.std.specs.Prelude.{Bool, ◌&&◌, ◌||◌, not, ℤ, pos, ◌+ℤ◌, ◌-ℤ◌, ◌*ℤ◌}
use Rattle.std.specs.Int.Signed.{lt_z, le_z, shr_z}
use Rattle.whole.specs.Numbers.{mod_z}
use Rattle.records.specs.declared.Pair.{Pair}
use Rattle.records.specs.declared.Record.{Record}

-- ---- the flags: "BAD 1, NEGATIVE 2", each its own bit, whatever stands above it
abbrev pub bad_flag : ℤ → ℤ
bad_flag flags = pos (mod_z flags 2)

abbrev pub half_flag : ℤ → ℤ
half_flag flags = pos (mod_z (shr_z flags 2) 2)

abbrev pub is_bad : Record → Bool
is_bad r = le_z (pos 1) (bad_flag r.flags)

abbrev pub is_negative : Record → Bool
is_negative r = le_z (pos 1) (half_flag r.flags)

-- ---- the window
-- its side on an axis, from its least to its greatest: 0 or less where it is empty
abbrev pub side_of : Pair → ℤ
side_of window = window.second -ℤ window.first +ℤ pos 1

-- "both sides non-empty": each side is asked, since of two sides below 0 the product is above it
abbrev pub both_some : ℤ → ℤ → Bool
both_some x y = lt_z (pos 0) x && lt_z (pos 0) y

abbrev pub has_candidate : Record → Bool
has_candidate r = both_some (side_of r.window_x) (side_of r.window_y)

-- ---- 02, Three: "`searched` counts BAD records whose window holds at least one candidate", `kept` "BAD records whose window is empty"
unfoldable pub is_searched : Record → Bool
is_searched r = is_bad r && has_candidate r

unfoldable pub is_kept : Record → Bool
is_kept r = is_bad r && not (has_candidate r)

-- ---- "7: a BAD record's window has both sides non-empty and one over 2 x radius + 1"
abbrev pub most_of : ℤ → ℤ
most_of radius = radius *ℤ pos 2 +ℤ pos 1

abbrev pub window_wide : ℤ → ℤ → ℤ → Bool
window_wide most x y = both_some x y && (lt_z most x || lt_z most y)

unfoldable pub is_wide : ℤ → Record → Bool
is_wide radius r = is_bad r && window_wide (most_of radius) (side_of r.window_x) (side_of r.window_y)

-- ---- "Slots are 1 + (2 x radius + 1) squared"
abbrev pub slots_of : ℤ → ℤ
slots_of radius = most_of radius *ℤ most_of radius +ℤ pos 1
