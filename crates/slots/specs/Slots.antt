-- 01, "Planning": "The two source slots are one small record .. They start absent, slot 0 active." Definitions alone.
use Rattle.std.specs.Prelude.{Bool, true, false, ℤ, None, Some}
use Rattle.slots.specs.declared.Source.{Source}
use Rattle.slots.specs.declared.Slots.{Slots}

abbrev pub no_source : Source
no_source = record { full = None; half = None; u = None; v = None }

abbrev pub at_start : Slots
at_start = record { zero = no_source; one = no_source; one_active = false }

-- "a negative block sets `half` only, another sets `full` and makes `half` absent"
abbrev pub luma_written : Bool → ℤ → Source → Source
luma_written true offset s = record { full = s.full; half = Some offset; u = s.u; v = s.v }
luma_written false offset s = record { full = Some offset; half = None; u = s.u; v = s.v }

-- "A bad plain block also sets u and v."
abbrev pub chroma_written : ℤ → ℤ → Source → Source
chroma_written u v s = record { full = s.full; half = s.half; u = Some u; v = Some v }

-- the active slot, and the two slots with another source in it
abbrev by_active : Bool → Source → Source → Source
by_active true one zero = one
by_active false one zero = zero

abbrev pub active_of : Slots → Source
active_of t = by_active t.one_active t.one t.zero

abbrev put : Bool → Source → Slots → Slots
put true s t = record { zero = t.zero; one = s; one_active = t.one_active }
put false s t = record { zero = s; one = t.one; one_active = t.one_active }

abbrev pub with_active : Source → Slots → Slots
with_active s t = put t.one_active s t

-- "writes its luma origin into the active slot"
abbrev pub luma_in_active : Bool → ℤ → Slots → Slots
luma_in_active negative offset t = with_active (luma_written negative offset (active_of t)) t

-- "A bad plain block also sets u and v", in the same slot
abbrev pub chroma_in_active : ℤ → ℤ → Slots → Slots
chroma_in_active u v t = with_active (chroma_written u v (active_of t)) t

-- "Both axes 0: slot 0 becomes active"
abbrev pub inside_of : Slots → Slots
inside_of t = record { zero = t.zero; one = t.one; one_active = false }

-- "Otherwise .. slot 1 is written with the moved place and becomes active": it becomes active first, so that the write goes there.
abbrev pub moved_of : Slots → Slots
moved_of t = record { zero = t.zero; one = t.one; one_active = true }
