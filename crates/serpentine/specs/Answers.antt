-- What the three entries answer, for every number and every buffer. 01's table of refusals: 1 "a grid side below 2", 2 "another number outside the
-- limits" (a side over 2,048), 4 "an order entry, index or serpentine position outside the grid given", 5 "a lent output is too short".
-- Definitions alone.
use Rattle.std.specs.Prelude.{List, Bool, ◌||◌, ℕ, ◌*◌, ltb, ℤ, pos, nat_abs, ◌*ℤ◌, length, Result}
use Rattle.std.specs.Int.Signed.{lt_z, le_z}
use Rattle.refusals.specs.declared.Refusal.{Refusal}
use Rattle.refusals.specs.Numbers.{answered}
use Rattle.limits.specs.Refusals.{first, kept}
use Rattle.serpentine.specs.declared.Place.{Place}
use Rattle.serpentine.specs.Walk.{at, block_at, position_at, filled}

-- ---- the refusals: "If several apply, the lowest is given"
abbrev pub by_sides : ℤ → ℤ → ℕ → ℕ
by_sides nx ny rest =
    first (lt_z nx (pos 2) || lt_z ny (pos 2)) 1
    (first (lt_z (pos 2048) nx || lt_z (pos 2048) ny) 2 rest)

-- place is none of 0 .. count - 1
abbrev pub is_outside : ℤ → ℤ → Bool
is_outside count place = lt_z place (pos 0) || le_z count place

unfoldable pub position_refusal : ℤ → ℤ → ℤ → ℤ → ℕ
position_refusal nx ny bx by = by_sides nx ny (first (is_outside nx bx || is_outside ny by) 4 0)

unfoldable pub block_refusal : ℤ → ℤ → ℤ → ℕ
block_refusal nx ny position = by_sides nx ny (first (is_outside (nx *ℤ ny) position) 4 0)

unfoldable pub order_refusal : ℤ → ℤ → ℕ → ℕ
order_refusal nx ny numbers = by_sides nx ny (first (ltb numbers (2 * (nat_abs nx * nat_abs ny))) 5 0)

-- ---- the answers. No number that is served is below 0, so its absolute value is the number itself.
abbrev pub position_given : ℕ → ℤ
position_given p = pos p

unfoldable pub position_answer : ℤ → ℤ → ℤ → ℤ → Result ℤ Refusal
position_answer nx ny bx by =
    answered (position_refusal nx ny bx by) (position_given (position_at (nat_abs nx) (nat_abs ny) (at (nat_abs bx) (nat_abs by))))

-- a block's column and row
abbrev pub block_given : Place → ℤ × ℤ
block_given b = (pos b.x, pos b.y)

unfoldable pub block_answer : ℤ → ℤ → ℤ → Result (ℤ × ℤ) Refusal
block_answer nx ny position =
    answered (block_refusal nx ny position) (block_given (block_at (nat_abs nx) (nat_abs ny) (nat_abs position)))

-- serpentine_order answers `order_refusal` alone. This is what its buffer then holds: "A refusal .. changes nothing lent".
unfoldable pub order_after : ℤ → ℤ → List ℤ → List ℤ
order_after nx ny order = kept (order_refusal nx ny (length order)) (filled (nat_abs nx) (nat_abs ny) order) order
