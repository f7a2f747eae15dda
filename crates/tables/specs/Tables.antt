-- Where each slot of a block is read in a plane, and what it costs there: 01, "Evaluating and choosing", as far as it speaks of candidates and slots.
-- Definitions alone.
use Rattle.std.specs.Prelude.{Bool, List, ℕ, zero, suc, ◌+◌, ◌*◌, ℤ, pos, ◌+ℤ◌, get_or, set, replicate}
use Rattle.limits.specs.Limits.{shifted_by}
use Rattle.distance.specs.Distance.{Block}
use Rattle.plane.specs.declared.Place.{Place}
use Rattle.plane.specs.Places.{subpel_of}
use Rattle.plane_view.specs.View.{place_cost}
use Rattle.choosing.specs.declared.Choice.{Choice}
use Rattle.choosing.specs.Choosing.{columns_of, rows_of, slot_of}
use Rattle.tables.specs.declared.Reference.{Reference}

-- ---- where a vector leads: to the position plus the vector, shifted on both axes alike
unfoldable pub vector_offset : Reference → ℤ → ℤ → ℤ
vector_offset r vx vy = subpel_of r.place (r.x +ℤ shifted_by vx r.shift) (r.y +ℤ shifted_by vy r.shift)

-- the cost of a vector: of the source's w x h samples against a plane's from the vector's offset on. The reference gives the offset, and the plane steps by
-- its own pitch: "Reference V starts at the offset worked out for U and steps by V's own pitch." Luma and U are read at offsets of their own.
abbrev pub vector_cost : Bool → ℕ → ℕ → Block → List ℕ → Place → Reference → ℤ → ℤ → ℕ
vector_cost measure w h block samples place r vx vy = place_cost measure w h block samples place (vector_offset r vx vy)

-- ---- a table of 50: "Slots are 1 + (2 x radius + 1) squared", at the greatest radius
-- Slot 0 is the predictor's, then come the window's candidates, "row by row", and `none` in the rest. It holds offsets or costs.
abbrev pub candidate_of : {A : Type 0} → Choice → (ℤ → ℤ → A) → ℕ → ℕ → A
candidate_of k of j i = of (k.least_x +ℤ pos i) (k.least_y +ℤ pos j)

module _ {A : Type 0} (none : A) (k : Choice) (of : ℤ → ℤ → A) where
  -- with the first n candidates of row j, and with the first n rows
  unfoldable pub with_row : ℕ → ℕ → List A → List A
  with_row j zero t = t
  with_row j (suc n) t = set (with_row j n t) (slot_of k j n) (candidate_of k of j n)

  unfoldable pub with_rows : ℕ → List A → List A
  with_rows zero t = t
  with_rows (suc n) t = with_row n (columns_of k) (with_rows n t)

  abbrev pub with_predictor : List A
  with_predictor = set (replicate 50 none) 0 (of k.x k.y)

  unfoldable pub table_of : List A
  table_of = with_rows (rows_of k) with_predictor

-- how many slots of it are used
abbrev pub slots_used : Choice → ℕ
slots_used k = 1 + rows_of k * columns_of k

-- ---- costs from offsets: of the first n slots, each from its own offset on, and 0 in the rest. Of a table of offsets they are the table of costs
-- (Laws, `costs_of_offsets`)
unfoldable pub costs_upto : (ℤ → ℕ) → List ℤ → ℕ → List ℕ
costs_upto cost offsets zero = replicate 50 0
costs_upto cost offsets (suc n) = set (costs_upto cost offsets n) n (cost (get_or offsets n (pos 0)))

-- ---- "Chroma .. is scaled by 4^shift": U's table and V's together, slot by slot, and then scaled
unfoldable pub joined_upto : ℕ → List ℕ → List ℕ → ℕ → List ℕ
joined_upto scale u v zero = replicate 50 0
joined_upto scale u v (suc n) = set (joined_upto scale u v n) n ((get_or u n 0 + get_or v n 0) * scale)

abbrev pub joined : ℕ → List ℕ → List ℕ → List ℕ
joined scale u v = joined_upto scale u v 50
