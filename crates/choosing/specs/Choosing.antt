-- One block's choice. 01, "Evaluating and choosing", from "A block that isn't bad" to "is tripled, wrapping". Definitions alone.
-- A table holds the predictor's SAD in slot 0 and then the window's, row by row. Chroma's table comes scaled: "Chroma .. is scaled by 4^shift"
-- before any penalty is taken of it, and whoever makes the table does that.
use Rattle.std.specs.Prelude.{Bool, cond, List, ℕ, zero, suc, ◌+◌, ◌*◌, ℤ, pos, ◌+ℤ◌, ◌-ℤ◌, ◌*ℤ◌, nat_abs, get_or}
use Rattle.std.specs.Int.Signed.{le_z, shr_z}
use Rattle.std.specs.Int.{w32}
use Rattle.whole.specs.Numbers.{wrapped, lies_in}
use Rattle.choosing.specs.declared.Choice.{Choice}
use Rattle.choosing.specs.declared.Chosen.{Chosen}

-- ---- "The window is walked row by row."
-- how many numbers lie from least to greatest, both included
unfoldable pub count_of : ℤ → ℤ → ℕ
count_of least greatest = cond (le_z least greatest) (nat_abs (greatest -ℤ least +ℤ pos 1)) 0

abbrev pub columns_of : Choice → ℕ
columns_of k = count_of k.least_x k.greatest_x

abbrev pub rows_of : Choice → ℕ
rows_of k = count_of k.least_y k.greatest_y

-- where a table holds the candidate in column i of row j
unfoldable pub slot_of : Choice → ℕ → ℕ → ℕ
slot_of k j i = 1 + j * columns_of k + i

-- ---- "Cost is (lambda x squared distance) >> 8, then luma's penalty, then chroma's; penalty is SAD + (pnew x SAD >> 8)."
-- "These products and sums wrap at 32 bits."
abbrev pub squared_of : ℤ → ℤ → ℤ
squared_of dx dy = wrapped w32 (wrapped w32 (dx *ℤ dx) +ℤ wrapped w32 (dy *ℤ dy))

unfoldable pub distance_cost : Choice → ℤ → ℤ → ℤ
distance_cost k x y = shr_z (wrapped w32 (k.lambda *ℤ squared_of (k.x -ℤ x) (k.y -ℤ y))) 256

unfoldable pub penalty_of : Choice → ℕ → ℤ
penalty_of k sad = wrapped w32 (pos sad +ℤ shr_z (wrapped w32 (k.pnew *ℤ pos sad)) 256)

unfoldable pub with_penalty : Choice → ℤ → ℕ → ℤ
with_penalty k cost sad = wrapped w32 (cost +ℤ penalty_of k sad)

-- "At pel 1 the luma column advances only for candidates that pass the distance test": there a candidate takes the luma of
-- that column, at another pel its own
unfoldable pub luma_column : Choice → ℕ → ℕ → ℕ
luma_column k column i = cond (lies_in (pos 1) (pos 1) k.pel) column i

-- ---- the walk: the best vector so far with its plain SAD, the least cost, and the luma column
pub record Walk : Type 0 where
  pub x : ℤ
  pub y : ℤ
  pub sad : ℤ
  pub least : ℤ
  pub column : ℕ

-- the luma column "advances", and "restarts each row"; at another pel than 1 nothing reads it
unfoldable pub advanced : Walk → Walk
advanced s = record { x = s.x; y = s.y; sad = s.sad; least = s.least; column = s.column + 1 }

unfoldable pub restarted : Walk → Walk
restarted s = record { x = s.x; y = s.y; sad = s.sad; least = s.least; column = 0 }

unfoldable pub answer_of : Walk → Chosen
answer_of s = record { x = s.x; y = s.y; sad = s.sad }

-- ---- the candidate in column i of row j: its two SADs, and its cost at each of the three tests
unfoldable pub luma_of : Choice → List ℕ → ℕ → ℕ → ℕ → ℕ
luma_of k luma j i column = get_or luma (slot_of k j (luma_column k column i)) 0

unfoldable pub chroma_of : Choice → List ℕ → ℕ → ℕ → ℕ
chroma_of k chroma j i = get_or chroma (slot_of k j i) 0

unfoldable pub after_distance : Choice → ℕ → ℕ → ℤ
after_distance k j i = distance_cost k (k.least_x +ℤ pos i) (k.least_y +ℤ pos j)

unfoldable pub after_luma : Choice → List ℕ → ℕ → ℕ → ℕ → ℤ
after_luma k luma j i column = with_penalty k (after_distance k j i) (luma_of k luma j i column)

module _ (k : Choice) (luma chroma : List ℕ) where
  unfoldable pub after_chroma : ℕ → ℕ → ℕ → ℤ
  after_chroma j i column = with_penalty k (after_luma k luma j i column) (chroma_of k chroma j i)

  -- "The SAD answered is the chosen vector's plain luma SAD plus chroma's scaled one, as the tests took them, with neither distance nor
  -- pnew's part."
  unfoldable pub taken : ℕ → ℕ → Walk → Walk
  taken j i s =
      record {
        x = k.least_x +ℤ pos i;
        y = k.least_y +ℤ pos j;
        sad = pos (luma_of k luma j i s.column + chroma_of k chroma j i);
        least = after_chroma j i s.column;
        column = s.column + 1;
      }

  -- "A candidate that fails a test is dropped at once and the walk goes on with the next; a test fails at cost equal to the least."
  unfoldable pub candidate : ℕ → ℕ → Walk → Walk
  candidate j i s =
      cond (le_z s.least (after_distance k j i)) s
      (cond (le_z s.least (after_luma k luma j i s.column)) (advanced s)
      (cond (le_z s.least (after_chroma j i s.column)) (advanced s) (taken j i s)))

  -- after the first n candidates of row j, and after the first n rows
  unfoldable pub along_row : ℕ → ℕ → Walk → Walk
  along_row j zero s = s
  along_row j (suc n) s = candidate j n (along_row j n s)

  unfoldable pub along_rows : ℕ → Walk → Walk
  along_rows zero s = s
  along_rows (suc n) s = along_row n (columns_of k) (restarted (along_rows n s))

  -- "A bad one starts with its predictor and that slot's plain SAD as least cost."
  abbrev pub plain_sad : ℤ
  plain_sad = pos (get_or luma 0 0 + get_or chroma 0 0)

  unfoldable pub start : Walk
  start = record { x = k.x; y = k.y; sad = plain_sad; least = plain_sad; column = 0 }

  unfoldable pub chosen : Chosen
  chosen = answer_of (along_rows (rows_of k) start)

-- ---- "A block that isn't bad answers its predictor and SAD."
abbrev pub predictor_with : Choice → ℤ → Chosen
predictor_with k sad = record { x = k.x; y = k.y; sad = sad }

-- "A negative block's SAD is tripled, wrapping.", whether it is bad or not
unfoldable pub tripled_of : Bool → ℤ → ℤ
tripled_of negative sad = cond negative (wrapped w32 (sad *ℤ pos 3)) sad

abbrev pub with_tripled : Bool → Chosen → Chosen
with_tripled negative best = record { x = best.x; y = best.y; sad = tripled_of negative best.sad }

unfoldable pub selected : Choice → Bool → Bool → ℤ → List ℕ → List ℕ → Chosen
selected k bad negative sad luma chroma = with_tripled negative (cond bad (chosen k luma chroma) (predictor_with k sad))
