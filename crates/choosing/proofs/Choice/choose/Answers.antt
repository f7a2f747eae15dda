-- `choose` walks the window as `chosen` does: a candidate has four ways out, and each is one of the four of the definition (proofs/Walking).
use Rattle.std.proofs.Common.{◌≡◌, ap, ◌∙◌, ℕ, ◌+◌, ◌*◌, ◌≤◌, ◌<◌, List, [], get_or, mul-le-mul, arith, ℤ, pos, ◌+ℤ◌, FitsSigned, to_z-of_z}
use Rattle.std.specs.Int.{w32}
use Rattle.whole.specs.Signed.{signed, got, add_is}
use Rattle.whole.specs.Interval.{Within, fits}
use Rattle.choosing.specs.declared.Choice.{Choice}
use Rattle.choosing.specs.Bounds.{Ranged, Narrow}
use Rattle.choosing.specs.Choosing.{distance_cost, with_penalty, columns_of, rows_of, slot_of, luma_column, luma_of, chroma_of, after_distance, after_luma, after_chroma, advanced, along_row, restarted, along_rows, start, answer_of, chosen}
use Rattle.choosing.proofs.Walking.{count_most, at_most_7, start_is, slot_in, luma_column_low, row_done, too_far, luma_over, chroma_over, better, walks_alike}
use Rattle.choosing.proofs.Choice.choose.Goals as goal

-- ---- the window's sides
record Room (columns j : ℕ) : Type 0 where
  narrow : columns ≤ 65536
  low : j < 65536

room : {k : Choice} {columns rows j : ℕ} → Ranged k → columns ≡ columns_of k → rows ≡ rows_of k → j < rows → Room columns j
room r w h l =
    record { narrow = omega (arith, count_most r.least_x r.greatest_x); low = omega (arith, count_most r.least_y r.greatest_y) }

-- a row that has a candidate is one of at most 7
tight : {k : Choice} {columns rows i j : ℕ} → Narrow k → columns ≡ columns_of k → rows ≡ rows_of k → i < columns → j < rows → (columns ≤ 7) × (j < 7)
tight s w h l m =
    let b = at_most_7 s (omega arith) (omega arith) in
    (omega (arith, b.0), omega (arith, b.1))

reached : (z : ℤ) (n : ℕ) → Within 32768 32767 z → n < 65536 → Within 32768 98302 (z +ℤ pos n)
reached z n p h = omega (signed, add_is z (pos n))

row_small : {columns j : ℕ} → Room columns j → j * columns ≤ 4294901760
row_small {j = j} b = let last : j ≤ 65535 = omega (arith, b.low) in mul-le-mul last b.narrow

luma_slot : {k : Choice} {columns rows i j column at : ℕ} → Narrow k → columns ≡ columns_of k → rows ≡ rows_of k → i < columns → j < rows → column ≤ i → at ≡ luma_column k column i → 1 + j * columns + at < 50
luma_slot {k} {columns} {rows} {i} {j} {column} {at} s w h l m behind e =
    let b = tight s w h l m in
    let low = luma_column_low k column i behind in
    slot_in columns j at b.0 b.1 (omega arith)

-- ---- the costs at the three tests, and the plain SAD, of what the machine reads
module _ (k : Choice) (luma chroma : List ℕ) (j i column : ℕ) where
  distance_read : {X Y r : ℤ} → X ≡ k.least_x +ℤ pos i → Y ≡ k.least_y +ℤ pos j → r ≡ distance_cost k X Y → r ≡ after_distance k j i
  unfolding after_distance
  distance_read p q e = simp (p, q) at e

  luma_read : {w at : ℕ} {X r : ℤ} → w ≡ columns_of k → at ≡ luma_column k column i → X ≡ after_distance k j i →
      r ≡ with_penalty k X (get_or luma (1 + j * w + at) 0) → r ≡ after_luma k luma j i column
  unfolding after_luma luma_of slot_of
  luma_read p q t e = simp (p, q, t) at e

  chroma_read : {w : ℕ} {X r : ℤ} → w ≡ columns_of k → X ≡ after_luma k luma j i column →
      r ≡ with_penalty k X (get_or chroma (1 + j * w + i) 0) → r ≡ after_chroma k luma chroma j i column
  unfolding after_chroma chroma_of slot_of
  chroma_read p t e = simp (p, t) at e

  as_tests_took : {w at : ℕ} {z : ℤ} → w ≡ columns_of k → at ≡ luma_column k column i →
      z ≡ pos (get_or luma (1 + j * w + at) 0 + get_or chroma (1 + j * w + i) 0) → z ≡ pos (luma_of k luma j i column + chroma_of k chroma j i)
  unfolding luma_of chroma_of slot_of
  as_tests_took p q e = simp (p, q) at e

-- ---- before the loops
pub rows-init : goal.rows-init
rows-init c =
    let x : FitsSigned w32 c.args.self.x = fits c.requires.served.ranged.x tt tt in
    let y : FitsSigned w32 c.args.self.y = fits c.requires.served.ranged.y tt tt in
    let begun = got w32 c.plain_sad-sad.type_inv c.plain_sad-sad.ensures in
    walks_alike 0 (to_z-of_z x) (to_z-of_z y) begun begun ∙ start_is _ _ _

-- ---- a row
pub y_at-vy-requires : goal.y_at-vy-requires
y_at-vy-requires c =
    let b = room c.requires.served.ranged c.column_count-columns.ensures c.row_count-rows.ensures c.rows-test.true in
    (c.requires.served.ranged, b.low)

pub overflow_mul-row : goal.overflow_mul-row
overflow_mul-row c =
    let b = room c.requires.served.ranged c.column_count-columns.ensures c.row_count-rows.ensures c.rows-test.true in
    omega (arith, row_small b)

pub overflow_add-row : goal.overflow_add-row
overflow_add-row c =
    let b = room c.requires.served.ranged c.column_count-columns.ensures c.row_count-rows.ensures c.rows-test.true in
    omega (arith, row_small b)

pub columns-init : goal.columns-init
unfolding along_row
columns-init c = record { behind = omega arith; state = c.rows.invariant }

-- ---- a candidate
pub columns-preserved-then-after_distance-least : goal.columns-preserved-then-after_distance-least
columns-preserved-then-after_distance-least c =
    let x = got w32 c.x_at-vx.type_inv c.x_at-vx.ensures in
    let y = got w32 c.y_at-vy.type_inv c.y_at-vy.ensures in
    let e = got w32 c.distance_cost-after_distance.type_inv (distance_read c.args.self [] [] c.rows.j c.columns.i 0 x y c.distance_cost-after_distance.ensures) in
    record { behind = omega arith; state = too_far _ _ _ _ _ _ _ c.columns.invariant.state (simp e at c.if-after_distance-least.true) }

pub overflow_add-l : goal.overflow_add-l
overflow_add-l c =
    omega (arith, luma_slot c.requires.served.narrow c.column_count-columns.ensures c.row_count-rows.ensures c.columns-test.true c.rows-test.true c.columns.invariant.behind c.luma_column-at.ensures)

pub offset_bounds-luma-row : goal.offset_bounds-luma-row
offset_bounds-luma-row c =
    omega (arith, luma_slot c.requires.served.narrow c.column_count-columns.ensures c.row_count-rows.ensures c.columns-test.true c.rows-test.true c.columns.invariant.behind c.luma_column-at.ensures)

pub bounds-luma-row : goal.bounds-luma-row
bounds-luma-row c =
    luma_slot c.requires.served.narrow c.column_count-columns.ensures c.row_count-rows.ensures c.columns-test.true c.rows-test.true c.columns.invariant.behind c.luma_column-at.ensures

pub columns-preserved-then-after_luma-least : goal.columns-preserved-then-after_luma-least
unfolding advanced
columns-preserved-then-after_luma-least c =
    let x = got w32 c.x_at-vx.type_inv c.x_at-vx.ensures in
    let y = got w32 c.y_at-vy.type_inv c.y_at-vy.ensures in
    let k = c.args.self in
    let luma = c.args.luma.now in
    let far = got w32 c.distance_cost-after_distance.type_inv (distance_read k luma luma c.rows.j c.columns.i 0 x y c.distance_cost-after_distance.ensures) in
    let near =
    got w32 c.with_penalty-after_luma.type_inv
    (luma_read k luma luma c.rows.j c.columns.i c.columns.column c.column_count-columns.ensures c.luma_column-at.ensures far c.with_penalty-after_luma.ensures)
    in
    record {
      behind = omega arith;
      state = luma_over _ _ _ _ _ _ _ c.columns.invariant.state (simp far at c.if-after_distance-least.false) (simp near at c.if-after_luma-least.true);
    }

pub with_penalty-after_chroma-requires : goal.with_penalty-after_chroma-requires
with_penalty-after_chroma-requires c = c.requires.small.1.below _

pub columns-preserved-then-after_chroma-least : goal.columns-preserved-then-after_chroma-least
unfolding advanced
columns-preserved-then-after_chroma-least c =
    let x = got w32 c.x_at-vx.type_inv c.x_at-vx.ensures in
    let y = got w32 c.y_at-vy.type_inv c.y_at-vy.ensures in
    let k = c.args.self in
    let luma = c.args.luma.now in
    let chroma = c.args.chroma.now in
    let far = got w32 c.distance_cost-after_distance.type_inv (distance_read k luma chroma c.rows.j c.columns.i 0 x y c.distance_cost-after_distance.ensures) in
    let near =
    got w32 c.with_penalty-after_luma.type_inv
    (luma_read k luma chroma c.rows.j c.columns.i c.columns.column c.column_count-columns.ensures c.luma_column-at.ensures far c.with_penalty-after_luma.ensures)
    in
    let full =
    got w32 c.with_penalty-after_chroma.type_inv
    (chroma_read k luma chroma c.rows.j c.columns.i c.columns.column c.column_count-columns.ensures near c.with_penalty-after_chroma.ensures)
    in
    record {
      behind = omega arith;
      state =
          chroma_over _ _ _ _ _ _ _ c.columns.invariant.state (simp far at c.if-after_distance-least.false) (simp near at c.if-after_luma-least.false)
          (simp full at c.if-after_chroma-least.true);
    }

pub plain_sad-sad-requires-in-columns : goal.plain_sad-sad-requires-in-columns
plain_sad-sad-requires-in-columns c = (c.requires.small.0.below _, c.requires.small.1.below _)

pub columns-preserved : goal.columns-preserved
columns-preserved c =
    let x = got w32 c.x_at-vx.type_inv c.x_at-vx.ensures in
    let y = got w32 c.y_at-vy.type_inv c.y_at-vy.ensures in
    let k = c.args.self in
    let luma = c.args.luma.now in
    let chroma = c.args.chroma.now in
    let far = got w32 c.distance_cost-after_distance.type_inv (distance_read k luma chroma c.rows.j c.columns.i 0 x y c.distance_cost-after_distance.ensures) in
    let near =
    got w32 c.with_penalty-after_luma.type_inv
    (luma_read k luma chroma c.rows.j c.columns.i c.columns.column c.column_count-columns.ensures c.luma_column-at.ensures far c.with_penalty-after_luma.ensures)
    in
    let full =
    got w32 c.with_penalty-after_chroma.type_inv
    (chroma_read k luma chroma c.rows.j c.columns.i c.columns.column c.column_count-columns.ensures near c.with_penalty-after_chroma.ensures)
    in
    let sad =
    got w32 c.plain_sad-sad-in-columns.type_inv
    (as_tests_took k luma chroma c.rows.j c.columns.i c.columns.column c.column_count-columns.ensures c.luma_column-at.ensures c.plain_sad-sad-in-columns.ensures)
    in
    record {
      behind = omega arith;
      state =
          walks_alike (c.columns.column + 1) x y sad full
          ∙ better _ _ _ _ _ _ _ c.columns.invariant.state (simp far at c.if-after_distance-least.false) (simp near at c.if-after_luma-least.false)
          (simp full at c.if-after_chroma-least.false);
    }

-- ---- a row's end, and the walk's
pub rows-preserved : goal.rows-preserved
unfolding restarted
rows-preserved c =
    let k = c.args.self in
    let all : c.columns.i ≡ columns_of k = omega arith in
    row_done k c.args.luma.now c.args.chroma.now c.rows.j c.columns.i (start k c.args.luma.now c.args.chroma.now) _ all c.columns.invariant.state

pub returns : goal.returns
unfolding chosen answer_of restarted
returns c =
    let k = c.args.self in
    let luma = c.args.luma.now in
    let chroma = c.args.chroma.now in
    let all : c.rows.j ≡ rows_of k = omega arith in
    ap answer_of c.rows.invariant ∙ ap (λ (n : ℕ). answer_of (along_rows k luma chroma n (start k luma chroma))) all
