-- What `Fair` leaves of a block's numbers, and how large its costs are. Assumes nothing.
use Rattle.std.specs.Prelude.{◌≡◌, refl, Bool, true, false, cond, ◌&&◌, ◌||◌, List, ℕ, zero, suc, ◌+◌, ◌*◌, ◌/◌, ◌^◌, ◌≤◌, ◌<◌, Option}
use Rattle.std.specs.Prelude.{T, leb, ℤ, pos, negsuc, nat_abs, get_or}
use Rattle.std.proofs.Common.{sym, ap, ◌∙◌, ⊎_elim, arith, leb→le, to_z, of_z}
use Rattle.std.specs.Int.Signed.{lt_z, shr_z}
use Rattle.std.specs.Int.{w32}
use Rattle.whole.specs.Numbers.{fits_i16}
use Rattle.whole.specs.Signed.{signed, holds}
use Rattle.whole.specs.Truth.{left_of, right_of, either_of, lies_low, lies_high, five_of}
use Rattle.whole.specs.Interval.{Within, within_more, is_within, read_within, i16_within}
use Rattle.limits.specs.Limits.{same, is_block}
use Rattle.records.specs.declared.Pair.{Pair}
use Rattle.records.specs.declared.Record.{Record}
use Rattle.records.specs.Packing.{pair_fits}
use Rattle.window.specs.Windows.{is_negative}
use Rattle.distance.specs.Distance.{Block, block_of}
use Rattle.distance.specs.Laws.{Agree}
use Rattle.plane.specs.declared.Place.{Place}
use Rattle.plane.specs.Samples.{placed_from, nth, gathered}
use Rattle.plane.specs.Reads.{placed_byte, source_byte, gathered_rows, gathered_block}
use Rattle.plane.specs.Averages.{Power}
use Rattle.choosing.specs.declared.Choice.{Choice}
use Rattle.choosing.specs.Choosing.{selected}
use Rattle.choosing.specs.Bounds.{Served}
use Rattle.tables.specs.declared.Reference.{Reference}
use Rattle.plane_view.specs.View.{place_cost}
use Rattle.tables.specs.Tables.{vector_offset, vector_cost, table_of, slots_used, costs_upto}
use Rattle.tables.specs.Bounds.{Reached, Most}
use Rattle.tables.specs.Laws.{table_most, vector_most, joined_most, costs_same, costs_of_offsets}
use Rattle.best.specs.declared.Task.{Task}
use Rattle.best.specs.Best.{no_table, width_of, height_of, choice_of, source_block, luma_reference, luma_cost, luma_table}
use Rattle.best.specs.Best.{chroma_width, chroma_height, chroma_reference, chroma_cost, scale_of, plane_table, chroma_table, chromas_of}
use Rattle.best.specs.Fair.{Fair}

-- ---- "Block 8x8, 16x8 or 16x16": what holds at each of the three holds at every accepted block
only : (n : ℕ) (z : ℤ) → same (pos n) z ≡ true → z ≡ pos n
only n z e = let low = lies_low (pos n) (pos n) z e in let high = lies_high (pos n) (pos n) z e in omega signed

pub at_each_block : (Q : ℤ → ℤ → Type 0) → Q (pos 8) (pos 8) → Q (pos 16) (pos 8) → Q (pos 16) (pos 16) → (w h : ℤ) → is_block w h ≡ true → Q w h
at_each_block Q small wide large w h e =
    let w8 = same (pos 8) w in
    let h8 = same (pos 8) h in
    let w16 = same (pos 16) w in
    let h16 = same (pos 16) h in
    ⊎_elim
    (λ k. rw (only 8 w (left_of w8 h8 k), only 8 h (right_of w8 h8 k)) small)
    (λ k.
    ⊎_elim
    (λ l. rw (only 16 w (left_of w16 (h8 || h16) k), only 8 h l) wide)
    (λ l. rw (only 16 w (left_of w16 (h8 || h16) k), only 16 h l) large)
    (either_of h8 h16 (right_of w16 (h8 || h16) k)))
    (either_of (w8 && h8) (w16 && (h8 || h16)) e)

pub side_x : (w h : ℤ) → is_block w h ≡ true → Within 0 16 w
side_x w h e = at_each_block (λ x y. Within 0 16 x) (omega arith) (omega arith) (omega arith) w h e

pub side_y : (w h : ℤ) → is_block w h ≡ true → Within 0 16 h
side_y w h e = at_each_block (λ x y. Within 0 16 y) (omega arith) (omega arith) (omega arith) w h e

-- the sizes that costs are taken over: "16x16, 16x8, 8x8, 8x4, 4x4"
pub record Sized (w h : ℕ) : Type 0 where
  pub some : 4 ≤ w
  pub wide : w ≤ 16
  pub tall : 4 ≤ h
  pub high : h ≤ 16
  pub columns : 4 * (w / 4) ≡ w
  pub rows : 4 * (h / 4) ≡ h
  pub power : Power w h

sized : (m n : ℕ) → T (leb 1 m) → T (leb m 4) → T (leb 1 n) → T (leb n 4) → Power (4 * m) (4 * n) → Sized (4 * m) (4 * n)
sized m n a b c d e =
    let some = leb→le 1 m a in
    let wide = leb→le m 4 b in
    let tall = leb→le 1 n c in
    let high = leb→le n 4 d in
    record { some = omega arith; wide = omega arith; tall = omega arith; high = omega arith; columns = omega arith; rows = omega arith; power = e }

-- a block's own sides, and halved
halved_or_not : (halve : Bool) (w h : ℤ) → is_block w h ≡ true → Sized (nat_abs (cond halve (shr_z w 2) w)) (nat_abs (cond halve (shr_z h 2) h))
halved_or_not true =
    at_each_block (λ x y. Sized (nat_abs (shr_z x 2)) (nat_abs (shr_z y 2)))
    (sized 1 1 tt tt tt tt refl) (sized 2 1 tt tt tt tt refl) (sized 2 2 tt tt tt tt refl)
halved_or_not false =
    at_each_block (λ x y. Sized (nat_abs x) (nat_abs y))
    (sized 2 2 tt tt tt tt refl) (sized 4 2 tt tt tt tt refl) (sized 4 4 tt tt tt tt refl)

-- ---- parts that fit i16
first_within : (p : Pair) → pair_fits p ≡ true → Within 32768 32767 p.first
first_within p e = i16_within p.first (left_of (fits_i16 p.first) (fits_i16 p.second) e)

second_within : (p : Pair) → pair_fits p ≡ true → Within 32768 32767 p.second
second_within p e = i16_within p.second (right_of (fits_i16 p.first) (fits_i16 p.second) e)

-- ---- what the machine reads of a number from 0 to 65536, which a pitch is, and a side
abbrev pub Counts : ℤ → Type 0
Counts z = Within 0 65536 z

pub counts_read : {z : ℤ} → Counts z → Counts (to_z w32 (of_z w32 z))
counts_read p = read_within (is_within w32 p tt tt)

pub natural_read : {n : ℕ} {z : ℤ} → n ≡ nat_abs (to_z w32 (of_z w32 z)) → Counts z → n ≡ nat_abs z
natural_read e p = e ∙ ap nat_abs (is_within w32 p tt tt).same

-- ---- references put together of equal parts are equal
pub alike_references : {p P : Place} {a b c A B C : ℤ} → p ≡ P → a ≡ A → b ≡ B → c ≡ C →
    ◌≡◌ {A = Reference} (record { place = p; x = a; y = b; shift = c }) (record { place = P; x = A; y = B; shift = C })
alike_references e f g h = cc

-- ---- what `Fair` leaves
-- ---- the sides of the blocks compared, of a block that is one of the three
module _ (task : Task) (given : Record) (block_in : is_block task.block.x task.block.y ≡ true) where
  pub searched_sides : Sized (width_of task given) (height_of task given)
  searched_sides = halved_or_not (is_negative given) task.block.x task.block.y block_in

  pub chroma_sides : Sized (chroma_width task given) (chroma_height task given)
  chroma_sides = by (lt_z task.shift (pos 1))
    where
      by : (t : Bool) → Sized (nat_abs (cond t task.block.x (shr_z task.block.x 2))) (nat_abs (cond t task.block.y (shr_z task.block.y 2)))
      by true = halved_or_not false task.block.x task.block.y block_in
      by false = halved_or_not true task.block.x task.block.y block_in

  -- the cost of a vector, between bytes
  pub luma_most_at : (luma reference : List ℕ) → ((n : ℕ) → get_or luma n 0 < 256) → ((n : ℕ) → get_or reference n 0 < 256) →
      (x y : ℤ) → luma_cost task given luma reference x y ≤ 130560
  luma_most_at luma reference p q =
      vector_most task.measure (width_of task given) (height_of task given) (source_block task given luma) reference
      task.reference.luma (luma_reference task given) searched_sides.wide searched_sides.high
      (λ y x. source_byte luma p (nat_abs task.source.luma.pitch) given.full given.overlay
      (nat_abs task.block.x) (nat_abs task.block.y) (y * width_of task given + x)) q

module _ {task : Task} {given : Record} (fair : Fair task given) where
  pub full_sized : Sized (nat_abs task.block.x) (nat_abs task.block.y)
  full_sized = halved_or_not false task.block.x task.block.y fair.block_in

  pub searched_sized : Sized (width_of task given) (height_of task given)
  searched_sized = searched_sides task given fair.block_in

  pub chroma_sized : Sized (chroma_width task given) (chroma_height task given)
  chroma_sized = chroma_sides task given fair.block_in

  pub width_in : Within 0 16 task.block.x
  width_in = side_x task.block.x task.block.y fair.block_in

  pub height_in : Within 0 16 task.block.y
  height_in = side_y task.block.x task.block.y fair.block_in

  pub width_counts : Counts task.block.x
  width_counts = within_more width_in tt tt

  pub height_counts : Counts task.block.y
  height_counts = within_more height_in tt tt

  pairs_in :
      (pair_fits given.pos ≡ true) × (pair_fits given.cpos ≡ true) × (pair_fits given.predictor ≡ true)
      × (pair_fits given.window_x ≡ true) × (pair_fits given.window_y ≡ true)
  pairs_in =
      five_of (pair_fits given.pos) (pair_fits given.cpos) (pair_fits given.predictor)
      (pair_fits given.window_x) (pair_fits given.window_y) fair.pairs

  pub luma_reached : Reached (luma_reference task given)
  luma_reached =
      record {
        placed = fair.reference_luma;
        x_in = first_within given.pos pairs_in.0;
        y_in = second_within given.pos pairs_in.0;
      }

  pub chroma_reached : Reached (chroma_reference task given)
  chroma_reached =
      record {
        placed = fair.reference_u;
        x_in = first_within given.cpos pairs_in.1;
        y_in = second_within given.cpos pairs_in.1;
      }

  pub scale_most : scale_of task given ≤ 4
  scale_most = by task.shift fair.shift_in
    where
      by : (s : ℤ) → Within 0 1 s → 4 ^ nat_abs s ≤ 4
      by (pos zero) p = omega arith
      by (pos (suc zero)) p = omega arith
      by (pos (suc (suc n))) p = absurd (omega arith)
      by (negsuc n) p = absurd (omega arith)

  -- ---- how large costs are, between bytes
  pub luma_cost_most : (luma reference : List ℕ) → ((n : ℕ) → get_or luma n 0 < 256) → ((n : ℕ) → get_or reference n 0 < 256) →
      (x y : ℤ) → luma_cost task given luma reference x y ≤ 130560
  luma_cost_most = luma_most_at task given fair.block_in

  pub luma_most : (luma reference : List ℕ) → ((n : ℕ) → get_or luma n 0 < 256) → ((n : ℕ) → get_or reference n 0 < 256) →
      Most 130560 (luma_table task given luma reference)
  unfolding luma_table
  luma_most luma reference p q = table_most 130560 (choice_of task given) (luma_cost task given luma reference) (luma_cost_most luma reference p q)

  pub plane_most : (origin : Option ℤ) (source own : Place) (samples reference : List ℕ) →
      ((n : ℕ) → get_or samples n 0 < 256) → ((n : ℕ) → get_or reference n 0 < 256) →
      Most 130560 (plane_table task given origin source own samples reference)
  unfolding plane_table
  plane_most origin source own samples reference p q =
      table_most 130560 (choice_of task given) (chroma_cost task given origin source own samples reference)
      (vector_most task.measure (chroma_width task given) (chroma_height task given) (placed_from samples origin (nat_abs source.pitch))
      reference own (chroma_reference task given) chroma_sized.wide chroma_sized.high
      (placed_byte samples p origin (nat_abs source.pitch)) q)

  pub chroma_most : (u v referenceU referenceV : List ℕ) → ((n : ℕ) → get_or u n 0 < 256) → ((n : ℕ) → get_or v n 0 < 256) →
      ((n : ℕ) → get_or referenceU n 0 < 256) → ((n : ℕ) → get_or referenceV n 0 < 256) →
      Most 1044480 (chroma_table task given u v referenceU referenceV)
  unfolding chroma_table
  chroma_most u v referenceU referenceV p q r s =
      joined_most (plane_most given.u task.source.u task.reference.u u referenceU p r)
      (plane_most given.v task.source.v task.reference.v v referenceV q s) scale_most

-- ---- which chroma table counts
first_taken : (t : Bool) (a b : List ℕ) → t ≡ true → a ≡ cond t a b
first_taken t a b e = rw e

second_taken : (t : Bool) (a b : List ℕ) → t ≡ false → b ≡ cond t a b
second_taken t a b e = rw e

module _ (task : Task) (given : Record) (u v referenceU referenceV : List ℕ) where
  pub no_chroma : is_negative given ≡ true → no_table ≡ chromas_of task given u v referenceU referenceV
  unfolding chromas_of
  no_chroma e = first_taken (is_negative given) no_table (chroma_table task given u v referenceU referenceV) e

  pub some_chroma : is_negative given ≡ false → chroma_table task given u v referenceU referenceV ≡ chromas_of task given u v referenceU referenceV
  unfolding chromas_of
  some_chroma e = second_taken (is_negative given) no_table (chroma_table task given u v referenceU referenceV) e

-- ---- costs of gathered samples, from the offsets of a reference on, are the table of the block that they are
module _ {k : Choice} (served : Served k) (measure : Bool) (w h : ℕ) (samples : List ℕ) (place : Place) (r : Reference) where
  abbrev costs_of : Block → List ℕ
  costs_of block = costs_upto (place_cost measure w h block samples place) (table_of (pos 0) k (vector_offset r)) (slots_used k)

  costs_of_lem : (a b : Block) → Agree w h a b → costs_of a ≡ table_of 0 k (vector_cost measure w h b samples place r)
  costs_of_lem a b e =
      costs_same measure w h a b samples place (table_of (pos 0) k (vector_offset r)) (slots_used k) e
      ∙ costs_of_offsets served.narrow (place_cost measure w h b samples place) (vector_offset r)

  pub table_of_samples : {out : List ℕ} (f : ℕ → ℕ) → w ≤ 16 → h ≤ 16 → out ≡ gathered (h * w) f →
      costs_of (block_of out w) ≡ table_of 0 k (vector_cost measure w h (λ y x. f (y * w + x)) samples place r)
  table_of_samples f wide high e = rw e (costs_of_lem _ _ (gathered_rows w h f wide high))

  pub table_of_block : {out : List ℕ} (block : Block) → w ≤ 16 → h ≤ 16 → out ≡ gathered (h * w) (nth w block) →
      costs_of (block_of out w) ≡ table_of 0 k (vector_cost measure w h block samples place r)
  table_of_block block wide high e = rw e (costs_of_lem _ _ (gathered_block w h block wide high))

-- ---- a block that isn't bad looks at no table
pub not_looked_at : (k : Choice) (bad negative : Bool) (sad : ℤ) (l c l' c' : List ℕ) →
    bad ≡ false → selected k bad negative sad l c ≡ selected k bad negative sad l' c'
unfolding selected
not_looked_at k true negative sad l c l' c' e = absurd (holds (sym e))
not_looked_at k false negative sad l c l' c' e = refl
