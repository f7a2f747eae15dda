-- Where the records of an accepted plan point: every offset that is there lies in its plane's data, so that no cast cuts it, and a bad record's position is a
-- place at which the block still lies inside the frame. Assumes nothing.
use Rattle.std.specs.Prelude.{◌≡◌, refl, Bool, true, cond, List, pos, None, Option, Some}
use Rattle.std.proofs.Common.{ap, subst, arith}
use Rattle.std.proofs.Math.Bool.{false}
use Prim.Native.Nat.{ℕ, zero, suc, ◌<◌}
use Rattle.std.proofs.Math.IntN.{ℤ}
use Rattle.whole.specs.Interval.{Within}
use Rattle.records.specs.declared.Record.{Record}
use Rattle.slots.specs.declared.Source.{Source}
use Rattle.slots.specs.declared.Slots.{Slots}
use Rattle.slots.specs.Slots.{no_source, at_start, luma_written, chroma_written, active_of, with_active, luma_in_active, chroma_in_active}
use Rattle.planes.specs.declared.Planes.{Planes}
use Rattle.block.specs.declared.Settings.{Settings}
use Rattle.block.specs.declared.Block.{Block}
use Rattle.block.specs.declared.Spot.{Spot}
use Rattle.block.specs.declared.Step.{Step}
use Rattle.block.specs.Shapes.{shape_of, lambda_of, is_bad, moves_of, spot_of}
use Rattle.block.specs.Steps.{filled_with, settled_at, quiet_record, bad_record, bad_step, luma_step, quiet_step, step_with, step_of}
use Rattle.block.specs.Asked.{SpotHeld, Ready}
use Rattle.block.specs.Reach.{Inside, across_inside, down_inside, place_inside, spot_held, origin_addressed}
use Rattle.passes.specs.Fold.{block_at, turn_at, slots_at}
use Rattle.passes.specs.Asked.{Served}

-- ---- offsets
-- an offset that is there lies from 0 to 1,073,741,822
pub record InData (offset : Option ℤ) : Type 0 where
  pub place_lies : {place : ℤ} → offset ≡ Some place → Within 0 1073741822 place

abbrev place_in : Option ℤ → ℤ
place_in (Some place) = place
place_in None = pos 0

none_in : InData None
none_in = record { place_lies = λ e. absurd (clash e) }
  where
    there : Option ℤ → Type 0
    there (Some place) = ⊥
    there None = Unit

    clash : {place : ℤ} → ◌≡◌ {A = Option ℤ} None (Some place) → ⊥
    clash e = subst there e tt

at_in : {place : ℤ} → Within 0 1073741822 place → InData (Some place)
at_in w = record { place_lies = λ e. subst (Within 0 1073741822) (ap place_in e) w }

-- all four of a source
pub record Sourced (s : Source) : Type 0 where
  pub full : InData s.full
  pub half : InData s.half
  pub u : InData s.u
  pub v : InData s.v

luma_sourced : (negative : Bool) {at : ℤ} {s : Source} → Within 0 1073741822 at → Sourced s → Sourced (luma_written negative at s)
luma_sourced true w k = record { full = k.full; half = at_in w; u = k.u; v = k.v }
luma_sourced false w k = record { full = at_in w; half = none_in; u = k.u; v = k.v }

chroma_sourced : {u v : ℤ} {s : Source} → Within 0 1073741822 u → Within 0 1073741822 v → Sourced s → Sourced (chroma_written u v s)
chroma_sourced wu wv k = record { full = k.full; half = k.half; u = at_in wu; v = at_in wv }

-- both slots
pub record Both (t : Slots) : Type 0 where
  pub zero : Sourced t.zero
  pub one : Sourced t.one

start_both : Both at_start
start_both =
    let none : Sourced no_source = record { full = none_in; half = none_in; u = none_in; v = none_in } in
    record { zero = none; one = none }

active_sourced : {t : Slots} → Both t → Sourced (active_of t)
active_sourced {t} b = by t.one_active
  where
    by : (a : Bool) → Sourced (active_of (record { zero = t.zero; one = t.one; one_active = a }))
    by true = b.one
    by false = b.zero

written_both : {t : Slots} (s : Source) → Both t → Sourced s → Both (with_active s t)
written_both {t} s b k = by t.one_active refl
  where
    by : (a : Bool) → t.one_active ≡ a → Both (with_active s t)
    by true q = rw q (record { zero = b.zero; one = k })
    by false q = rw q (record { zero = k; one = b.one })

luma_both : (negative : Bool) {at : ℤ} {t : Slots} → Within 0 1073741822 at → Both t → Both (luma_in_active negative at t)
luma_both negative {at} {t} w b = written_both (luma_written negative at (active_of t)) b (luma_sourced negative w (active_sourced b))

chroma_both : {u v : ℤ} {t : Slots} → Within 0 1073741822 u → Within 0 1073741822 v → Both t → Both (chroma_in_active u v t)
chroma_both {u} {v} {t} wu wv b = written_both (chroma_written u v (active_of t)) b (chroma_sourced wu wv (active_sourced b))

filled_both : (p : Planes) (negative : Bool) (spot : Spot) {t : Slots} → SpotHeld p negative spot → Both t → Both (filled_with p negative spot t)
unfolding filled_with
filled_both p true spot h b = luma_both true h.luma.offset_in b
filled_both p false spot h b = chroma_both (h.u refl).offset_in (h.v refl).offset_in (luma_both false h.luma.offset_in b)

settled_both : (p : Planes) (negative moves : Bool) (spot : Spot) {t : Slots} → SpotHeld p negative spot → Both t → Both (settled_at p negative moves spot t)
unfolding settled_at
settled_both p negative true spot h b = filled_both p negative spot h (record { zero = b.zero; one = b.one })
settled_both p negative false spot h b = record { zero = b.zero; one = b.one }

-- ---- one block: the slots after it, and its record's five offsets
pub record Pointed (r : Record) : Type 0 where
  pub full : InData r.full
  pub overlay : InData r.overlay
  pub u : InData r.u
  pub v : InData r.v
  pub average : InData r.average

record Stepped (d : Step) : Type 0 where
  slots : Both d.slots
  made : Pointed d.made

module _ {s : Settings} {b : Block} (k : Ready s b) where
  bad_stepped : (lambda : ℤ) {t : Slots} → Both t → Stepped (bad_step s.planes s.shift b (shape_of s b) lambda t)
  unfolding bad_step bad_record
  bad_stepped lambda both =
      let h = shape_of s b in
      let own = spot_held k false in
      let there = spot_held k (moves_of h) in
      let written = filled_both s.planes h.negative (spot_of s.shift false h) own both in
      let after = settled_both s.planes h.negative (moves_of h) (spot_of s.shift (moves_of h) h) there written in
      let source = active_sourced after in
      record {
        slots = after;
        made = record { full = source.full; overlay = source.half; u = source.u; v = source.v; average = at_in own.luma.offset_in };
      }

  luma_stepped : (lambda : ℤ) {t : Slots} → Both t → Stepped (luma_step s.planes.luma b (shape_of s b) lambda t)
  unfolding luma_step quiet_record
  luma_stepped lambda both =
      let h = shape_of s b in
      let at = (origin_addressed k).offset_in in
      record {
        slots = luma_both h.negative at both;
        made = record { full = none_in; overlay = none_in; u = none_in; v = none_in; average = at_in at };
      }

  quiet_stepped : (lambda : ℤ) {t : Slots} → Both t → Stepped (quiet_step b (shape_of s b).negative lambda t)
  unfolding quiet_step quiet_record
  quiet_stepped lambda both = record { slots = both; made = record { full = none_in; overlay = none_in; u = none_in; v = none_in; average = none_in } }

  stepped : {t : Slots} → Both t → Stepped (step_of s b t)
  unfolding step_of step_with
  stepped {t} both = by (is_bad s.weights (shape_of s b).negative b.sad) s.level.need_luma
    where
      lambda : ℤ
      lambda = lambda_of s.weights (shape_of s b).negative

      by : (bad need : Bool) →
          Stepped (cond bad (bad_step s.planes s.shift b (shape_of s b) lambda t)
          (cond need (luma_step s.planes.luma b (shape_of s b) lambda t) (quiet_step b (shape_of s b).negative lambda t)))
      by true need = bad_stepped lambda both
      by false true = luma_stepped lambda both
      by false false = quiet_stepped lambda both

  -- ---- positions: from the place on, the block lies inside the frame. A record's position is pel times the place.
  pub across_place : (moves : Bool) → Inside (shape_of s b).across.frame (spot_of s.shift moves (shape_of s b)).x (shape_of s b).across.side
  unfolding spot_of
  across_place moves = place_inside (shape_of s b).across (across_inside k) moves

  pub down_place : (moves : Bool) → Inside (shape_of s b).down.frame (spot_of s.shift moves (shape_of s b)).y (shape_of s b).down.side
  unfolding spot_of
  down_place moves = place_inside (shape_of s b).down (down_inside k) moves

-- ---- every block of the order
module _ (s : Settings) (order vectors : List ℤ) where
  slots_both : (i n : ℕ) → i < n → Served s order vectors n → Both (slots_at s order vectors i)
  unfolding slots_at turn_at
  slots_both zero n l served = start_both
  slots_both (suc i) n l served = (stepped (served i (omega arith)).ready (slots_both i n (omega arith) served)).slots

  pub record_pointed : (i n : ℕ) → i < n → Served s order vectors n → Pointed (step_of s (block_at s.grid order vectors i) (slots_at s order vectors i)).made
  record_pointed i n l served = (stepped (served i l).ready (slots_both i n l served)).made
