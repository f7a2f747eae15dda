-- What the two slots always hold, and so the offsets of every bad record: u and v together, and then full too; and full or overlay is there.
-- Nothing is asked of the settings, the order or the vectors. Assumes nothing.
use Rattle.std.specs.Prelude.{◌≡◌, refl, Bool, true, false, ◌&&◌, ◌||◌, not, cond, List, ℕ, zero, suc, ℤ, None, Option, Some}
use Rattle.whole.specs.Signed.{holds}
use Rattle.whole.specs.Truth.{left_of, both_of}
use Rattle.records.specs.declared.Record.{Record}
use Rattle.slots.specs.declared.Source.{Source}
use Rattle.slots.specs.declared.Slots.{Slots}
use Rattle.slots.specs.Slots.{at_start, luma_written, chroma_written, active_of, with_active, luma_in_active, chroma_in_active}
use Rattle.plane.specs.declared.Place.{Place}
use Rattle.plane.specs.Places.{pel1_of}
use Rattle.planes.specs.declared.Sides.{Sides}
use Rattle.planes.specs.declared.Planes.{Planes}
use Rattle.block.specs.declared.Settings.{Settings}
use Rattle.block.specs.declared.Block.{Block}
use Rattle.block.specs.declared.Shape.{Shape}
use Rattle.block.specs.declared.Spot.{Spot}
use Rattle.block.specs.Shapes.{shape_of, lambda_of, is_bad, moves_of, spot_of}
use Rattle.block.specs.Steps.{filled_with, settled_at, bad_record, bad_step, luma_step, quiet_step, step_with, step_of}
use Rattle.passes.specs.Fold.{turn_at, slots_at}

abbrev pub is_there : Option ℤ → Bool
is_there (Some place) = true
is_there None = false

abbrev alike : Bool → Bool → Bool
alike true b = b
alike false b = not b

-- u and v together, and then full too
abbrev pub paired : Source → Bool
paired s = alike (is_there s.u) (is_there s.v) && (not (is_there s.u) || is_there s.full)

-- some luma
abbrev pub lit : Source → Bool
lit s = is_there s.full || is_there s.half

-- ---- a slot that was written
luma_paired : (negative : Bool) (at : ℤ) (s : Source) → paired s ≡ true → paired (luma_written negative at s) ≡ true
luma_paired true at s e = e
luma_paired false at s e =
    both_of (left_of (alike (is_there s.u) (is_there s.v)) (not (is_there s.u) || is_there s.full) e) (full_there (is_there s.u))
  where
    full_there : (t : Bool) → (not t || true) ≡ true
    full_there true = refl
    full_there false = refl

luma_lit : (negative : Bool) (at : ℤ) (s : Source) → lit (luma_written negative at s) ≡ true
luma_lit true at s = half_there (is_there s.full)
  where
    half_there : (t : Bool) → (t || true) ≡ true
    half_there true = refl
    half_there false = refl
luma_lit false at s = refl

-- ---- both slots; and while slot 1 is active, slot 0 has luma: what the first of a run of moved blocks wrote
pub record Handed (t : Slots) : Type 0 where
  pub zero_paired : paired t.zero ≡ true
  pub one_paired : paired t.one ≡ true
  pub zero_lit : t.one_active ≡ true → lit t.zero ≡ true

pub start_handed : Handed at_start
start_handed = record { zero_paired = refl; one_paired = refl; zero_lit = λ e. absurd (holds e) }

active_paired : {t : Slots} → Handed t → paired (active_of t) ≡ true
active_paired {t} h = by t.one_active
  where
    by : (a : Bool) → paired (active_of (record { zero = t.zero; one = t.one; one_active = a })) ≡ true
    by true = h.one_paired
    by false = h.zero_paired

-- ---- the active slot written: it has luma then, and if that was slot 0, slot 0 has
record Written (t : Slots) : Type 0 where
  handed : Handed t
  zero_lit : lit t.zero ≡ true
  active_lit : lit (active_of t) ≡ true

written : {t : Slots} (s : Source) → Handed t → paired s ≡ true → lit s ≡ true → Written (with_active s t)
written {t} s h e l = by t.one_active refl
  where
    by : (a : Bool) → t.one_active ≡ a → Written (with_active s t)
    by true q =
        let kept : Handed (record { zero = t.zero; one = s; one_active = true }) =
        record { zero_paired = h.zero_paired; one_paired = e; zero_lit = λ k. h.zero_lit q } in
        rw q (record { handed = kept; zero_lit = h.zero_lit q; active_lit = l })
    by false q =
        let kept : Handed (record { zero = s; one = t.one; one_active = false }) =
        record { zero_paired = e; one_paired = h.one_paired; zero_lit = λ k. l } in
        rw q (record { handed = kept; zero_lit = l; active_lit = l })

luma_in : (negative : Bool) (at : ℤ) {t : Slots} → Handed t → Written (luma_in_active negative at t)
luma_in negative at {t} h =
    written (luma_written negative at (active_of t)) h (luma_paired negative at (active_of t) (active_paired h)) (luma_lit negative at (active_of t))

-- what was written into the active slot is what stands there
active_is : (s : Source) (t : Slots) → active_of (with_active s t) ≡ s
active_is s t = by t.one_active
  where
    by : (a : Bool) → active_of (with_active s (record { zero = t.zero; one = t.one; one_active = a })) ≡ s
    by true = refl
    by false = refl

-- u and v come after a plain block's luma, so that full is there
chroma_in : (u v at : ℤ) {t : Slots} → Handed t → Written (chroma_in_active u v (luma_in_active false at t))
chroma_in u v at {t} h =
    let first = luma_written false at (active_of t) in
    let there : active_of (luma_in_active false at t) ≡ first = active_is first t in
    written (chroma_written u v (active_of (luma_in_active false at t))) (luma_in false at h).handed (rw there refl) (rw there refl)

filled : (p : Planes) (negative : Bool) (spot : Spot) {t : Slots} → Handed t → Written (filled_with p negative spot t)
unfolding filled_with
filled p true spot h = luma_in true (pel1_of p.luma spot.x spot.y) h
filled p false spot h = chroma_in (pel1_of p.u spot.cx spot.cy) (pel1_of p.v spot.cx spot.cy) (pel1_of p.luma spot.x spot.y) h

-- ---- one block
-- the offsets of a record, as the source that they were taken from
abbrev pub source_of : Record → Source
source_of r = record { full = r.full; half = r.overlay; u = r.u; v = r.v }

-- "slot 1 is written with the moved place and becomes active", or "slot 0 becomes active and supplies the samples"
settled : (p : Planes) (negative moves : Bool) (spot : Spot) {t : Slots} → Written t → Written (settled_at p negative moves spot t)
unfolding settled_at
settled p negative true spot {t} w =
    filled p negative spot (record { zero_paired = w.handed.zero_paired; one_paired = w.handed.one_paired; zero_lit = λ k. w.zero_lit })
settled p negative false spot {t} w =
    record {
      handed = record { zero_paired = w.handed.zero_paired; one_paired = w.handed.one_paired; zero_lit = λ k. w.zero_lit };
      zero_lit = w.zero_lit;
      active_lit = w.zero_lit;
    }

-- a bad block's record: u and v together, and then full too; and full or overlay is there
pub bad_step_sources : (p : Planes) (shift : Sides) (b : Block) (h : Shape) (lambda : ℤ) {t : Slots} → Handed t →
    Handed (bad_step p shift b h lambda t).slots × (paired (source_of (bad_step p shift b h lambda t).made) ≡ true) ×
    (lit (source_of (bad_step p shift b h lambda t).made) ≡ true)
unfolding bad_step bad_record
bad_step_sources p shift b h lambda {t} k =
    let after = settled p h.negative (moves_of h) (spot_of shift (moves_of h) h) (filled p h.negative (spot_of shift false h) k) in
    (after.handed, active_paired after.handed, after.active_lit)

luma_step_handed : (luma : Place) (b : Block) (h : Shape) (lambda : ℤ) {t : Slots} → Handed t → Handed (luma_step luma b h lambda t).slots
unfolding luma_step
luma_step_handed luma b h lambda k = (luma_in h.negative (pel1_of luma h.across.origin h.down.origin) k).handed

pub step_handed : (s : Settings) (b : Block) {t : Slots} → Handed t → Handed (step_of s b t).slots
unfolding step_of step_with quiet_step
step_handed s b {t} k = by (is_bad s.weights h.negative b.sad) s.level.need_luma
  where
    h : Shape
    h = shape_of s b

    lambda : ℤ
    lambda = lambda_of s.weights (shape_of s b).negative

    by : (bad need : Bool) →
        Handed (cond bad (bad_step s.planes s.shift b h lambda t)
        (cond need (luma_step s.planes.luma b h lambda t) (quiet_step b h.negative lambda t))).slots
    by true need = (bad_step_sources s.planes s.shift b h lambda k).0
    by false true = luma_step_handed s.planes.luma b h lambda k
    by false false = k

-- ---- every block of the order
pub slots_handed : (s : Settings) (order vectors : List ℤ) (i : ℕ) → Handed (slots_at s order vectors i)
unfolding slots_at turn_at
slots_handed s order vectors zero = start_handed
slots_handed s order vectors (suc i) = step_handed s _ (slots_handed s order vectors i)
