-- 01, "Planning": the slots after a block, and the block's record. Definitions alone.
use Rattle.std.specs.Prelude.{Bool, true, false, cond, ℤ, pos, negsuc, ◌*ℤ◌, None, Option, Some}
use Rattle.records.specs.declared.Pair.{Pair}
use Rattle.records.specs.declared.Record.{Record}
use Rattle.slots.specs.declared.Source.{Source}
use Rattle.slots.specs.declared.Slots.{Slots}
use Rattle.slots.specs.Slots.{active_of, luma_in_active, chroma_in_active, inside_of, moved_of}
use Rattle.plane.specs.declared.Place.{Place}
use Rattle.plane.specs.Places.{pel1_of}
use Rattle.axis.specs.Axis.{window_of}
use Rattle.planes.specs.declared.Sides.{Sides}
use Rattle.planes.specs.declared.Planes.{Planes}
use Rattle.block.specs.declared.Settings.{Settings}
use Rattle.block.specs.declared.Block.{Block}
use Rattle.block.specs.declared.Shape.{Shape}
use Rattle.block.specs.declared.Spot.{Spot}
use Rattle.block.specs.declared.Step.{Step}
use Rattle.block.specs.Shapes.{shape_of, lambda_of, is_bad, moves_of, spot_of}

-- ---- the slots
-- what a bad block writes of a place into the active slot: its luma, and "A bad plain block also sets u and v."
unfoldable pub filled_with : Planes → Bool → Spot → Slots → Slots
filled_with p negative spot t =
    let written = luma_in_active negative (pel1_of p.luma spot.x spot.y) t in
    cond negative written (chroma_in_active (pel1_of p.u spot.cx spot.cy) (pel1_of p.v spot.cx spot.cy) written)

-- "Both axes 0: slot 0 becomes active and supplies the samples, even if this block has just written slot 1. Otherwise .. slot 1 is written with the moved
-- place and becomes active"
unfoldable pub settled_at : Planes → Bool → Bool → Spot → Slots → Slots
settled_at p negative moves spot t = cond moves (filled_with p negative spot (moved_of t)) (inside_of t)

-- ---- the record
-- "flags (BAD 1, NEGATIVE 2)"
abbrev pub flags_of : Bool → Bool → ℤ
flags_of bad negative = cond bad (cond negative (pos 3) (pos 1)) (cond negative (pos 2) (pos 0))

abbrev pub pair_of : ℤ → ℤ → Pair
pair_of first second = record { first = first; second = second }

-- "A block that isn't bad keeps absent offsets, zero positions and window (0,-1,0,-1)"
unfoldable pub quiet_record : Block → Bool → ℤ → Option ℤ → Record
quiet_record b negative lambda average =
    record {
      full = None;
      overlay = None;
      u = None;
      v = None;
      average = average;
      pos = pair_of (pos 0) (pos 0);
      cpos = pair_of (pos 0) (pos 0);
      predictor = pair_of b.px b.py;
      window_x = pair_of (pos 0) (negsuc 0);
      window_y = pair_of (pos 0) (negsuc 0);
      sad = b.sad;
      lambda = lambda;
      flags = flags_of false negative;
    }

-- "position, chroma position (both x pel)"
abbrev pub scaled_pair : ℤ → ℤ → ℤ → Pair
scaled_pair pel x y = pair_of (pel *ℤ x) (pel *ℤ y)

-- the record of a bad block: its samples from a source, its place and windows from its shape
unfoldable pub bad_record : Block → Shape → Spot → ℤ → Source → Option ℤ → Record
bad_record b h spot lambda s average =
    record {
      full = s.full;
      overlay = s.half;
      u = s.u;
      v = s.v;
      average = average;
      pos = scaled_pair h.across.pel spot.x spot.y;
      cpos = scaled_pair h.across.pel spot.cx spot.cy;
      predictor = pair_of b.px b.py;
      window_x = window_of h.across spot.x;
      window_y = window_of h.down spot.y;
      sad = b.sad;
      lambda = lambda;
      flags = flags_of true h.negative;
    }

-- ---- one block: its record, and the slots after it
-- "A bad block .. writes its luma origin into the active slot"; then it is settled, and the slot that is then active supplies its samples.
-- "The average's origin is always the block's own."
unfoldable pub bad_step : Planes → Sides → Block → Shape → ℤ → Slots → Step
bad_step p shift b h lambda t =
    let own = spot_of shift false h in
    let written = filled_with p h.negative own t in
    let spot = spot_of shift (moves_of h) h in
    let after = settled_at p h.negative (moves_of h) spot written in
    record { made = bad_record b h spot lambda (active_of after) (Some (pel1_of p.luma own.x own.y)); slots = after }

-- "or any block when luma is needed, writes its luma origin into the active slot"
unfoldable pub luma_step : Place → Block → Shape → ℤ → Slots → Step
luma_step luma b h lambda t =
    let at = pel1_of luma h.across.origin h.down.origin in
    record { made = quiet_record b h.negative lambda (Some at); slots = luma_in_active h.negative at t }

-- "its average is absent unless luma is needed"
unfoldable pub quiet_step : Block → Bool → ℤ → Slots → Step
quiet_step b negative lambda t = record { made = quiet_record b negative lambda None; slots = t }

-- which of the three a block's shape and lambda make it
unfoldable pub step_with : Settings → Block → Slots → Shape → ℤ → Step
step_with s b t h lambda =
    cond (is_bad s.weights h.negative b.sad) (bad_step s.planes s.shift b h lambda t)
    (cond s.level.need_luma (luma_step s.planes.luma b h lambda t) (quiet_step b h.negative lambda t))

unfoldable pub step_of : Settings → Block → Slots → Step
step_of s b t = step_with s b t (shape_of s b) (lambda_of s.weights (shape_of s b).negative)
