-- One block's best, from its record and the planes: 01, "Evaluating and choosing". Definitions alone.
-- Samples and costs are plane's and distance's, tables are tables', and the choice from them is choosing's.
use Rattle.std.specs.Prelude.{Bool, cond, List, ℕ, ◌+◌, ◌*◌, ◌^◌, ℤ, pos, nat_abs, replicate, Option}
use Rattle.std.specs.Int.Signed.{shr_z}
use Rattle.limits.specs.Limits.{shifted_by}
use Rattle.records.specs.declared.Record.{Record}
use Rattle.window.specs.Windows.{is_bad, is_negative}
use Rattle.distance.specs.Distance.{Block}
use Rattle.plane.specs.declared.Place.{Place}
use Rattle.plane.specs.Samples.{placed_from, source_at, average_of}
use Rattle.choosing.specs.declared.Choice.{Choice}
use Rattle.choosing.specs.declared.Chosen.{Chosen}
use Rattle.choosing.specs.Choosing.{selected}
use Rattle.tables.specs.declared.Reference.{Reference}
use Rattle.tables.specs.Tables.{vector_offset, vector_cost, table_of, joined}
use Rattle.best.specs.declared.Task.{Task}
use Rattle.best.specs.declared.Best.{Best}

-- a side of the block that is compared: of a negative block "sides halve"
abbrev pub searched_of : Bool → ℤ → ℕ
searched_of negative side = nat_abs (cond negative (shr_z side 2) side)

-- a table of a plane that is not looked at
abbrev pub no_table : List ℕ
no_table = replicate 50 0

module _ (task : Task) (given : Record) where
  abbrev pub width_of : ℕ
  width_of = searched_of (is_negative given) task.block.x

  abbrev pub height_of : ℕ
  height_of = searched_of (is_negative given) task.block.y

  -- what the block is chosen by: its predictor and window, the record's lambda, and the task's pnew and pel
  abbrev pub choice_of : Choice
  choice_of =
      record {
        x = given.predictor.first;
        y = given.predictor.second;
        least_x = given.window_x.first;
        greatest_x = given.window_x.second;
        least_y = given.window_y.first;
        greatest_y = given.window_y.second;
        lambda = given.lambda;
        pnew = task.pnew;
        pel = task.pel;
      }

  -- ---- luma. "Source sample b comes from overlay while overlay is present and b is under a quarter of the full block": sample (y, x) of the
  -- block compared is b = y x width + x, and the sides of the full block are the task's, whatever the flag
  abbrev pub source_block : List ℕ → Block
  source_block luma y x =
      source_at luma (nat_abs task.source.luma.pitch) given.full given.overlay (nat_abs task.block.x) (nat_abs task.block.y) (y * width_of + x)

  -- candidates stand at the record's position plus the vector
  abbrev pub luma_reference : Reference
  luma_reference =
      record { place = task.reference.luma; x = given.pos.first; y = given.pos.second; shift = pos 0 }

  abbrev pub luma_cost : List ℕ → List ℕ → ℤ → ℤ → ℕ
  luma_cost luma referenceLuma = vector_cost task.measure width_of height_of (source_block luma) referenceLuma task.reference.luma luma_reference

  unfoldable pub luma_table : List ℕ → List ℕ → List ℕ
  luma_table luma referenceLuma = table_of 0 choice_of (luma_cost luma referenceLuma)

  -- ---- "Chroma, plain blocks only, uses the horizontal shift on both axes and is scaled by 4^shift."
  abbrev pub chroma_width : ℕ
  chroma_width = nat_abs (shifted_by task.block.x task.shift)

  abbrev pub chroma_height : ℕ
  chroma_height = nat_abs (shifted_by task.block.y task.shift)

  -- "Reference V starts at the offset worked out for U": U's place gives the offsets of both
  abbrev pub chroma_reference : Reference
  chroma_reference = record { place = task.reference.u; x = given.cpos.first; y = given.cpos.second; shift = task.shift }

  unfoldable pub chroma_offsets : List ℤ
  chroma_offsets = table_of (pos 0) choice_of (vector_offset chroma_reference)

  -- of one chroma plane: its origin and place in the source, and its own place in the reference, "and steps by V's own pitch"
  abbrev pub chroma_cost : Option ℤ → Place → Place → List ℕ → List ℕ → ℤ → ℤ → ℕ
  chroma_cost origin source own samples reference =
      vector_cost task.measure chroma_width chroma_height (placed_from samples origin (nat_abs source.pitch)) reference own chroma_reference

  abbrev pub u_cost : List ℕ → List ℕ → ℤ → ℤ → ℕ
  u_cost u referenceU = chroma_cost given.u task.source.u task.reference.u u referenceU

  abbrev pub v_cost : List ℕ → List ℕ → ℤ → ℤ → ℕ
  v_cost v referenceV = chroma_cost given.v task.source.v task.reference.v v referenceV

  abbrev pub scale_of : ℕ
  scale_of = 4 ^ nat_abs task.shift

  unfoldable pub plane_table : Option ℤ → Place → Place → List ℕ → List ℕ → List ℕ
  plane_table origin source own samples reference = table_of 0 choice_of (chroma_cost origin source own samples reference)

  unfoldable pub chroma_table : List ℕ → List ℕ → List ℕ → List ℕ → List ℕ
  chroma_table u v referenceU referenceV =
      joined scale_of
      (plane_table given.u task.source.u task.reference.u u referenceU)
      (plane_table given.v task.source.v task.reference.v v referenceV)

  -- "plain blocks only": a negative block has no chroma
  unfoldable pub chromas_of : List ℕ → List ℕ → List ℕ → List ℕ → List ℕ
  chromas_of u v referenceU referenceV = cond (is_negative given) no_table (chroma_table u v referenceU referenceV)

  -- ---- "The average is the sum shifted by log2 of the area", over the sides compared, whether the block is bad or not
  abbrev pub average_at : List ℕ → ℤ
  average_at luma = pos (average_of luma (nat_abs task.source.luma.pitch) given.average width_of height_of)

  -- ---- the answer: the vector chosen, its SAD, and the average
  abbrev pub with_average : Chosen → ℤ → Best
  with_average chosen average = record { x = chosen.x; y = chosen.y; sad = chosen.sad; average = average }

  abbrev pub answered : List ℕ → List ℕ → ℤ → Best
  answered lumas chromas average = with_average (selected choice_of (is_bad given) (is_negative given) given.sad lumas chromas) average

  unfoldable pub best_of : List ℕ → List ℕ → List ℕ → List ℕ → List ℕ → List ℕ → Best
  best_of luma u v referenceLuma referenceU referenceV =
      answered (luma_table luma referenceLuma) (chromas_of u v referenceU referenceV) (average_at luma)
