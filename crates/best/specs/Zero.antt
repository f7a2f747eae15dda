-- All samples compared at a vector agree: luma's, and of a plain block U's and V's. A sample outside the data, or without an offset, counts 0 on either side.
-- Definitions alone. The zero law, which speaks of it, is in proofs/Zero.
use Rattle.std.specs.Prelude.{◌≡◌, false, List, ℕ, ℤ, nat_abs}
use Rattle.records.specs.declared.Record.{Record}
use Rattle.window.specs.Windows.{is_negative}
use Rattle.distance.specs.Laws.{Agree}
use Rattle.plane.specs.Samples.{placed_from}
use Rattle.plane_view.specs.View.{place_block}
use Rattle.tables.specs.Tables.{vector_offset}
use Rattle.best.specs.declared.Task.{Task}
use Rattle.best.specs.Best.{width_of, height_of, source_block, luma_reference}
use Rattle.best.specs.Best.{chroma_width, chroma_height, chroma_reference}

module _ (task : Task) (given : Record) (luma u v referenceLuma referenceU referenceV : List ℕ) where
  -- ---- all samples compared at a vector agree
  pub record AgreeAt (x y : ℤ) : Type 0 where
    pub in_luma :
        Agree (width_of task given) (height_of task given)
        (source_block task given luma) (place_block referenceLuma task.reference.luma (vector_offset (luma_reference task given) x y))
    pub in_u : is_negative given ≡ false →
        Agree (chroma_width task given) (chroma_height task given)
        (placed_from u given.u (nat_abs task.source.u.pitch)) (place_block referenceU task.reference.u (vector_offset (chroma_reference task given) x y))
    pub in_v : is_negative given ≡ false →
        Agree (chroma_width task given) (chroma_height task given)
        (placed_from v given.v (nat_abs task.source.v.pitch)) (place_block referenceV task.reference.v (vector_offset (chroma_reference task given) x y))
