-- A vector that is handed to `vector_offset`, the offset that comes back, and a count from there: of luma and of chroma alike. Assumes nothing.
use mathlib.Core.Path.{◌≡◌, ◌∙◌}
use mathlib.Core.List.{List}
use Prim.Native.Nat.{ℕ, ◌^◌, ◌<◌}
use lib.IntN.{ℤ}
use lib.Signed.{mag}
use mir.Syntax.{w32, w64}
use mir.Val.{to_z, of_z, hbits}
use Rattle.whole.specs.Signed.{got}
use Rattle.whole.specs.Interval.{Is, is_within}
use Rattle.plane.specs.declared.Place.{Place}
use Rattle.absent_reads.specs.Absent.{place_absent}
use Rattle.tables.specs.declared.Reference.{Reference}
use Rattle.tables.specs.Tables.{vector_offset}
use Rattle.five_numbers.specs.Asked.{Aimed}

alike : {r R : Reference} {a b A B : ℤ} → r ≡ R → a ≡ A → b ≡ B → vector_offset r a b ≡ vector_offset R A B
alike e f g = cc

module _ {x y : ℤ} (aim : Aimed x y) {r R : Reference} (same : r ≡ R) where
  across : Is w32 32768 65536 (to_z w32 (of_z w32 x)) x
  across = is_within w32 aim.x_in tt tt

  down : Is w32 32768 65536 (to_z w32 (of_z w32 y)) y
  down = is_within w32 aim.y_in tt tt

  -- what is answered
  module _ {z : ℤ} (fits : mag z < 2 ^ hbits w64) (told : z ≡ vector_offset r (to_z w32 (of_z w32 x)) (to_z w32 (of_z w32 y))) where
    pub offset_is : to_z w64 (of_z w64 z) ≡ vector_offset R x y
    offset_is = got w64 fits (told ∙ alike same across.same down.same)

-- counts of equal parts are equal
pub same_count : (samples : List ℕ) {p P : Place} {a A : ℤ} {w W h H : ℕ} → p ≡ P → a ≡ A → w ≡ W → h ≡ H → place_absent samples p a w h ≡ place_absent samples P A W H
same_count samples d e f g = cc
