-- The levels of a super frame: 02, "One", and the rules of planes.rs that it names: `plane_size`, `level_offset`, `SuperFrameView::level`. A super frame's
-- numbers are as a caller lends them: any numbers. Definitions alone.
use Rattle.std.specs.Prelude.{Bool, ◌&&◌, cond, ℕ, zero, suc, ◌+◌, ◌*◌, ℤ, pos, negsuc, ◌*ℤ◌, nat_abs}
use Rattle.std.specs.Int.Signed.{quot_z}
use Rattle.limits.specs.Limits.{same, shifted_by}
use Rattle.plane.specs.declared.Place.{Place}
use Rattle.planes.specs.declared.Sides.{Sides}
use Rattle.planes.specs.declared.Planes.{Planes}
use Rattle.level_places.specs.declared.SuperFrame.{SuperFrame}

-- ---- `plane_size`: 2 x (size / 4), so many times
unfoldable pub size_after : ℕ → ℤ → ℤ
size_after zero size = size
size_after (suc n) size = pos 2 *ℤ quot_z (size_after n size) (pos 4)

-- how many numbers `0..level` has
abbrev pub turns_of : ℤ → ℕ
turns_of (pos n) = n
turns_of (negsuc n) = 0

abbrev pub plane_size : ℤ → ℤ → ℤ
plane_size size level = size_after (turns_of level) size

-- ---- `level_offset`: where a level starts in a packed plane. Rows are counted, and a row takes `pitch` bytes.
-- level 0 with its subplanes: "self.pel * self.pel" times "self.height >> y_shift"
unfoldable pub whole_rows : SuperFrame → ℤ → ℕ
whole_rows f shift = nat_abs f.pel * nat_abs f.pel * nat_abs (shifted_by f.frame.y shift)

-- `finest_rows`: those, or none where there is a separate source
unfoldable pub finest_rows : SuperFrame → ℤ → ℕ
finest_rows f shift = cond f.separate 0 (whole_rows f shift)

-- one reduced level: "plane_size(self.height, lv) >> y_shift"
unfoldable pub level_rows : ℤ → ℤ → ℕ → ℕ
level_rows height shift lv = nat_abs (shifted_by (size_after lv height) shift)

-- `reduced_rows`: levels 1 to n, one below the other
unfoldable pub reduced_rows : ℤ → ℤ → ℕ → ℕ
reduced_rows height shift zero = 0
reduced_rows height shift (suc n) = reduced_rows height shift n + level_rows height shift (suc n)

-- the rows in front of a level: none in front of level 0
abbrev pub rows_before : SuperFrame → ℤ → ℤ → ℕ
rows_before f (pos zero) shift = 0
rows_before f (pos (suc n)) shift = finest_rows f shift + reduced_rows f.frame.y shift n
rows_before f (negsuc n) shift = finest_rows f shift

abbrev pub level_offset : SuperFrame → ℤ → ℤ → ℤ → ℕ
level_offset f level pitch shift = rows_before f level shift * nat_abs pitch

-- ---- `level`: the three planes
-- Level 0 is the source's own where there is a separate one. Every other level is packed.
abbrev pub is_finest : SuperFrame → Bool
is_finest f = same (pos 0) f.level

abbrev pub from_source : SuperFrame → Bool
from_source f = f.separate && is_finest f

-- level 0 has the frame's pel, every other level pel 1
abbrev pub level_pel : SuperFrame → ℤ
level_pel f = cond (is_finest f) f.pel (pos 1)

-- a plane of the level's sides, which for chroma are shifted afterwards
unfoldable pub cut_at : SuperFrame → Sides → ℕ → ℤ → Place
cut_at f shift base pitch =
    record {
      base = base;
      pitch = pitch;
      width = shifted_by (plane_size f.frame.x f.level) shift.x;
      height = shifted_by (plane_size f.frame.y f.level) shift.y;
      pel = level_pel f;
    }

-- from the source's first byte, or from the level's first in the raw plane
unfoldable pub place_of : SuperFrame → Sides → ℤ → ℤ → Place
place_of f shift pitch sourcePitch =
    cond (from_source f) (cut_at f shift 0 sourcePitch) (cut_at f shift (level_offset f f.level pitch shift.y) pitch)

-- luma is not shifted
abbrev pub unshifted : Sides
unshifted = record { x = pos 0; y = pos 0 }

unfoldable pub planes_of : SuperFrame → Planes
planes_of f =
    record {
      luma = place_of f unshifted f.pitch.luma f.source_pitch.luma;
      u = place_of f f.shift f.pitch.u f.source_pitch.u;
      v = place_of f f.shift f.pitch.v f.source_pitch.v;
    }
