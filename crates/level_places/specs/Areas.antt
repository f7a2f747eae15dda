-- Where a level lies in its raw plane, in rows and in bytes: 02, "One": "Areas of two levels of the same packed plane share no row where their rows fit the
-- buffer." Definitions alone.
use Rattle.std.specs.Prelude.{◌≡◌, true, ℕ, zero, suc, ◌+◌, ◌*◌, ◌≤◌, ◌<◌, ℤ, pos, nat_abs, ◌<ℤ◌}
use Rattle.plane.specs.declared.Place.{Place}
use Rattle.level_places.specs.declared.SuperFrame.{SuperFrame}
use Rattle.level_places.specs.Levels.{whole_rows, level_rows, rows_before}

-- the same frame, asked for level n
abbrev pub at_level : SuperFrame → ℕ → SuperFrame
at_level f n =
    record {
      frame = f.frame;
      shift = f.shift;
      pel = f.pel;
      level = pos n;
      pitch = f.pitch;
      separate = f.separate;
      source_pitch = f.source_pitch;
    }

-- Every level lies in the packed planes, but the finest of a frame whose source lies apart.
abbrev pub Packed : SuperFrame → ℕ → Type 0
Packed f n = f.separate ≡ true → 0 < n

-- ---- in rows of a packed plane, whose rows are shifted so far: level 0 with its pel x pel subplanes, every other level its own
abbrev pub area_rows : SuperFrame → ℤ → ℕ → ℕ
area_rows f shift zero = whole_rows f shift
area_rows f shift (suc n) = level_rows f.frame.y shift (suc n)

pub record InArea (f : SuperFrame) (shift : ℤ) (n row : ℕ) : Type 0 where
  pub from : rows_before f (pos n) shift ≤ row
  pub to : row < rows_before f (pos n) shift + area_rows f shift n

-- ---- in bytes of a plane: so many columns of each row, in each of its pel x pel subplanes, which stand one below the other
pub record Covers (p : Place) (byte : ℕ) : Type 0 where
  pub row : ℕ
  pub column : ℕ
  pub row_in : row < nat_abs p.pel * nat_abs p.pel * nat_abs p.height
  pub column_in : pos column <ℤ p.width
  pub at : byte ≡ p.base + (row * nat_abs p.pitch + column)
