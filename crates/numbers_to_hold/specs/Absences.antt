-- 02, "Two", as numbers: at pel 2 a plane of 16x16 whose data end behind the first subplane, and a block of 8x8 at (0,0). Each row counts what is absent at a
-- vector. Definitions alone; the theorem is Table's.
use Rattle.std.specs.Prelude.{false, List, [], ◌∷◌, ℕ, ℤ, pos, negsuc, replicate, None}
use Rattle.records.specs.declared.Pair.{Pair}
use Rattle.records.specs.declared.Record.{Record}
use Rattle.window.specs.Windows.{is_bad}
use Rattle.plane.specs.declared.Place.{Place}
use Rattle.planes.specs.declared.Planes.{Planes}
use Rattle.best.specs.declared.Task.{Task}
use Rattle.five_numbers.specs.Five.{absences_of, number_of, absent_at}
use Rattle.numbers_to_hold.specs.Rows.{Row, is}

abbrev pair : ℤ → ℤ → Pair
pair x y = record { first = x; second = y }

abbrev place : Place
place = record { base = 0; pitch = pos 16; width = pos 16; height = pos 16; pel = pos 2 }

abbrev planes : Planes
planes = record { luma = place; u = place; v = place }

abbrev task : Task
task =
    record {
      measure = false;
      block = record { x = pos 8; y = pos 8 };
      shift = pos 0;
      pnew = pos 0;
      pel = pos 2;
      source = planes;
      reference = planes;
    }

-- flags 1 is BAD, 3 BAD and NEGATIVE, 0 neither
abbrev given : ℤ → Record
given flags =
    record {
      full = None;
      overlay = None;
      u = None;
      v = None;
      average = None;
      pos = pair (pos 0) (pos 0);
      cpos = pair (pos 0) (pos 0);
      predictor = pair (pos 0) (pos 0);
      window_x = pair (pos 0) (negsuc 0);
      window_y = pair (pos 0) (negsuc 0);
      sad = pos 0;
      lambda = pos 0;
      flags = flags;
    }

abbrev bytes : List ℕ
bytes = replicate 256 0

-- the fifth number, if (x, 0) is the vector answered
abbrev fifth : ℤ → ℤ → List ℤ
fifth flags x = number_of (absences_of (is_bad (given flags)) (absent_at task (given flags) bytes bytes bytes x (pos 0))) ∷ []

unfoldable pub of_absences : List Row
of_absences =
    -- every sample is black, and there
    is (fifth (pos 1) (pos 0)) (pos 0 ∷ [])
    -- at half a pel none is: 64 in each plane, and 16 of a negative block
    ∷ is (fifth (pos 1) (pos 1)) (pos 192 ∷ [])
    ∷ is (fifth (pos 3) (pos 1)) (pos 16 ∷ [])
    -- from offset 255 on: one byte of each plane is the data's last
    ∷ is (fifth (pos 1) (negsuc 0)) (pos 189 ∷ [])
    -- from offset -1 on: one byte of each plane lies before the data; the others of column -1 end the row above
    ∷ is (fifth (pos 1) (negsuc 1)) (pos 3 ∷ [])
    -- a block that wasn't bad
    ∷ is (fifth (pos 0) (pos 1)) (negsuc 0 ∷ [])
    ∷ []
