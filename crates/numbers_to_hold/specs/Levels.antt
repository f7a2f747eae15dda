-- 02, "One", as numbers: a frame of 10x10 at pel 2 with shifts (1,1) and pitch 16, its levels, and each refusal. A row gives the definition that an entry's
-- contract cites a smallest input. Definitions alone; the theorem is Table's.
use Rattle.refusals.specs.declared.Refusal.{Refusal}
use Rattle.planes.specs.declared.Planes.{Planes}
use Rattle.refusals.specs.Numbers.{number_of}
use Rattle.std.specs.Prelude.{Bool, true, false, List, [], ◌∷◌, ℕ, ℤ, pos, negsuc, Err, Ok, Result}
use Rattle.level_places.specs.declared.Pitches.{Pitches}
use Rattle.level_places.specs.declared.SuperFrame.{SuperFrame}
use Rattle.level_places.specs.Levels.{plane_size}
use Rattle.levels.specs.Refusals.{level_answer}
use Rattle.levels.specs.Numbers.{planes_numbers, given_number}
use Rattle.numbers_to_hold.specs.Rows.{Row, is}

-- an answer as numbers: 0 and the fifteen, or the refusal's alone
abbrev listed : Result Planes Refusal → List ℤ
listed (Ok planes) = pos 0 ∷ planes_numbers planes
listed (Err refusal) = pos (number_of refusal) ∷ []

abbrev pitches : ℤ → Pitches
pitches pitch = record { luma = pitch; u = pitch; v = pitch }

abbrev frame : ℤ → ℤ → ℤ → Bool → SuperFrame
frame pel level pitch separate =
    record {
      frame = record { x = pos 10; y = pos 10 };
      shift = record { x = pos 1; y = pos 1 };
      pel = pel;
      level = level;
      pitch = pitches pitch;
      separate = separate;
      source_pitch = pitches (pos 16);
    }

-- packed planes of so many bytes, luma's and chroma's, and a source of so many
abbrev level : SuperFrame → ℕ → ℕ → ℕ → ℕ → Result Planes Refusal
level f luma chroma source sourceChroma = level_answer f luma chroma chroma source sourceChroma sourceChroma

abbrev packed : ℤ → Result Planes Refusal
packed n = level (frame (pos 2) n (pos 16) false) 722 353 0 0

abbrev sizes : ℤ → List ℤ
sizes size = plane_size size (pos 0) ∷ plane_size size (pos 1) ∷ plane_size size (pos 2) ∷ plane_size size (pos 3) ∷ plane_size size (pos 4) ∷ []

unfoldable pub of_levels : List Row
of_levels =
    -- `plane_size`: 10, 4, 2, 0; 1080, 540, 270, 134, 66
    is (sizes (pos 10)) (pos 10 ∷ pos 4 ∷ pos 2 ∷ pos 0 ∷ pos 0 ∷ [])
    ∷ is (sizes (pos 1080)) (pos 1080 ∷ pos 540 ∷ pos 270 ∷ pos 134 ∷ pos 66 ∷ [])
    -- `level`: level 0 with the frame's pel; level 1 behind its 4 x 10 rows of luma and 4 x 5 of chroma, level 2 behind 4 and 2 more
    ∷ is (listed (packed (pos 0)))
    (pos 0 ∷ pos 0 ∷ pos 16 ∷ pos 10 ∷ pos 10 ∷ pos 2 ∷ pos 0 ∷ pos 16 ∷ pos 5 ∷ pos 5 ∷ pos 2 ∷ pos 0 ∷ pos 16 ∷ pos 5 ∷ pos 5 ∷ pos 2 ∷ [])
    ∷ is (listed (packed (pos 1)))
    (pos 0 ∷ pos 640 ∷ pos 16 ∷ pos 4 ∷ pos 4 ∷ pos 1 ∷ pos 320 ∷ pos 16 ∷ pos 2 ∷ pos 2 ∷ pos 1 ∷ pos 320 ∷ pos 16 ∷ pos 2 ∷ pos 2 ∷ pos 1 ∷ [])
    ∷ is (listed (packed (pos 2)))
    (pos 0 ∷ pos 704 ∷ pos 16 ∷ pos 2 ∷ pos 2 ∷ pos 1 ∷ pos 352 ∷ pos 16 ∷ pos 1 ∷ pos 1 ∷ pos 1 ∷ pos 352 ∷ pos 16 ∷ pos 1 ∷ pos 1 ∷ pos 1 ∷ [])
    -- beside a separate source level 1 is the first of its plane, and level 0 the source itself, at the frame's pel
    ∷ is (listed (level (frame (pos 2) (pos 1) (pos 16) true) 52 18 0 0))
    (pos 0 ∷ pos 0 ∷ pos 16 ∷ pos 4 ∷ pos 4 ∷ pos 1 ∷ pos 0 ∷ pos 16 ∷ pos 2 ∷ pos 2 ∷ pos 1 ∷ pos 0 ∷ pos 16 ∷ pos 2 ∷ pos 2 ∷ pos 1 ∷ [])
    ∷ is (listed (level (frame (pos 2) (pos 0) (pos 16) true) 0 0 154 69))
    (pos 0 ∷ pos 0 ∷ pos 16 ∷ pos 10 ∷ pos 10 ∷ pos 2 ∷ pos 0 ∷ pos 16 ∷ pos 5 ∷ pos 5 ∷ pos 2 ∷ pos 0 ∷ pos 16 ∷ pos 5 ∷ pos 5 ∷ pos 2 ∷ [])
    -- 2: another pel; a pitch under the frame's width, which is wide enough for level 1
    ∷ is (listed (level (frame (pos 3) (pos 16) (pos 16) false) 0 0 0 0)) (pos 2 ∷ [])
    ∷ is (listed (level (frame (pos 2) (pos 1) (pos 9) false) 722 353 0 0)) (pos 2 ∷ [])
    ∷ is (listed (level (frame (pos 2) (pos 1) (pos 9) true) 31 11 0 0))
    (pos 0 ∷ pos 0 ∷ pos 9 ∷ pos 4 ∷ pos 4 ∷ pos 1 ∷ pos 0 ∷ pos 9 ∷ pos 2 ∷ pos 2 ∷ pos 1 ∷ pos 0 ∷ pos 9 ∷ pos 2 ∷ pos 2 ∷ pos 1 ∷ [])
    -- 9: "when the level is outside 0 to 15 or a side comes to 0, asked between 2 and 3"
    ∷ is (listed (level (frame (pos 2) (negsuc 0) (pos 16) false) 0 0 0 0)) (pos 9 ∷ [])
    ∷ is (listed (level (frame (pos 2) (pos 16) (pos 16) false) 0 0 0 0)) (pos 9 ∷ [])
    ∷ is (listed (packed (pos 3))) (pos 9 ∷ [])
    -- 3: one byte of luma too few for level 2; and 5 behind it
    ∷ is (listed (level (frame (pos 2) (pos 2) (pos 16) false) 721 353 0 0)) (pos 3 ∷ [])
    ∷ is (pos (given_number (level (frame (pos 2) (pos 2) (pos 16) false) 721 353 0 0) 0) ∷ []) (pos 3 ∷ [])
    ∷ is (pos (given_number (packed (pos 2)) 14) ∷ []) (pos 5 ∷ [])
    ∷ is (pos (given_number (packed (pos 2)) 15) ∷ []) (pos 0 ∷ [])
    ∷ []
