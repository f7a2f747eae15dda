-- A record's 12 words, and when a record fits them. 01, "Planning":
-- "Record words: full, overlay, u, v, average; pairs position, chroma position (both x pel), predictor, x window, y window; SAD; lambda x 4 + flags
-- (BAD 1, NEGATIVE 2). Pairs fit i16, lambda is from -2^28 to 2^28 - 1, flags are 0 to 3, and no present offset is i32::MIN; any other record doesn't fit."
-- Definitions alone.
use Rattle.std.specs.Prelude.{Bool, true, ◌&&◌, cond, ℕ, ℤ, pos, negsuc, ◌+ℤ◌, ◌*ℤ◌, None, Option, Some}
use Rattle.std.specs.Int.Signed.{lt_z}
use Rattle.std.specs.Int.{w32}
use Rattle.whole.specs.Numbers.{lies_in, mod_z, wrapped, fits_i16}
use Rattle.records.specs.declared.Pair.{Pair}
use Rattle.records.specs.declared.Record.{Record}
use Rattle.records.specs.declared.Words.{Words}

-- ---- an offset: "In a word, i32::MIN is absent."
abbrev pub absent_word : ℤ
absent_word = negsuc 2147483647

abbrev pub offset_word : Option ℤ → ℤ
offset_word (Some place) = place
offset_word None = absent_word

abbrev pub offset_fits : Option ℤ → Bool
offset_fits (Some place) = lt_z absent_word place
offset_fits None = true

-- ---- a pair: the first part's 16 bits low, the second's high
abbrev pub pair_fits : Pair → Bool
pair_fits pair = fits_i16 pair.first && fits_i16 pair.second

abbrev pub pair_word : Pair → ℤ
pair_word pair = wrapped w32 (pair.second *ℤ pos 65536 +ℤ pos (mod_z pair.first 65536))

unfoldable pub packed_pair : ℤ → ℤ → Option ℤ
packed_pair first second =
    let pair : Pair = record { first = first; second = second } in
    cond (pair_fits pair) (Some (pair_word pair)) None

-- ---- the last word: lambda x 4 + flags
abbrev pub lambda_fits : ℤ → Bool
lambda_fits lambda = lies_in (negsuc 268435455) (pos 268435455) lambda

abbrev pub last_fits : ℤ → ℤ → Bool
last_fits lambda flags = lambda_fits lambda && lies_in (pos 0) (pos 3) flags

abbrev pub last_word : ℤ → ℤ → ℤ
last_word lambda flags = wrapped w32 (lambda *ℤ pos 4 +ℤ flags)

-- ---- a record
abbrev pub offsets_fit : Record → Bool
offsets_fit r = offset_fits r.full && offset_fits r.overlay && offset_fits r.u && offset_fits r.v && offset_fits r.average

abbrev pub pairs_fit : Record → Bool
pairs_fit r = pair_fits r.pos && pair_fits r.cpos && pair_fits r.predictor && pair_fits r.window_x && pair_fits r.window_y

unfoldable pub record_fits : Record → Bool
record_fits r = offsets_fit r && pairs_fit r && last_fits r.lambda r.flags

unfoldable pub record_words : Record → Words
record_words r =
    record {
      full = offset_word r.full;
      overlay = offset_word r.overlay;
      u = offset_word r.u;
      v = offset_word r.v;
      average = offset_word r.average;
      pos = pair_word r.pos;
      cpos = pair_word r.cpos;
      predictor = pair_word r.predictor;
      window_x = pair_word r.window_x;
      window_y = pair_word r.window_y;
      sad = r.sad;
      last = last_word r.lambda r.flags;
    }

unfoldable pub packed_record : Record → Option Words
packed_record r = cond (record_fits r) (Some (record_words r)) None

-- ---- 01's numbers for the answers: 0 done, 6 "in planning or packing, a record doesn't fit"
abbrev pub pair_number : Option ℤ → ℕ
pair_number (Some word) = 0
pair_number None = 6

abbrev pub record_number : Option Words → ℕ
record_number (Some words) = 0
record_number None = 6
