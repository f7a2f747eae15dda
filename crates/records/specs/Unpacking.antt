-- What 12 words hold: any 12 words. 01, "Planning": "In a word, i32::MIN is absent. Words read may hold any lambda." Definitions alone.
use Rattle.std.specs.Prelude.{Bool, true, false, ℤ, pos, None, Option, Some}
use Rattle.std.specs.Int.Signed.{lt_z, shr_z}
use Rattle.std.specs.Int.{w16}
use Rattle.whole.specs.Numbers.{mod_z, wrapped}
use Rattle.records.specs.declared.Pair.{Pair}
use Rattle.records.specs.declared.Record.{Record}
use Rattle.records.specs.declared.Words.{Words}
use Rattle.records.specs.Packing.{absent_word}

abbrev pick_offset : Bool → Option ℤ → Option ℤ → Option ℤ
pick_offset true a b = a
pick_offset false a b = b

-- every word above the least is a place
abbrev pub offset_of : ℤ → Option ℤ
offset_of word = pick_offset (lt_z absent_word word) (Some word) None

-- the low 16 bits, signed, and the rest, which is the word divided by 65536 rounding down
abbrev pub pair_of : ℤ → Pair
pair_of word = record { first = wrapped w16 word; second = shr_z word 65536 }

unfoldable pub record_of : Words → Record
record_of w =
    record {
      full = offset_of w.full;
      overlay = offset_of w.overlay;
      u = offset_of w.u;
      v = offset_of w.v;
      average = offset_of w.average;
      pos = pair_of w.pos;
      cpos = pair_of w.cpos;
      predictor = pair_of w.predictor;
      window_x = pair_of w.window_x;
      window_y = pair_of w.window_y;
      sad = w.sad;
      lambda = shr_z w.last 4;
      flags = pos (mod_z w.last 4);
    }
