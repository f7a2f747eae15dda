-- Records in a list of words, 12 words each; and 01's refusal 7 asked of the first so many. Definitions alone.
use Rattle.std.specs.Prelude.{Bool, List, ℕ, ◌+◌, ◌*◌, ℤ, pos, get_or}
use Rattle.limits.specs.Sizes.{words_per_record}
use Rattle.limits.specs.Refusals.{any_upto}
use Rattle.records.specs.declared.Record.{Record}
use Rattle.records.specs.declared.Words.{Words}
use Rattle.records.specs.Unpacking.{record_of}
use Rattle.window.specs.Windows.{is_wide}

unfoldable pub words_from : List ℤ → ℕ → Words
words_from records at =
    record {
      full = get_or records at (pos 0);
      overlay = get_or records (at + 1) (pos 0);
      u = get_or records (at + 2) (pos 0);
      v = get_or records (at + 3) (pos 0);
      average = get_or records (at + 4) (pos 0);
      pos = get_or records (at + 5) (pos 0);
      cpos = get_or records (at + 6) (pos 0);
      predictor = get_or records (at + 7) (pos 0);
      window_x = get_or records (at + 8) (pos 0);
      window_y = get_or records (at + 9) (pos 0);
      sad = get_or records (at + 10) (pos 0);
      last = get_or records (at + 11) (pos 0);
    }

unfoldable pub record_at : List ℤ → ℕ → Record
record_at records i = record_of (words_from records (words_per_record * i))

-- "7: a BAD record's window has both sides non-empty and one over 2 x radius + 1"
abbrev pub any_wide : ℤ → List ℤ → ℕ → Bool
any_wide radius records n = any_upto (λ i. is_wide radius (record_at records i)) n
