-- 02, Three, at the smallest inputs that tell a wrong reading from a right one, by computation.
use Rattle.std.specs.Prelude.{◌≡◌, refl, Bool, true, false, ℤ, pos, negsuc, None}
use Rattle.records.specs.declared.Record.{Record}
use Rattle.window.specs.Windows.{is_searched, is_kept}

-- a record with these flags and this window: x least, x greatest, y least, y greatest
abbrev with_window : ℤ → ℤ → ℤ → ℤ → ℤ → Record
with_window flags left right top bottom =
    record {
      full = None;
      overlay = None;
      u = None;
      v = None;
      average = None;
      pos = record { first = pos 0; second = pos 0 };
      cpos = record { first = pos 0; second = pos 0 };
      predictor = record { first = pos 0; second = pos 0 };
      window_x = record { first = left; second = right };
      window_y = record { first = top; second = bottom };
      sad = pos 0;
      lambda = pos 0;
      flags = flags;
    }

-- searched, and kept
abbrev Said : Record → Bool → Bool → Type 0
Said r searched kept = (is_searched r ≡ searched) × (is_kept r ≡ kept)

-- 1 by 1, as at radius 0, is one candidate
pub one_by_one : Said (with_window (pos 1) (pos 5) (pos 5) (pos 7) (pos 7)) true false
unfolding is_searched is_kept
one_by_one = (refl, refl)

-- -230 by -230: the product of the sides is 52,900, and there is no candidate
pub both_negative : Said (with_window (pos 1) (pos 32) (negsuc 198) (pos 32) (negsuc 198)) false true
unfolding is_searched is_kept
both_negative = (refl, refl)

-- 3 by 0, and 0 by 3
pub no_rows : Said (with_window (pos 1) (pos 0) (pos 2) (pos 0) (negsuc 0)) false true
unfolding is_searched is_kept
no_rows = (refl, refl)

pub no_columns : Said (with_window (pos 1) (pos 0) (negsuc 0) (pos 0) (pos 2)) false true
unfolding is_searched is_kept
no_columns = (refl, refl)

-- 0 by 65,536: kept (and never refused 7: `kept_not_wide`)
pub empty_beside_wide : Said (with_window (pos 1) (pos 0) (negsuc 0) (negsuc 32767) (pos 32767)) false true
unfolding is_searched is_kept
empty_beside_wide = (refl, refl)

-- a record that isn't BAD is neither, with a window or without: flags 2 are NEGATIVE alone
pub fine_with_window : Said (with_window (pos 2) (pos 0) (pos 2) (pos 0) (pos 2)) false false
unfolding is_searched is_kept
fine_with_window = (refl, refl)

pub fine_without : Said (with_window (pos 2) (pos 0) (negsuc 0) (pos 0) (negsuc 0)) false false
unfolding is_searched is_kept
fine_without = (refl, refl)
