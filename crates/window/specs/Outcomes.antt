-- 02, Three: what becomes of a bad record. It is searched or kept, and never both; one that isn't bad is neither. And 7 is never given for one that
-- is kept: an empty side beside one of 65,536 is not refused. Assumes nothing.
use Rattle.std.specs.Prelude.{◌≡◌, refl, Bool, true, false, ◌&&◌, ◌||◌, not, cond, ◌+◌, ℤ}
use Rattle.std.specs.Int.Signed.{lt_z}
use Rattle.whole.specs.Signed.{holds}
use Rattle.records.specs.declared.Record.{Record}
use Rattle.window.specs.Windows.{is_bad, side_of, has_candidate, is_searched, is_kept, most_of, is_wide}

-- ---- of two tests, whatever they are
either : (bad some : Bool) → bad ≡ ((bad && some) || (bad && not some))
either true true = refl
either true false = refl
either false some = refl

neither : (bad some : Bool) → ((bad && some) && (bad && not some)) ≡ false
neither true true = refl
neither true false = refl
neither false some = refl

one_of : (bad some : Bool) → cond (bad && some) 1 0 + cond (bad && not some) 1 0 ≡ cond bad 1 0
one_of true true = refl
one_of true false = refl
one_of false some = refl

without : (bad some over : Bool) → (bad && not some) ≡ true → (bad && (some && over)) ≡ false
without true true over e = absurd (holds e)
without true false over e = refl
without false some over e = refl

module _ (r : Record) where
  -- ---- BAD exactly when searched or kept, and never both
  pub searched_or_kept : is_bad r ≡ (is_searched r || is_kept r)
  unfolding is_searched is_kept
  searched_or_kept = either (is_bad r) (has_candidate r)

  pub never_both : (is_searched r && is_kept r) ≡ false
  unfolding is_searched is_kept
  never_both = neither (is_bad r) (has_candidate r)

  -- counted: one for a record that is searched and one for a record that is kept come to one for a bad record
  pub counts_once : cond (is_searched r) 1 0 + cond (is_kept r) 1 0 ≡ cond (is_bad r) 1 0
  unfolding is_searched is_kept
  counts_once = one_of (is_bad r) (has_candidate r)

  -- ---- a kept record is never refused 7, whatever the radius and however wide the side that is not empty
  pub kept_not_wide : (radius : ℤ) → is_kept r ≡ true → is_wide radius r ≡ false
  unfolding is_kept is_wide
  kept_not_wide radius e =
      let most = most_of radius in
      without (is_bad r) (has_candidate r) (lt_z most (side_of r.window_x) || lt_z most (side_of r.window_y)) e
