-- A plan whose records all fit is never refused 7 by evaluating with the same radius. Assumes nothing.
use Rattle.std.specs.Prelude.{◌≡◌, true, false, List, ◌++◌, ℕ, ℤ}
use Rattle.std.proofs.Common.{ap, ◌∙◌}
use Rattle.limits.specs.Limits.{radius_of}
use Rattle.limits.specs.Refused.{none_passes}
use Rattle.window.specs.Windows.{is_wide}
use Rattle.record_slice.specs.RecordSlice.{record_at, any_wide}
use Rattle.block.specs.declared.Settings.{Settings}
use Rattle.passes.specs.Fold.{block_at, slots_at, all_fit, words_upto}
use Rattle.plan_laws.specs.Windows.{planned_narrow}
use Rattle.plan_laws.specs.ReadBack.{record_read}

module _ (s : Settings) (order vectors : List ℤ) where
  pub never_wide : (n : ℕ) (tail : List ℤ) → all_fit s order vectors n ≡ true →
      any_wide (radius_of s.search.search_param) (words_upto s order vectors n ++ tail) n ≡ false
  never_wide n tail fit =
      none_passes (λ i. is_wide (radius_of s.search.search_param) (record_at (words_upto s order vectors n ++ tail) i)) n
      (λ i l.
      ap (is_wide (radius_of s.search.search_param)) (record_read s order vectors n i tail l fit)
      ∙ planned_narrow s (block_at s.grid order vectors i) (slots_at s order vectors i))
