-- The flag, and then the window's sides against the most that the radius gives. Assumes nothing.
use Rattle.std.specs.Prelude.{◌≡◌, ℤ, pos}
use Rattle.std.proofs.Common.{◌∙◌, w64, to_z-of_z}
use Rattle.whole.specs.Truth.{both_alike}
use Rattle.whole.specs.Signed.{got}
use Rattle.whole.specs.Interval.{is_call, within_32, within_more, is_literal, is_mul, is_add}
use Rattle.window.specs.Windows.{is_wide, window_wide}
use Rattle.window.proofs.is_wide.Goals as goal

alike : {m x y M X Y : ℤ} → m ≡ M → x ≡ X → y ≡ Y → window_wide m x y ≡ window_wide M X Y
alike p q r = cc

pub returns : goal.returns
unfolding is_wide
returns c =
    let radius = is_call w64 {l = 2147483648} {h = 2147483648} c.from.type_inv (c.from.ensures ∙ to_z-of_z c.ranges.radius) (within_more (within_32 c.ranges.radius) tt tt) in
    both_alike c.is_bad.ensures
    (c.window_wide.ensures
    ∙ alike
    (is_add (is_mul 2 radius tt tt) (is_literal w64 (pos 1)) tt tt).same
    (got w64 c.side_of.type_inv c.side_of.ensures)
    (got w64 c.side_of-2.type_inv c.side_of-2.ensures))
