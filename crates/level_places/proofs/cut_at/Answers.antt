-- Both sides, shifted, and the level's pel. Assumes nothing.
use Rattle.std.proofs.Common.{◌≡◌, ℕ, ℤ, FitsSigned, to_z, of_z, to_z-of_z, rules}
use Rattle.std.specs.Int.{w32}
use Rattle.whole.specs.Signed.{got}
use Rattle.limits.specs.Limits.{shifted_by}
use Rattle.plane.specs.declared.Place.{Place}
use Rattle.level_places.specs.Levels.{plane_size, cut_at}
use Rattle.level_places.proofs.cut_at.Goals as goal

-- what `plane_size` gave, shifted
side : {r given size : ℤ} (s : ℤ) → given ≡ size → r ≡ shifted_by given s → r ≡ shifted_by size s
side s p q = cc

alike : {b : ℕ} {p w h l P W H L : ℤ} → p ≡ P → w ≡ W → h ≡ H → l ≡ L →
    ◌≡◌ {A = Place} (record { base = b; pitch = p; width = w; height = h; pel = l }) (record { base = b; pitch = P; width = W; height = H; pel = L })
alike p q r s = cc

pub returns : goal.returns
unfolding cut_at
returns c =
    let f = c.args.frame in
    let shift = c.args.shift in
    let level : FitsSigned w32 f.level = search rules in
    let x : FitsSigned w32 f.frame.x = search rules in
    let y : FitsSigned w32 f.frame.y = search rules in
    let sx : FitsSigned w32 shift.x = search rules in
    let sy : FitsSigned w32 shift.y = search rules in
    let width : to_z w32 (of_z w32 c.plane_size.result) ≡ plane_size f.frame.x f.level = got w32 c.plane_size.type_inv (simp to_z-of_z at c.plane_size.ensures) in
    let height : to_z w32 (of_z w32 c.plane_size-2.result) ≡ plane_size f.frame.y f.level = got w32 c.plane_size-2.type_inv (simp to_z-of_z at c.plane_size-2.ensures) in
    alike (to_z-of_z c.ranges.pitch)
    (got w32 c.shifted.type_inv (side shift.x width (rw (to_z-of_z sx) at c.shifted.ensures)))
    (got w32 c.shifted-2.type_inv (side shift.y height (rw (to_z-of_z sy) at c.shifted-2.ensures)))
    (got w32 c.pel_of.type_inv c.pel_of.ensures)
