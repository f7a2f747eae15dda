-- The product of the pel, twice, and the shifted height; or none. Assumes nothing.
use Rattle.std.proofs.Common.{◌≡◌, ℕ, ◌*◌, ℤ, FitsSigned, to_z, of_z, to_z-of_z, arith}
use Rattle.std.proofs.Math.IntN.{nat_abs}
use Rattle.std.specs.Int.{w32}
use Rattle.whole.specs.Interval.{fits}
use Rattle.whole.specs.Signed.{got}
use Rattle.limits.specs.Limits.{shifted_by}
use Rattle.limits.specs.Ranges.{pel_within}
use Rattle.level_places.specs.declared.SuperFrame.{SuperFrame}
use Rattle.level_places.specs.Asked.{Rowed}
use Rattle.level_places.specs.Levels.{whole_rows, finest_rows}
use Rattle.level_places.specs.Counted.{whole_most}
use Rattle.level_places.proofs.finest_rows.Goals as goal
use Rattle.level_places.proofs.finest_rows.Goals.{After-size}

-- what the two sizes come to
rows : (f : SuperFrame) (shift : ℤ) {a c : ℕ} {H : ℤ} → Rowed f → FitsSigned w32 shift → a ≡ nat_abs (to_z w32 (of_z w32 f.pel)) →
    H ≡ shifted_by f.frame.y shift → c ≡ nat_abs H → a * a * c ≡ whole_rows f shift
unfolding whole_rows
rows f shift asked fit p r s =
    let pel : FitsSigned w32 f.pel = fits (pel_within f.pel asked.pel_in) tt tt in
    rw (simp to_z-of_z at p, s, r)

counted : (c : After-size) → c.size-pel.result * c.size-pel.result * c.size.result ≡ whole_rows c.args.frame c.args.shift
counted c =
    let height : FitsSigned w32 c.args.frame.frame.y = fits c.requires.height_in tt tt in
    let shift = c.ranges.shift in
    let shifted = got w32 c.shifted.type_inv (simp to_z-of_z at c.shifted.ensures) in
    rows c.args.frame c.args.shift c.requires shift c.size-pel.ensures shifted c.size.ensures

pub overflow_mul-rows-2 : goal.overflow_mul-rows-2
overflow_mul-rows-2 c = rw (counted c) (omega (arith, whole_most c.args.frame c.requires c.args.shift))

pub returns-then-frame-clause-value : goal.returns-then-frame-clause-value
unfolding finest_rows
returns-then-frame-clause-value c = rw c.if-frame.true

pub returns-else-frame-clause-value : goal.returns-else-frame-clause-value
unfolding finest_rows whole_rows
returns-else-frame-clause-value c = rw c.if-frame.false (counted (goal.at.returns-else-frame-clause-value c).After-size)

pub returns-else-frame-clause-upper_bound : goal.returns-else-frame-clause-upper_bound
returns-else-frame-clause-upper_bound c =
    rw (counted (goal.at.returns-else-frame-clause-upper_bound c).After-size) (whole_most c.args.frame c.requires c.args.shift)
