-- In front of a level that is not 0 are the finest rows and those of the levels between, each of pitch bytes. Assumes nothing.
use Rattle.std.proofs.Common.{◌≡◌, ap, ◌∙◌, ℕ, ◌+◌, ◌-◌, ◌*◌, ◌≤◌, mul-le-mul, arith, FitsSigned, to_z-of_z}
use Rattle.std.proofs.Math.IntN.{nat_abs}
use Rattle.std.specs.Int.{w32}
use Rattle.whole.specs.Interval.{fits}
use Rattle.level_places.specs.Levels.{turns_of, reduced_rows}
use Rattle.level_places.specs.Counted.{size_below, some_before}
use Rattle.level_places.proofs.level_offset.Goals as goal

product : {a b p A B P : ℕ} → a ≡ A → b ≡ B → p ≡ P → (a + b) * p ≡ (A + B) * P
product e f g = cc

pub overflow_mul-result : goal.overflow_mul-result
overflow_mul-result c =
    let fit = c.ranges.pitch in
    let pitch = size_below 65536 c.requires.within (omega arith) (omega arith) in
    let pitch_is : c.size.result ≡ nat_abs c.args.pitch = simp to_z-of_z at c.size.ensures in
    let finest = c.finest_rows.ensures.upper_bound in
    let reduced = c.reduced_rows.ensures.upper_bound in
    let rows : c.finest_rows.result + c.reduced_rows.result ≤ 32212516864 = omega arith in
    rw pitch_is (omega (arith, mul-le-mul rows pitch))

pub returns : goal.returns
returns c =
    let f = c.args.frame in
    let shift = c.ranges.shift in
    let fit = c.ranges.pitch in
    let level : FitsSigned w32 f.level = fits c.requires.rowed.level_in tt tt in
    let height : FitsSigned w32 f.frame.y = fits c.requires.rowed.height_in tt tt in
    let n : c.turns_of-n.result ≡ turns_of f.level = simp to_z-of_z at c.turns_of-n.ensures in
    let pitch_is : c.size.result ≡ nat_abs c.args.pitch = simp to_z-of_z at c.size.ensures in
    let between : c.reduced_rows.result ≡ reduced_rows f.frame.y c.args.shift (turns_of f.level - 1) =
    simp to_z-of_z at c.reduced_rows.ensures.value ∙ ap (λ (k : ℕ). reduced_rows f.frame.y c.args.shift (k - 1)) n
    in
    product (simp to_z-of_z at c.finest_rows.ensures.value) between pitch_is
    ∙ ap (λ (rows : ℕ). rows * nat_abs c.args.pitch) (some_before f c.args.shift c.requires.rowed.level_in (λ e. c.if-n-eq0.false (n ∙ e)))
