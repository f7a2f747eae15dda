-- A pel whose bits are those of 1 is 1, and no other's are. Assumes nothing.
use Rattle.std.proofs.Common.{◌≡◌, refl, sym, ap, ◌∙◌, Bool, true, false, cond, ℤ, pos, FitsSigned, to_z, of_z, to_z-of_z, rules}
use Rattle.std.specs.Int.{w32}
use Rattle.whole.specs.Numbers.{lies_in}
use Rattle.whole.specs.Signed.{signed}
use Rattle.whole.specs.Truth.{lies_low, lies_high}
use Rattle.choosing.specs.Choosing.{luma_column}
use Rattle.choosing.proofs.Choice.luma_column.Goals as goal

is_1 : {pel : ℤ} → FitsSigned w32 pel → of_z w32 pel ≡ 1 → lies_in (pos 1) (pos 1) pel ≡ true
is_1 {pel} f e = ap (lies_in (pos 1) (pos 1)) (sym (to_z-of_z f) ∙ ap (to_z w32) e)

by_test : (pel : ℤ) (t : Bool) → lies_in (pos 1) (pos 1) pel ≡ t → (of_z w32 pel ≡ 1 → ⊥) → t ≡ false
by_test pel true e not_1 =
    let low = lies_low (pos 1) (pos 1) pel e in
    let high = lies_high (pos 1) (pos 1) pel e in
    let one : pel ≡ pos 1 = omega signed in
    absurd (not_1 (ap (of_z w32) one))
by_test pel false e not_1 = refl

pub returns-then-self-eq1 : goal.returns-then-self-eq1
unfolding luma_column
returns-then-self-eq1 c =
    let pel : FitsSigned w32 c.args.self.pel = search rules in
    sym (ap (λ (t : Bool). cond t c.args.column c.args.i) (is_1 pel c.if-self-eq1.true))

pub returns-else-self-eq1 : goal.returns-else-self-eq1
unfolding luma_column
returns-else-self-eq1 c =
    let pel = c.args.self.pel in
    sym (ap (λ (t : Bool). cond t c.args.column c.args.i) (by_test pel (lies_in (pos 1) (pos 1) pel) refl c.if-self-eq1.false))
