-- Luma alone, or all three. Assumes nothing.
use Rattle.std.proofs.Common.{◌≡◌, sym, ◌∙◌, Bool, true, false, cond, ℕ, ◌+◌, arith, rules, to_z-of_z}
use Rattle.std.specs.Int.{w32}
use mir.Val.{SFits}
use Rattle.window.specs.Windows.{is_negative}
use Rattle.five_numbers.specs.Five.{luma_absent, chroma_absent, absent_at}
use Rattle.five_numbers.specs.Laws.{luma_few, chroma_few}
use Rattle.five_numbers.proofs.absent_at.Goals as goal

luma_alone : (negative : Bool) (l c : ℕ) → negative ≡ true → l ≡ l + cond negative 0 c
luma_alone negative l c e = rw e (omega arith)

all_three : (negative : Bool) (l c : ℕ) → negative ≡ false → l + c ≡ l + cond negative 0 c
all_three negative l c e = rw e

pub returns-then-is_negative : goal.returns-then-is_negative
unfolding absent_at
returns-then-is_negative c =
    let s = c.args in
    let f : SFits w32 s.x = search rules in
    let g : SFits w32 s.y = search rules in
    let luma = simp to_z-of_z at c.luma_absent-luma.ensures in
    let yes : is_negative s.given ≡ true = sym c.is_negative.ensures ∙ c.if-is_negative.true in
    luma ∙ luma_alone (is_negative s.given) _ _ yes

pub overflow_add-result : goal.overflow_add-result
overflow_add-result c =
    let s = c.args in
    let f : SFits w32 s.x = search rules in
    let g : SFits w32 s.y = search rules in
    let luma = simp to_z-of_z at c.luma_absent-luma.ensures in
    let chroma = simp to_z-of_z at c.chroma_absent.ensures in
    omega (arith, luma_few c.requires.0 s.reference.luma.now s.x s.y, chroma_few c.requires.0 s.reference.u.now s.reference.v.now s.x s.y)

pub returns-else-is_negative : goal.returns-else-is_negative
unfolding absent_at
returns-else-is_negative c =
    let s = c.args in
    let f : SFits w32 s.x = search rules in
    let g : SFits w32 s.y = search rules in
    let luma = simp to_z-of_z at c.luma_absent-luma.ensures in
    let chroma = simp to_z-of_z at c.chroma_absent.ensures in
    let plain : is_negative s.given ≡ false = sym c.is_negative.ensures ∙ c.if-is_negative.false in
    omega arith ∙ all_three (is_negative s.given) (luma_absent s.task s.given s.reference.luma.now s.x s.y) (chroma_absent s.task s.given s.reference.u.now s.reference.v.now s.x s.y) plain
