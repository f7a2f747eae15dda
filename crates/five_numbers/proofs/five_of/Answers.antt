-- A bad block is counted at the vector that it answers, and no other is. Assumes nothing.
use Rattle.std.specs.Prelude.{None, Option, Some}
use Rattle.std.proofs.Common.{◌≡◌, sym, ap, subst, ◌∙◌, Bool, true, false, ℕ, ◌≤◌, ℤ, pos, arith, rules, to_z-of_z}
use mir.Facts.{to_z_pos}
use Rattle.std.specs.Int.{w32}
use mir.Val.{SFits, to_z}
use Rattle.window.specs.Windows.{is_bad}
use Rattle.best.specs.declared.Best.{Best}
use Rattle.five_numbers.specs.declared.Five.{Five}
use Rattle.five_numbers.specs.Five.{absent_at, absences_of, five_of}
use Rattle.five_numbers.specs.Asked.{Aimed}
use Rattle.five_numbers.specs.Laws.{answered_aimed, absent_few}
use Rattle.five_numbers.proofs.five_of.Goals as goal

alike_fives : {b B : Best} {t T : Option ℤ} → b ≡ B → t ≡ T → ◌≡◌ {A = Five} (record { best = b; outside = t }) (record { best = B; outside = T })
alike_fives e f = cc

counted : {m n : ℕ} (bad : Bool) → bad ≡ true → m ≤ 768 → m ≡ n → Some (to_z w32 m) ≡ absences_of bad n
counted {m} {n} bad e few same = rw e (ap Some (to_z_pos w32 (omega arith) ∙ ap pos same))

not_compared : (n : ℕ) (bad : Bool) → bad ≡ false → None ≡ absences_of bad n
not_compared n bad e = rw e

pub absent_at-absent-requires : goal.absent_at-absent-requires
absent_at-absent-requires c =
    let s = c.args in
    let found = c.best_of-best.result in
    let f : SFits w32 found.x = search rules in
    let g : SFits w32 found.y = search rules in
    let bad : is_bad s.given ≡ true = sym c.is_bad.ensures ∙ c.if-is_bad.true in
    let aim = answered_aimed c.requires bad s.source.luma.now s.source.u.now s.source.v.now s.reference.luma.now s.reference.u.now s.reference.v.now in
    (c.requires, simp to_z-of_z (subst (λ (b : Best). Aimed b.x b.y) (sym c.best_of-best.ensures) aim))

pub overflow_cast-result : goal.overflow_cast-result
overflow_cast-result c =
    let s = c.args in
    let found = c.best_of-best.result in
    let f : SFits w32 found.x = search rules in
    let g : SFits w32 found.y = search rules in
    let count = simp to_z-of_z at c.absent_at-absent.ensures in
    let few : c.absent_at-absent.result ≤ 768 = omega (arith, absent_few c.requires s.reference.luma.now s.reference.u.now s.reference.v.now found.x found.y) in
    search rules

pub returns-then-is_bad : goal.returns-then-is_bad
unfolding five_of
returns-then-is_bad c =
    let s = c.args in
    let found = c.best_of-best.result in
    let f : SFits w32 found.x = search rules in
    let g : SFits w32 found.y = search rules in
    let count = simp to_z-of_z at c.absent_at-absent.ensures in
    let few : c.absent_at-absent.result ≤ 768 = omega (arith, absent_few c.requires s.reference.luma.now s.reference.u.now s.reference.v.now found.x found.y) in
    let bad : is_bad s.given ≡ true = sym c.is_bad.ensures ∙ c.if-is_bad.true in
    let e = c.best_of-best.ensures in
    let at : Best → ℕ = λ b. absent_at s.task s.given s.reference.luma.now s.reference.u.now s.reference.v.now b.x b.y in
    alike_fives e (counted (is_bad s.given) bad few (count ∙ ap at e))

pub returns-else-is_bad : goal.returns-else-is_bad
unfolding five_of
returns-else-is_bad c =
    let fine : is_bad c.args.given ≡ false = sym c.is_bad.ensures ∙ c.if-is_bad.false in
    alike_fives c.best_of-best.ensures (not_compared _ (is_bad c.args.given) fine)
