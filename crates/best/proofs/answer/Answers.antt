-- The answer's fields are read back as they were stored. Assumes nothing.
use Rattle.std.proofs.Common.{◌≡◌, ap, rules, to_z-of_z}
use Rattle.std.specs.Int.{w32}
use mir.Val.{SFits}
use Rattle.window.specs.Windows.{is_bad, is_negative}
use Rattle.choosing.specs.declared.Chosen.{Chosen}
use Rattle.choosing.specs.Choosing.{selected}
use Rattle.best.specs.Best.{choice_of, with_average}
use Rattle.best.proofs.answer.Goals as goal

pub returns : goal.returns
returns c =
    let s = c.args in
    let r = c.select-chosen.result in
    let given : SFits w32 s.given.sad = search rules in
    let x : SFits w32 r.x = search rules in
    let y : SFits w32 r.y = search rules in
    let sad : SFits w32 r.sad = search rules in
    let average : SFits w32 s.average = search rules in
    let chosen : r ≡ selected (choice_of s.task s.given) (is_bad s.given) (is_negative s.given) s.given.sad s.lumas.now s.chromas.now =
    rw (c.choice_of-choice.ensures, c.is_bad-bad.ensures, c.is_negative-negative.ensures, to_z-of_z given) at c.select-chosen.ensures in
    simp to_z-of_z (ap (λ (z : Chosen). with_average s.task s.given z s.average) chosen)
