-- Each side is the one that the shift leaves. Assumes nothing.
use Rattle.std.proofs.Common.{ap, ◌∙◌, FitsSigned, to_z-of_z, rules, ℤ}
use Rattle.std.specs.Int.{w32}
use Rattle.whole.specs.Truth.{both_alike}
use Rattle.limits.specs.Limits.{same}
use Rattle.limits.specs.Equal.{equal_words}
use Rattle.planes.specs.Planes.{chroma_holds}
use Rattle.planes.proofs.chroma_holds.Goals as goal

pub returns : goal.returns
unfolding chroma_holds
returns c =
    let a = c.args in
    let f0 : FitsSigned w32 a.luma.width = search rules in
    let f1 : FitsSigned w32 a.luma.height = search rules in
    let f2 : FitsSigned w32 a.shift.x = search rules in
    let f3 : FitsSigned w32 a.shift.y = search rules in
    let f4 : FitsSigned w32 a.place.width = search rules in
    let f5 : FitsSigned w32 a.place.height = search rules in
    let w : FitsSigned w32 c.shifted-w.result = record { sfits = c.shifted-w.type_inv } in
    let h : FitsSigned w32 c.shifted-h.result = record { sfits = c.shifted-h.type_inv } in
    let wide = simp to_z-of_z at c.shifted-w.ensures in
    let high = simp to_z-of_z at c.shifted-h.ensures in
    both_alike (equal_words f4 w ∙ ap (λ (z : ℤ). same z a.place.width) wide) (equal_words f5 h ∙ ap (λ (z : ℤ). same z a.place.height) high)
