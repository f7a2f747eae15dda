-- From the source's first byte, or from the level's offset. Assumes nothing.
use Rattle.std.proofs.Common.{◌≡◌, sym, ap, ◌∙◌, true, false, ℕ, FitsSigned, to_z-of_z, rules}
use Rattle.std.specs.Int.{w32}
use Rattle.level_places.specs.Levels.{from_source, cut_at, place_of}
use Rattle.level_places.proofs.place_of.Goals as goal

pub returns-then-from_source : goal.returns-then-from_source
unfolding place_of
returns-then-from_source c =
    let pitch = c.ranges.source_pitch in
    let e : from_source c.args.frame ≡ true = sym c.from_source.ensures ∙ c.if-from_source.true in
    rw e (simp to_z-of_z at c.cut_at.ensures)

pub returns : goal.returns
unfolding place_of
returns c =
    let pitch = c.ranges.pitch in
    let shift : FitsSigned w32 c.args.shift.y = search rules in
    let e : from_source c.args.frame ≡ false = sym c.from_source.ensures ∙ c.if-from_source.false in
    rw e (simp to_z-of_z at c.cut_at-2.ensures ∙ ap (λ (n : ℕ). cut_at c.args.frame c.args.shift n c.args.pitch) (simp to_z-of_z at c.level_offset-base.ensures))
