-- The source's lengths, or the packed planes'. Assumes nothing.
use Rattle.std.proofs.Common.{◌≡◌, sym, ◌∙◌, true, false}
use Rattle.level_places.specs.Levels.{from_source}
use Rattle.levels.specs.Refusals.{lengths_kept}
use Rattle.levels.proofs.lengths_kept.Goals as goal

pub returns-then-from_source : goal.returns-then-from_source
unfolding lengths_kept
returns-then-from_source c =
    let e : from_source c.args.frame ≡ true = sym c.from_source.ensures ∙ c.if-from_source.true in
    rw e c.holds_3.ensures

pub returns : goal.returns
unfolding lengths_kept
returns c =
    let e : from_source c.args.frame ≡ false = sym c.from_source.ensures ∙ c.if-from_source.false in
    rw e c.holds_3-2.ensures
