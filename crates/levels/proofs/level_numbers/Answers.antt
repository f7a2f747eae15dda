-- The planes that are cut have bases of 31 bits. Assumes nothing.
use Rattle.std.proofs.Common.{sym, subst, ◌∙◌, length}
use Rattle.levels.specs.Asked.{BasesFit}
use Rattle.levels.specs.Accepted.{cut_means, bases_fit}
use Rattle.levels.proofs.level_numbers.Goals as goal

pub put_planes-requires-clause-bases_fit : goal.put_planes-requires-clause-bases_fit
put_planes-requires-clause-bases_fit c =
    let a = c.args in
    let means =
    cut_means a.frame (length a.packed.luma.now) (length a.packed.u.now) (length a.packed.v.now) (length a.source.luma.now) (length a.source.u.now) (length a.source.v.now)
    (sym c.level.ensures ∙ c.in_ok-planes.was)
    in
    subst BasesFit (sym means.1)
    (bases_fit a.frame (length a.packed.luma.now) (length a.packed.u.now) (length a.packed.v.now) (length a.source.luma.now) (length a.source.u.now) (length a.source.v.now) means.0)
