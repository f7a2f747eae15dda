-- The chain asks each best in turn. Assumes nothing.
use Rattle.std.proofs.Common.{◌∙◌, ◌||◌, Bool, get_or, List, ℤ, [], pos, rules, tests}
use Rattle.std.proofs.lemmas.Iterator.{YieldsList-from_slice}
use Rattle.std.proofs.lemmas.Iterator.Consumers.{fold_from_yields_List}
use Rattle.limits.specs.Refused.{any_alike}
use Rattle.limits.proofs.Chains.{any_item}
use Rattle.finishing.specs.Finish.{is_wild}
use Rattle.finishing.proofs.Fives.{best_of}
use Rattle.finishing.proofs.Folds.{any_folded}
use Rattle.finishing.proofs.any_wild.Goals as goal

abbrev test : List ℤ → Bool
test best = is_wild (get_or best 0 (pos 0)) (get_or best 1 (pos 0))

pub returns : goal.returns
returns c =
    let each = c.as_chunks.result.0.now in
    fold_from_yields_List _ (λ found best. found || test best) _ _ c.fold.ensures.ran (YieldsList-from_slice each (cc)) (λ a x b q k. search (rules, tests))
    ∙ any_folded test each
    ∙ any_item test each []
    ∙ rw (c.as_chunks.ensures.front_len, c.as_chunks.ensures.front)
    (any_alike _ _ _ (λ n inside. let best = best_of _ c.args.bests.now n inside in rw (best.x, best.y)))
