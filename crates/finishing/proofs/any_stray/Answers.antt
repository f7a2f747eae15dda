-- The chain asks each index in turn. Assumes nothing.
use Rattle.std.proofs.Common.{◌∙◌, ◌||◌, pos, rules, tests}
use Rattle.std.proofs.lemmas.Iterator.{YieldsList-from_slice}
use Rattle.std.proofs.lemmas.Iterator.Consumers.{fold_from_yields_List}
use Rattle.limits.proofs.Chains.{any_item}
use Rattle.finishing.specs.Finish.{is_stray}
use Rattle.finishing.proofs.Folds.{any_folded}
use Rattle.finishing.proofs.any_stray.Goals as goal

pub returns : goal.returns
returns c =
    fold_from_yields_List _ (λ found index. found || is_stray c.args.blocks index) _ _ c.fold.ensures.ran (YieldsList-from_slice c.args.indices.now (cc)) (λ a x b q k. search (rules, tests))
    ∙ any_folded (is_stray c.args.blocks) c.args.indices.now
    ∙ any_item (is_stray c.args.blocks) c.args.indices.now (pos 0)
