-- The chain's sum is that of the pairs, and two bytes are at most 255 apart. Assumes nothing.
use Rattle.std.proofs.Common.{◌∙◌, ℕ, rules, arith, get_or, length}
use Rattle.std.specs.List.{zip}
use Rattle.std.proofs.lemmas.Iterator.{YieldsList-from_slice, YieldsList-from_map, YieldsList-from_zip}
use Rattle.std.proofs.lemmas.Iterator.Consumers.{sum_by_from_yields_List}
use Rattle.distance.specs.Distance.{gap}
use Rattle.distance.specs.Sums.{sum_below}
use Rattle.distance.proofs.Slices.{gaps_zip}
use Rattle.distance.proofs.row_gaps.Goals as goal

pub returns-clause-value : goal.returns-clause-value
returns-clause-value c =
    let a = c.args.a.now in
    let b = c.args.b.now in
    sum_by_from_yields_List (λ (p : ℕ × ℕ). gap p.0 p.1) (zip a b) _ _ c.sum.ensures.ran
    (YieldsList-from_map _ (λ (p : ℕ × ℕ). gap p.0 p.1) (YieldsList-from_zip (YieldsList-from_slice a (cc)) (YieldsList-from_slice b (cc))) (cc) (λ x r q k. search rules))
    ∙ gaps_zip a b c.requires.1

pub returns-clause-most : goal.returns-clause-most
returns-clause-most c =
    let most = sum_below (length c.args.a.now) 255 {f = λ x. gap (get_or c.args.a.now x 0) (get_or c.args.b.now x 0)}
    (λ x l. omega (arith, c.type_inv.a x, c.type_inv.b x)) in
    omega (arith, returns-clause-value c)
