-- The loop stops at the first answer that is not its value. Assumes nothing.
use Rattle.std.proofs.Common.{rules, tests}
use Rattle.std.proofs.lemmas.Iterator.{cases_from_all, YieldsList-from_slice, YieldsList-from_zip}
use Rattle.cases.proofs.Told.{Another, told_by, told_apart}
use Rattle.cases.proofs.Case.answered.Goals as goal

pub returns-then-self-values-clause-told : goal.returns-then-self-values-clause-told
returns-then-self-values-clause-told g c =
    told_by g.T.Into.converts _ _ _ c.if-self-values.true
    (cases_from_all c.all.new.self _ _ (λ p. g.T.Into.converts p.1 p.0) (λ p. Another g.T.Into.converts p.1 p.0) c.all.ensures.ran
    (YieldsList-from_zip (YieldsList-from_slice c.args.self.now.answers.now (search rules)) (YieldsList-from_slice c.args.values.now (search rules)))
    (λ x q k. search (rules, tests)) (λ x q k. search (rules, tests)))

pub returns-else-self-values-clause-told : goal.returns-else-self-values-clause-told
returns-else-self-values-clause-told g c = told_apart _ _ _ _ (search rules) (search rules)
