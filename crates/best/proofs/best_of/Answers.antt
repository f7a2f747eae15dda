-- Three ways out: a bad block that is negative, a bad plain one, and one that isn't bad. Assumes nothing.
use Rattle.std.proofs.Common.{◌≡◌, true, false, List, ℕ, sym, ap, ◌∙◌, arith}
use Rattle.std.specs.Int.{w32}
use Rattle.whole.specs.Signed.{got}
use Rattle.window.specs.Windows.{is_bad, is_negative}
use Rattle.choosing.specs.declared.Chosen.{Chosen}
use Rattle.choosing.specs.Bounds.{Small}
use Rattle.tables.specs.Laws.{most_zeros, most_small}
use Rattle.best.specs.Best.{average_at, with_average, answered, no_table, luma_table, best_of}
use Rattle.best.specs.Laws.{no_chroma, some_chroma, not_looked_at}
use Rattle.best.proofs.best_of.Goals as goal

none_small : Small no_table
none_small = most_small (most_zeros 0) (omega arith)

pub answer-requires-clause-small : goal.answer-requires-clause-small
answer-requires-clause-small c = (c.luma_table-lumas.ensures.small, none_small)

pub returns-then-is_negative : goal.returns-then-is_negative
unfolding best_of
returns-then-is_negative c =
    let s = c.args in
    let yes : is_negative s.given ≡ true = sym c.is_negative.ensures ∙ c.if-is_negative.true in
    rw (got w32 c.average_of-average.type_inv c.average_of-average.ensures, c.luma_table-lumas.ensures.value) at c.answer.ensures
    ∙ ap (λ (t : List ℕ). answered s.task s.given (luma_table s.task s.given s.source.luma.now s.reference.luma.now) t (average_at s.task s.given s.source.luma.now)) (no_chroma s.task s.given s.source.u.now s.source.v.now s.reference.u.now s.reference.v.now yes)

pub answer-requires-then-is_bad-clause-small : goal.answer-requires-then-is_bad-clause-small
answer-requires-then-is_bad-clause-small c = (c.luma_table-lumas.ensures.small, c.chroma_table-chromas.ensures.small)

pub returns-then-is_bad : goal.returns-then-is_bad
unfolding best_of
returns-then-is_bad c =
    let s = c.args in
    let no : is_negative s.given ≡ false = sym c.is_negative.ensures ∙ c.if-is_negative.false in
    rw (got w32 c.average_of-average.type_inv c.average_of-average.ensures, c.luma_table-lumas.ensures.value, c.chroma_table-chromas.ensures.value) at c.answer-then-is_bad.ensures
    ∙ ap (λ (t : List ℕ). answered s.task s.given (luma_table s.task s.given s.source.luma.now s.reference.luma.now) t (average_at s.task s.given s.source.luma.now)) (some_chroma s.task s.given s.source.u.now s.source.v.now s.reference.u.now s.reference.v.now no)

pub answer-requires-2-clause-small : goal.answer-requires-2-clause-small
answer-requires-2-clause-small c = (none_small, none_small)

pub returns : goal.returns
unfolding best_of
returns c =
    let s = c.args in
    let no : is_bad s.given ≡ false = sym c.is_bad.ensures ∙ c.if-is_bad.false in
    rw (got w32 c.average_of-average.type_inv c.average_of-average.ensures) at c.answer-2.ensures
    ∙ ap (λ (z : Chosen). with_average s.task s.given z (average_at s.task s.given s.source.luma.now)) (not_looked_at _ _ _ _ _ _ _ _ no)
