-- A chain over the numbers below n, `(0..n).any(..)` or `(0..n).all(..)`, against Refusals' test of the first n things. Each lemma takes the call's clause `ran`,
-- the range that it goes over, and what the closure answers: `any_over test n c.any.ensures.ran refl (λ x b q k. search (rules, tests))`. Assumes nothing.
use Rattle.std.specs.Prelude.{◌≡◌, refl, Bool, true, false, ◌&&◌, ◌||◌, not, ℕ, zero, suc, ◌+◌, List, [], ◌∷◌, length, get_or}
use Rattle.std.proofs.Common.{sym, ap, ◌∙◌, arith}
use Rattle.std.specs.declared.option.Option.{Option}
use Rattle.std.specs.declared.ops.Range.{Range}
use Rattle.std.specs.List.{range_with_len, list_any, list_all, FoldsTo}
use Rattle.std.specs.Option.{MatchOption}
use Rattle.std.specs.Fn.{Called}
use Rattle.std.specs.Iterator.{YieldsThen}
use Rattle.std.proofs.iter.Yields.{nat_range_steps}
use Rattle.std.proofs.lemmas.Iterator.{YieldsList-from_range}
use Rattle.std.proofs.lemmas.Iterator.Search.{any_from_yields_List, all_from_yields_List}
use denote.Param.Members.{Mut}
use Rattle.limits.specs.Refusals.{any_upto}
use Rattle.limits.specs.Refused.{Fails}

-- ---- a test of n things, taken apart from its front
or_false : (a : Bool) → a ≡ (a || false)
or_false true = refl
or_false false = refl

or_assoc : (a b c : Bool) → ((a || b) || c) ≡ (a || (b || c))
or_assoc true b c = refl
or_assoc false b c = refl

any_first : (test : ℕ → Bool) (n : ℕ) → any_upto test (suc n) ≡ (test 0 || any_upto (λ i. test (suc i)) n)
unfolding any_upto
any_first test zero = or_false (test 0)
any_first test (suc n) = ap (λ (t : Bool). t || test (suc n)) (any_first test n) ∙ or_assoc (test 0) (any_upto (λ i. test (suc i)) n) (test (suc n))

-- ---- the numbers from a on
any_from : (test from_a : ℕ → Bool) (a n : ℕ) → ((i : ℕ) → from_a i ≡ test (a + i)) → list_any test (range_with_len a n) ≡ any_upto from_a n
unfolding any_upto
any_from test from_a a zero same = refl
any_from test from_a a (suc n) same =
    let first : from_a 0 ≡ test a = same 0 ∙ ap test (omega arith) in
    let others = any_from test (λ i. from_a (suc i)) (a + 1) n (λ i. same (suc i) ∙ ap test (omega arith)) in
    sym (any_first from_a n ∙ ap (λ (b : Bool). b || any_upto (λ i. from_a (suc i)) n) first ∙ ap (λ (b : Bool). test a || b) (sym others))

by_first : (a b : Bool) → (a && not b) ≡ not (not a || b)
by_first true b = refl
by_first false b = refl

not_any : (test : ℕ → Bool) (xs : List ℕ) → list_all test xs ≡ not (list_any (Fails test) xs)
not_any test [] = refl
not_any test (x ∷ xs) = ap (λ (b : Bool). test x && b) (not_any test xs) ∙ by_first (test x) (list_any (Fails test) xs)

-- ---- the items of a list, each by its place
pub any_item : {A : Type 0} (test : A → Bool) (xs : List A) (d : A) → list_any test xs ≡ any_upto (λ i. test (get_or xs i d)) (length xs)
unfolding any_upto
any_item test [] d = refl
any_item test (x ∷ xs) d =
    ap (λ (b : Bool). test x || b) (any_item test xs d) ∙ sym (any_first (λ i. test (get_or (x ∷ xs) i d)) (length xs))

-- ---- the chains
module _ {F : Type 0} {g : Mut F (ℕ × Unit {0}) Bool} (test : ℕ → Bool) (n : ℕ) {s u : Range ℕ} {f : F} {r : Bool} where
  pub any_over : (xs : List ℕ) × (o : Option ℕ) × (j : F) × YieldsThen nat_range_steps s xs o u × FoldsTo (λ p x q. Called g p (x, tt) false q) f xs j
      × MatchOption o (r ≡ false) (λ x. (r ≡ true) × ((h : F) × Called g j (x, tt) true h)) →
      s ≡ record { start = 0; end = n } →
      ((x : ℕ) (b : Bool) (q : F) → Called g f (x, tt) b q → (q ≡ f) × (b ≡ test x)) →
      r ≡ any_upto test n
  any_over ran at closure =
      any_from_yields_List test u f r ran (YieldsList-from_range 0 n n at (omega arith)) closure
      ∙ any_from test test 0 n (λ i. ap test (omega arith))

  pub all_over : (xs : List ℕ) × (o : Option ℕ) × (j : F) × YieldsThen nat_range_steps s xs o u × FoldsTo (λ p x q. Called g p (x, tt) true q) f xs j
      × MatchOption o (r ≡ true) (λ x. (r ≡ false) × ((h : F) × Called g j (x, tt) false h)) →
      s ≡ record { start = 0; end = n } →
      ((x : ℕ) (b : Bool) (q : F) → Called g f (x, tt) b q → (q ≡ f) × (b ≡ test x)) →
      r ≡ not (any_upto (Fails test) n)
  all_over ran at closure =
      all_from_yields_List test u f r ran (YieldsList-from_range 0 n n at (omega arith)) closure
      ∙ not_any test (range_with_len 0 n)
      ∙ ap not (any_from (Fails test) (Fails test) 0 n (λ i. ap (Fails test) (omega arith)))
