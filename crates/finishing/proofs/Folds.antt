-- A list that is folded by `or` to the end has the answer of a search that stops. Assumes nothing.
use Rattle.std.specs.Prelude.{◌≡◌, refl, Bool, true, false, ◌||◌, List, [], ◌∷◌, fold}
use Rattle.std.proofs.Common.{◌∙◌}
use Rattle.std.specs.List.{list_any}

or_false : (a : Bool) → a ≡ (a || false)
or_false true = refl
or_false false = refl

or_assoc : (a b c : Bool) → ((a || b) || c) ≡ (a || (b || c))
or_assoc true b c = refl
or_assoc false b c = refl

folded_from : {A : Type 0} (test : A → Bool) (a : Bool) (xs : List A) → fold (λ found x. found || test x) a xs ≡ (a || list_any test xs)
folded_from test a [] = or_false a
folded_from test a (x ∷ xs) = folded_from test (a || test x) xs ∙ or_assoc a (test x) (list_any test xs)

pub any_folded : {A : Type 0} (test : A → Bool) (xs : List A) → fold (λ found x. found || test x) false xs ≡ list_any test xs
any_folded test xs = folded_from test false xs
