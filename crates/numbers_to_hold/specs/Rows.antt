-- A table's row, what it is that a table holds, and that this can be computed: two lists of numbers are compared one by one. Assumes nothing.
use Rattle.std.specs.Prelude.{◌≡◌, refl, Bool, true, false, ◌&&◌, List, [], ◌∷◌, ℤ}
use Rattle.whole.specs.Signed.{holds}
use Rattle.whole.specs.Truth.{left_of, right_of}
use Rattle.limits.specs.Limits.{same}
use Rattle.limits.specs.Ranges.{same_is}

-- a row: what comes out, and what the paper says
pub record Row : Type 0 where
  pub comes : List ℤ
  pub says : List ℤ

abbrev pub is : List ℤ → List ℤ → Row
is comes says = record { comes = comes; says = says }

-- every row of a table holds
abbrev pub Every : List Row → Type 0
Every [] = Unit
Every (r ∷ rest) = (r.comes ≡ r.says) × Every rest

-- ---- the same, as a test
abbrev same_list : List ℤ → List ℤ → Bool
same_list [] [] = true
same_list [] (y ∷ ys) = false
same_list (x ∷ xs) [] = false
same_list (x ∷ xs) (y ∷ ys) = same y x && same_list xs ys

abbrev pub every_holds : List Row → Bool
every_holds [] = true
every_holds (r ∷ rest) = same_list r.comes r.says && every_holds rest

joined : {x y : ℤ} {xs ys : List ℤ} → x ≡ y → xs ≡ ys → x ∷ xs ≡ y ∷ ys
joined p q = cc

list_is : (xs ys : List ℤ) → same_list xs ys ≡ true → xs ≡ ys
list_is [] [] e = refl
list_is [] (y ∷ ys) e = absurd (holds e)
list_is (x ∷ xs) [] e = absurd (holds e)
list_is (x ∷ xs) (y ∷ ys) e = joined (same_is y x (left_of (same y x) (same_list xs ys) e)) (list_is xs ys (right_of (same y x) (same_list xs ys) e))

-- a table that passes the test holds
pub every_of : (rows : List Row) → every_holds rows ≡ true → Every rows
every_of [] e = tt
every_of (r ∷ rest) e =
    let first = same_list r.comes r.says in
    (list_is r.comes r.says (left_of first (every_holds rest) e), every_of rest (right_of first (every_holds rest) e))
