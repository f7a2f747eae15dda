-- What is made of four parts, or of five, is one where the parts are; and four stores are four values. Assumes nothing.
use Rattle.std.specs.Prelude.{◌≡◌, refl, List, [], ◌∷◌, ◌++◌, ℕ, ◌≤◌, length, set, drop}
use Rattle.std.proofs.Common.{arith}

pub alike_five : {A B C D E F : Type 0} (make : A → B → C → D → E → F) {a a' : A} {b b' : B} {c c' : C} {d d' : D} {e e' : E} →
    a ≡ a' → b ≡ b' → c ≡ c' → d ≡ d' → e ≡ e' → make a b c d e ≡ make a' b' c' d' e'
alike_five make p q r s t = cc

pub alike_four : {A B C D E : Type 0} (make : A → B → C → D → E) {a a' : A} {b b' : B} {c c' : C} {d d' : D} →
    a ≡ a' → b ≡ b' → c ≡ c' → d ≡ d' → make a b c d ≡ make a' b' c' d'
alike_four make p q r s = cc

pub four_stores : (l : List ℕ) (a b c d : ℕ) → 4 ≤ length l → set (set (set (set l 0 a) 1 b) 2 c) 3 d ≡ (a ∷ b ∷ c ∷ d ∷ []) ++ drop 4 l
four_stores [] a b c d h = absurd (omega arith)
four_stores (w ∷ []) a b c d h = absurd (omega arith)
four_stores (w ∷ x ∷ []) a b c d h = absurd (omega arith)
four_stores (w ∷ x ∷ y ∷ []) a b c d h = absurd (omega arith)
four_stores (w ∷ x ∷ y ∷ z ∷ l) a b c d h = refl
