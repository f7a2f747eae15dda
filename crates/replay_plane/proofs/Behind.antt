-- What stands behind a list's first seven numbers.
use Rattle.std.proofs.Common.{◌≡◌, ◌∙◌, ap, ℕ, ◌+◌, List, ℤ, pos, get_or, drop}
use Rattle.std.proofs.lemmas.List.{get_or-drop}

pub number_behind : (inputs : List ℤ) {rest : List ℤ} → rest ≡ drop 7 inputs → (k : ℕ) → get_or rest k (pos 0) ≡ get_or inputs (7 + k) (pos 0)
number_behind inputs e k = ap (λ numbers. get_or numbers k (pos 0)) e ∙ get_or-drop 7 inputs k (pos 0)
