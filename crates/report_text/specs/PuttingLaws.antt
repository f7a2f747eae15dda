-- What is put, one text after another. Assumes nothing.
use Rattle.std.specs.Prelude.{◌≡◌, List, ◌++◌, ℕ}
use Rattle.std.proofs.Common.{ap, ◌∙◌, append_assoc}

pub both_put : (l a b : List ℕ) {m o : List ℕ} → m ≡ l ++ a → o ≡ m ++ b → o ≡ l ++ (a ++ b)
both_put l a b first second = second ∙ ap (λ (s : List ℕ). s ++ b) first ∙ append_assoc l a b
