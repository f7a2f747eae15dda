-- Answers and values gone over in pairs, as a loop over both does, against the definitions of specs/Told. Assumes nothing.
use Rattle.std.proofs.Common.{arith, ◌≡◌, ◌≢◌, refl, List, [], ◌∷◌, length, Bool, true, false, MatchBool, ℕ, zero, suc, ◌<◌, ℤ, ap}
use Rattle.std.specs.List.{zip, AllWithin, HoldsAt}
use Rattle.cases.specs.Told.{Each, Tells}

-- a value that is made some number, and not the one that stands there
abbrev pub Another : {T : Type 0} → (T → ℤ → Type 0) → T → ℤ → Type 0
Another converts value answer = (number : ℤ) × converts value number × (answer ≢ number)

each_from : {T : Type 0} (holds : T → ℤ → Type 0) (answers : List ℤ) (values : List T) → length answers ≡ length values →
    AllWithin (λ p. holds p.1 p.0) (zip answers values) 0 (length (zip answers values)) → Each holds values answers
each_from holds [] [] same all = tt
each_from holds [] (v ∷ values) same all = cc
each_from holds (a ∷ answers) [] same all = cc
each_from holds (a ∷ answers) (v ∷ values) same all =
    (all 0 (a, v) (omega arith) (omega arith), each_from holds answers values (omega arith) (λ k d low high. all (suc k) d (omega arith) (omega arith)))

one_breaks : {T : Type 0} (converts : T → ℤ → Type 0) (answers : List ℤ) (values : List T) (k : ℕ) → k < length (zip answers values) →
    HoldsAt (λ p. Another converts p.1 p.0) (zip answers values) k →
    Each (λ value answer. (number : ℤ) → converts value number → answer ≡ number) values answers → ⊥
one_breaks converts [] values k inside other each = absurd (omega arith)
one_breaks converts (a ∷ answers) [] k inside other each = each
one_breaks converts (a ∷ answers) (v ∷ values) zero inside other each =
    let o = other (a, v) in
    o.2 (each.0 o.0 o.1)
one_breaks converts (a ∷ answers) (v ∷ values) (suc k) inside other each =
    one_breaks converts answers values k (omega arith) (λ d. other d) each.1

each_long : {T : Type 0} (holds : T → ℤ → Type 0) (answers : List ℤ) (values : List T) → Each holds values answers → length answers ≡ length values
each_long holds [] [] each = refl
each_long holds [] (v ∷ values) each = absurd each
each_long holds (a ∷ answers) [] each = absurd each
each_long holds (a ∷ answers) (v ∷ values) each = ap suc (each_long holds answers values each.1)

module _ {T : Type 0} (converts : T → ℤ → Type 0) (answers : List ℤ) (values : List T) where
  pub told_by : (r : Bool) → length answers ≡ length values →
      MatchBool r (AllWithin (λ p. converts p.1 p.0) (zip answers values) 0 (length (zip answers values)))
      ((k : ℕ) × (k < length (zip answers values)) × HoldsAt (λ p. Another converts p.1 p.0) (zip answers values) k) →
      Tells converts r values answers
  told_by true same all = record { only = λ e. each_from converts answers values same all; all = λ e. refl }
  told_by false same other = record { only = λ e. absurd cc; all = λ e. absurd (one_breaks converts answers values other.0 other.1 other.2 e) }

  pub told_apart : (r : Bool) → r ≡ false → length answers ≢ length values → Tells converts r values answers
  told_apart r told apart = record { only = λ e. absurd cc; all = λ e. absurd (apart (each_long _ answers values e)) }
