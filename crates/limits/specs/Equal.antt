-- Two numbers of 32 bits are compared as words, and are equal just where their words are. Assumes nothing.
use Rattle.std.specs.Prelude.{◌≡◌, Bool, true, false, ℤ, eqb}
use Rattle.std.proofs.Common.{refl, sym, ap, ◌∙◌, FitsSigned, to_z, of_z, to_z-of_z}
use Rattle.std.proofs.lemmas.Bool.{eqb-true, eq-eqb}
use Rattle.std.specs.Int.{w32}
use Rattle.limits.specs.Limits.{same}
use Rattle.limits.specs.Ranges.{same_is, same_of}

module _ {a b : ℤ} (f : FitsSigned w32 a) (g : FitsSigned w32 b) where
  by_words : eqb (of_z w32 a) (of_z w32 b) ≡ true → a ≡ b
  by_words e = sym (to_z-of_z f) ∙ ap (to_z w32) (eqb-true _ _ e) ∙ to_z-of_z g

  go : (s t : Bool) → (s ≡ true → t ≡ true) → (t ≡ true → s ≡ true) → s ≡ t
  go true t there back = sym (there refl)
  go false true there back = back refl
  go false false there back = refl

  pub equal_words : eqb (of_z w32 a) (of_z w32 b) ≡ same b a
  equal_words =
      go _ _
      (λ e. same_of {x = b} {y = a} (sym (by_words e)))
      (λ e. eq-eqb _ _ (ap (of_z w32) (same_is b a e)))
