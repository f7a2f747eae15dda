-- At another pel than 1 a candidate takes its own luma, so that the SAD answered is what the two tables hold for the vector answered. Assumes nothing.
use Rattle.std.specs.Prelude.{◌≡◌, false, List, ◌⊎◌, ℕ, ◌+◌, ◌<◌, ℤ, pos, ◌+ℤ◌, get_or}
use Rattle.std.proofs.Math.Path.{refl}
use Rattle.std.proofs.Common.{inl}
use Rattle.std.proofs.Math.Logic.{inr}
use Rattle.whole.specs.Numbers.{lies_in}
use Rattle.choosing.specs.declared.Choice.{Choice}
use Rattle.choosing.specs.Choosing.{columns_of, rows_of, slot_of, luma_column, luma_of, chroma_of, advanced, restarted, taken, start, answer_of, chosen}
use Rattle.choosing.specs.Answers.{by_candidate, kept_walk}

module _ (k : Choice) (luma chroma : List ℕ) where
  -- what the two tables hold in a slot
  abbrev pub held_at : ℕ → ℤ
  held_at slot = pos (get_or luma slot 0 + get_or chroma slot 0)

  -- a candidate with the SAD of its slot
  pub record Entry (x y sad : ℤ) : Type 0 where
    pub i : ℕ
    pub j : ℕ
    pub in_columns : i < columns_of k
    pub in_rows : j < rows_of k
    pub x_is : x ≡ k.least_x +ℤ pos i
    pub y_is : y ≡ k.least_y +ℤ pos j
    pub sad_is : sad ≡ held_at (slot_of k j i)

  -- or the predictor with that of slot 0
  abbrev pub Own : ℤ → ℤ → ℤ → Type 0
  Own x y sad = ((x ≡ k.x) × (y ≡ k.y) × (sad ≡ held_at 0)) ⊎ Entry x y sad

  module _ (other : lies_in (pos 1) (pos 1) k.pel ≡ false) where
    own_column : (column i : ℕ) → luma_column k column i ≡ i
    unfolding luma_column
    own_column column i = simp other

    pub sad_of_the_vector : Own (chosen k luma chroma).x (chosen k luma chroma).y (chosen k luma chroma).sad
    unfolding chosen answer_of start restarted advanced taken luma_of chroma_of
    sad_of_the_vector =
        kept_walk k luma chroma (λ s. Own s.x s.y s.sad)
        (λ j i s a b q. by_candidate k luma chroma j i s (λ t. Own t.x t.y t.sad) (λ _. q) (λ _ _. q) (λ _ _ _. q)
        (λ _ _ _. inr (record { i = i; j = j; in_columns = b; in_rows = a; x_is = refl; y_is = refl; sad_is = rw (own_column s.column i) })))
        (λ s q. q) (inl (refl, refl, refl))
