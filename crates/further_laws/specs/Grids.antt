-- What the sides' number tells, an answer by a number of any kind, and a natural number as the machine casts it. Assumes nothing.
use Rattle.std.specs.Prelude.{◌≡◌, refl, Bool, true, false, ◌||◌, ℕ, zero, suc, ◌^◌, ◌≤◌, ◌<◌, ℤ, pos, nat_abs, T}
use Rattle.std.proofs.Common.{sym, subst, ◌∙◌, to_z, of_z, to_z-of_z, arith}
use Rattle.std.specs.Int.Signed.{lt_z, non_neg}
use Rattle.std.specs.Int.{Width, w32}
use mir.Val.{Fits, SFits, bits}
use Rattle.limits.specs.Refusals.{first}
use Rattle.serpentine.specs.Answers.{by_sides}
use Rattle.serpentine.specs.Served.{Grid, grid_served}

-- two tests by the answers of calls
pub either_tells : {a b A B t : Bool} → a ≡ A → b ≡ B → (a || b) ≡ t → (A || B) ≡ t
either_tells p q r = cc

-- on 0 what is done, on any other number what a refusal with it leaves
abbrev pub answered : {X : Type 0} → ℕ → X → (ℕ → X) → X
answered zero done refused = done
answered (suc n) done refused = refused (suc n)

pub answer_refused : {X : Type 0} (n : ℕ) (done : X) (refused : ℕ → X) → 0 < n → answered n done refused ≡ refused n
answer_refused zero done refused h = absurd (omega arith)
answer_refused (suc n) done refused h = refl

-- ---- the sides' number as a call tells it, of what the machine reads
refuse : (a b : Bool) (rest : ℕ) → 0 < first a 1 (first b 2 0) → first a 1 (first b 2 rest) ≡ first a 1 (first b 2 0)
refuse true b rest h = refl
refuse false true rest h = refl
refuse false false rest h = absurd (omega arith)

module _ {nx ny : ℤ} {n : ℕ} (f : SFits w32 nx) (g : SFits w32 ny) (told : n ≡ by_sides (to_z w32 (of_z w32 nx)) (to_z w32 (of_z w32 ny)) 0) where
  pub sides_refused : (rest : ℕ) → 0 < n → n ≡ by_sides nx ny rest
  sides_refused rest h =
      let number = simp to_z-of_z at told in
      number ∙ sym (refuse (lt_z nx (pos 2) || lt_z ny (pos 2)) (lt_z (pos 2048) nx || lt_z (pos 2048) ny) rest (omega arith))

  pub sides_accepted : n ≤ 0 → Grid nx ny
  sides_accepted h =
      let number = simp to_z-of_z at told in
      (grid_served nx ny 0 (omega arith)).0

-- a natural number is cast as it is
pub natural_cast : {w : Width} {z : ℤ} → SFits w32 z → pos (nat_abs z) ≡ z → nat_abs z < 2 ^ bits w →
    T (non_neg (to_z w32 (of_z w32 z))) × Fits w (nat_abs (to_z w32 (of_z w32 z)))
natural_cast f e h = simp to_z-of_z (subst (λ (y : ℤ). T (non_neg y)) e tt, record { fits = h })
