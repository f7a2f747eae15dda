-- Laws of the fold over the order: whether all records fit, after one turn of the first pass. Assumes nothing.
use Rattle.std.specs.Prelude.{◌≡◌, Bool, true, false, ◌&&◌, ℤ}
use Rattle.std.proofs.Math.Path.{ap, subst}
use Rattle.std.proofs.Common.{sym, ◌∙◌}
use mathlib.Core.List.{List}
use Rattle.std.proofs.Math.Logic.{⊎_elim}
use Prim.Native.Nat.{ℕ, zero, suc, ◌+◌, ◌<◌, ◌≤◌}
use Rattle.std.proofs.Math.Numerals.{add-one}
use native.Mathlib.Omega.{arith}
use Rattle.whole.specs.Signed.{lt_or_ge}
use Rattle.slots.specs.declared.Slots.{Slots}
use Rattle.block.specs.declared.Settings.{Settings}
use Rattle.passes.specs.declared.Turn.{Turn}
use Rattle.passes.specs.Fold.{turn_of, all_fit}
use Rattle.passes.specs.FoldLaws.{Turned, turn_is}

module _ (s : Settings) (order vectors : List ℤ) where
  -- a record that does not fit is not mended by later ones
  pub misfit_stays : (i n : ℕ) → i ≤ n → all_fit s order vectors i ≡ false → all_fit s order vectors n ≡ false
  unfolding all_fit
  misfit_stays i zero h e = let z : i ≡ 0 = omega arith in subst (λ (k : ℕ). all_fit s order vectors k ≡ false) z e
  misfit_stays i (suc n) h e =
      ⊎_elim
      (λ l. ap (λ (b : Bool). b && (turn_of s order vectors n).fits) (misfit_stays i n (omega arith) e))
      (λ l. let z : i ≡ suc n = omega arith in subst (λ (k : ℕ). all_fit s order vectors k ≡ false) z e)
      (lt_or_ge i (suc n))

module _ {s : Settings} {order vectors : List ℤ} {i : ℕ} {t : Slots} {r : Turn} (k : Turned s order vectors i t r) where
  pub fit_next : all_fit s order vectors i ≡ true → r.fits ≡ true → all_fit s order vectors (i + 1) ≡ true
  unfolding all_fit
  fit_next a f = rw add-one (rw a (sym (ap (λ (x : Turn). x.fits) (turn_is k)) ∙ f))

  pub misfit_at : (n : ℕ) → i < n → all_fit s order vectors i ≡ true → r.fits ≡ false → all_fit s order vectors n ≡ false
  unfolding all_fit
  misfit_at n l a f = misfit_stays s order vectors (suc i) n l (rw a (sym (ap (λ (x : Turn). x.fits) (turn_is k)) ∙ f))
