-- What is read of the bests that were written one behind the other: of each record its own five numbers. Assumes nothing.
use Rattle.std.specs.Prelude.{◌≡◌, ℤ, pos, get_or, length}
use Rattle.std.proofs.Math.Path.{sym, subst}
use Rattle.std.proofs.Common.{ap, ◌∙◌, get_or-append-add}
use mathlib.Core.List.{List, ◌++◌, append_assoc}
use Rattle.std.proofs.Math.Logic.{⊎_elim}
use Prim.Native.Nat.{ℕ, zero, suc, ◌+◌, ◌*◌, ◌<◌}
use native.Mathlib.Omega.{arith}
use Rattle.limits.specs.Sizes.{numbers_per_best}
use Rattle.whole.specs.Signed.{lt_or_ge}
use Rattle.best.specs.declared.Task.{Task}
use Rattle.best.specs.declared.Best.{Best}
use Rattle.five_numbers.specs.declared.Five.{Five}
use Rattle.five_numbers.specs.Five.{number_of, five_of}
use Rattle.evaluation.specs.Evaluated.{best_list, best_at, five_at, fifth_at, bests_upto}
use Rattle.evaluation.specs.BestsLaws.{bests_long}

-- a place behind others
pub behind : (front back : List ℤ) (n k : ℕ) → length front ≡ n → get_or (front ++ back) (n + k) (pos 0) ≡ get_or back k (pos 0)
behind front back n k e = ap (λ (m : ℕ). get_or (front ++ back) (m + k) (pos 0)) (sym e) ∙ get_or-append-add front back k (pos 0)

-- ---- bests: four numbers each, and the fifth
pub record Reads (bests : List ℤ) (i : ℕ) (b : Best) (fifth : ℤ) : Type 0 where
  pub x : get_or bests (numbers_per_best * i) (pos 0) ≡ b.x
  pub y : get_or bests (numbers_per_best * i + 1) (pos 0) ≡ b.y
  pub sad : get_or bests (numbers_per_best * i + 2) (pos 0) ≡ b.sad
  pub average : get_or bests (numbers_per_best * i + 3) (pos 0) ≡ b.average
  pub outside : get_or bests (numbers_per_best * i + 4) (pos 0) ≡ fifth

last_reads : (front tail : List ℤ) (i : ℕ) (f : Five) → length front ≡ numbers_per_best * i →
    Reads (front ++ (best_list f ++ tail)) i f.best (number_of f.outside)
last_reads front tail i f e =
    let first : numbers_per_best * i ≡ numbers_per_best * i + 0 = omega arith in
    record {
      x = ap (λ (m : ℕ). get_or (front ++ (best_list f ++ tail)) m (pos 0)) first ∙ behind front (best_list f ++ tail) (numbers_per_best * i) 0 e;
      y = behind front (best_list f ++ tail) (numbers_per_best * i) 1 e;
      sad = behind front (best_list f ++ tail) (numbers_per_best * i) 2 e;
      average = behind front (best_list f ++ tail) (numbers_per_best * i) 3 e;
      outside = behind front (best_list f ++ tail) (numbers_per_best * i) 4 e;
    }

module _ (task : Task) (records : List ℤ) (luma u v referenceLuma referenceU referenceV : List ℕ) where
  abbrev best : ℕ → Best
  best = best_at task records luma u v referenceLuma referenceU referenceV

  abbrev fifth : ℕ → ℤ
  fifth = fifth_at task records luma u v referenceLuma referenceU referenceV

  abbrev five : ℕ → Five
  five = five_at task records luma u v referenceLuma referenceU referenceV

  abbrev upto : ℕ → List ℤ
  upto = bests_upto task records luma u v referenceLuma referenceU referenceV

  pub best_reads : (n i : ℕ) (tail : List ℤ) → i < n → Reads (upto n ++ tail) i (best i) (fifth i)
  unfolding bests_upto five_of
  best_reads zero i tail l = absurd (omega arith)
  best_reads (suc n) i tail l =
      let joined = sym (append_assoc (upto n) (best_list (five n)) tail) in
      ⊎_elim
      (λ h. subst (λ (k : List ℤ). Reads k i (best i) (fifth i)) joined (best_reads n i (best_list (five n) ++ tail) h))
      (λ h.
      let same : n ≡ i = omega arith in
      subst (λ (j : ℕ). Reads (upto n ++ best_list (five n) ++ tail) j (best j) (fifth j)) same
      (subst (λ (k : List ℤ). Reads k n (best n) (fifth n)) joined (last_reads (upto n) tail n (five n)
      (bests_long task records luma u v referenceLuma referenceU referenceV n))))
      (lt_or_ge i n)
