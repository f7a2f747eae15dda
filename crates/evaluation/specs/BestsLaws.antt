-- Laws of the bests written one behind the other. Assumes nothing.
use Rattle.std.specs.Prelude.{◌≡◌, ℤ, length}
use Rattle.std.proofs.Math.Path.{refl, ap}
use Rattle.std.proofs.Common.{◌∙◌, add-one, length-drop}
use mathlib.Core.List.{List, ◌++◌}
use Prim.Native.Nat.{ℕ, zero, suc, ◌+◌, ◌*◌, ◌≤◌}
use native.Mathlib.Omega.{arith}
use Rattle.std.proofs.Math.ListN.{drop, length-append}
use Rattle.std.proofs.Math.Seq.{paste}
use Rattle.limits.specs.Sizes.{numbers_per_best}
use Rattle.whole.specs.Lists.{paste_next}
use Rattle.best.specs.declared.Task.{Task}
use Rattle.five_numbers.specs.declared.Five.{Five}
use Rattle.evaluation.specs.Evaluated.{best_list, five_at, bests_upto}

module _ (task : Task) (records : List ℤ) (luma u v referenceLuma referenceU referenceV : List ℕ) where
  abbrev upto : ℕ → List ℤ
  upto = bests_upto task records luma u v referenceLuma referenceU referenceV

  pub bests_long : (i : ℕ) → length (upto i) ≡ numbers_per_best * i
  unfolding bests_upto
  bests_long zero = refl
  bests_long (suc i) = length-append (upto i) (best_list (five_at task records luma u v referenceLuma referenceU referenceV i)) ∙ omega (arith, bests_long i)

  -- after i records: their bests stand in front of the old tail
  abbrev pub Written : ℕ → List ℤ → List ℤ → Type 0
  Written i old bests = bests ≡ upto i ++ drop (numbers_per_best * i) old

  pub written_long : (i : ℕ) (old : List ℤ) {bests : List ℤ} → Written i old bests → numbers_per_best * i ≤ length old → length bests ≡ length old
  written_long i old e l =
      ap length e ∙ length-append (upto i) (drop (numbers_per_best * i) old) ∙ omega (arith, bests_long i, length-drop (numbers_per_best * i) old)

  pub written_next : (i : ℕ) (old : List ℤ) {bests : List ℤ} {five : Five} → Written i old bests →
      five ≡ five_at task records luma u v referenceLuma referenceU referenceV i →
      Written (i + 1) old (paste bests (numbers_per_best * i) (best_list five) numbers_per_best)
  unfolding bests_upto
  written_next i old {bests} {five} e f =
      let m : numbers_per_best * (i + 1) ≡ numbers_per_best * i + numbers_per_best = omega arith in
      rw (m, add-one)
      (ap (λ (l : List ℤ). paste l (numbers_per_best * i) (best_list five) numbers_per_best) e
      ∙ paste_next (upto i) (best_list five) old (numbers_per_best * i) numbers_per_best (bests_long i) refl
      ∙ ap (λ (b : Five). (upto i ++ best_list b) ++ drop (numbers_per_best * i + numbers_per_best) old) f)
