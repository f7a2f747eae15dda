-- What is read of the indices that were written one behind the other. Assumes nothing.
use Rattle.std.specs.Prelude.{◌≡◌, ℤ}
use Rattle.std.proofs.Math.Path.{ap, subst}
use Rattle.std.proofs.Common.{◌∙◌}
use mathlib.Core.List.{List, [], ◌∷◌, ◌++◌, append_assoc}
use Rattle.std.proofs.Math.Logic.{⊎_elim}
use Prim.Native.Nat.{ℕ, zero, suc, ◌+◌, ◌<◌}
use native.Mathlib.Omega.{arith}
use Rattle.std.proofs.Math.IntN.{pos}
use Rattle.std.proofs.Math.ListN.{get_or}
use Rattle.whole.specs.Signed.{lt_or_ge}
use Rattle.block.specs.declared.Settings.{Settings}
use Rattle.passes.specs.Fold.{index_at, turn_at, turn_of, indices_upto}
use Rattle.passes.specs.FoldLaws.{indices_long}
use Rattle.evaluation.specs.BestsRead.{behind}

-- ---- indices
module _ (s : Settings) (order vectors : List ℤ) where
  abbrev listed : ℕ → List ℤ
  listed = indices_upto s order vectors

  last_index : (n : ℕ) (tail : List ℤ) → get_or (listed n ++ (pos (turn_of s order vectors n).index ∷ tail)) n (pos 0) ≡ pos (index_at s.grid order n)
  unfolding turn_at
  last_index n tail =
      let first : n ≡ n + 0 = omega arith in
      ap (λ (m : ℕ). get_or (listed n ++ (pos (turn_of s order vectors n).index ∷ tail)) m (pos 0)) first
      ∙ behind (listed n) (pos (turn_of s order vectors n).index ∷ tail) n 0 (indices_long s order vectors n)

  pub index_reads : (n i : ℕ) (tail : List ℤ) → i < n → get_or (listed n ++ tail) i (pos 0) ≡ pos (index_at s.grid order i)
  unfolding indices_upto
  index_reads zero i tail l = absurd (omega arith)
  index_reads (suc n) i tail l =
      let one = pos (turn_of s order vectors n).index ∷ [] in
      let joined = append_assoc (listed n) one tail in
      ⊎_elim
      (λ h. ap (λ (k : List ℤ). get_or k i (pos 0)) joined ∙ index_reads n i (one ++ tail) h)
      (λ h.
      let same : n ≡ i = omega arith in
      subst (λ (j : ℕ). get_or (listed n ++ one ++ tail) j (pos 0) ≡ pos (index_at s.grid order j)) same
      (ap (λ (k : List ℤ). get_or k n (pos 0)) joined ∙ last_index n tail))
      (lt_or_ge i n)
