-- What Refusals says: a test asked of n things one after the other, and a table taken apart from its front. Assumes nothing.
use Rattle.std.specs.Prelude.{◌≡◌, Bool, true, false, ◌&&◌, ◌||◌, not, List, Ok, Err}
use Rattle.std.proofs.Math.Path.{refl, subst}
use Rattle.std.proofs.Common.{sym, ap, ◌∙◌}
use Rattle.std.proofs.Math.Logic.{⊎_elim}
use Prim.Native.Nat.{ℕ, zero, suc, ◌+◌, ◌<◌, ◌≤◌}
use Rattle.std.proofs.Math.Numerals.{add-one}
use native.Mathlib.Omega.{arith}
use Rattle.std.proofs.lemmas.Bool.{not-true, not-false}
use Rattle.whole.specs.Signed.{holds, lt_or_ge}
use Rattle.whole.specs.Truth.{either_of}
use Rattle.refusals.specs.declared.Refusal.{Refusal}
use Rattle.refusals.specs.Numbers.{answered}
use Rattle.refusals.specs.Laws.{done_on_0, refused_above_0}
use Rattle.limits.specs.Refusals.{first, any_upto, kept}

-- ---- tests joined by `||` of which none holds
pub neither_first : (a b : Bool) → (a || b) ≡ false → a ≡ false
neither_first true b e = e
neither_first false b e = refl

pub neither_second : (a b : Bool) → (a || b) ≡ false → b ≡ false
neither_second true b e = absurd (holds (sym e))
neither_second false b e = e

-- ---- a test of n things
module _ (test : ℕ → Bool) where
  pub any_none : false ≡ any_upto test 0
  unfolding any_upto
  any_none = refl

  pub any_more : (n : ℕ) → any_upto test (n + 1) ≡ (any_upto test n || test n)
  unfolding any_upto
  any_more n = rw add-one

  -- none of them passes where the answer is no
  pub each_fails : (n i : ℕ) → any_upto test n ≡ false → i < n → test i ≡ false
  unfolding any_upto
  each_fails zero i e h = absurd (omega arith)
  each_fails (suc n) i e h =
      ⊎_elim
      (λ l. each_fails n i (neither_first (any_upto test n) (test n) e) l)
      (λ l.
      let same : n ≡ i = omega arith in
      subst (λ (k : ℕ). test k ≡ false) same (neither_second (any_upto test n) (test n) e))
      (lt_or_ge i n)

  -- and one of them does where it is yes
  pub some_passes : (n : ℕ) → any_upto test n ≡ true → (i : ℕ) × (i < n) × (test i ≡ true)
  unfolding any_upto
  some_passes zero e = absurd (holds e)
  some_passes (suc n) e =
      ⊎_elim
      (λ before. let found = some_passes n before in (found.0, omega arith, found.2))
      (λ last. (n, omega arith, last))
      (either_of (any_upto test n) (test n) e)

  -- and the answer is no where none passes
  pub none_passes : (n : ℕ) → ((i : ℕ) → i < n → test i ≡ false) → any_upto test n ≡ false
  unfolding any_upto
  none_passes zero h = refl
  none_passes (suc n) h = rw (none_passes n (λ i l. h i (omega arith)), h n (omega arith))

-- two tests that are alike of each of n things
pub any_alike : (f g : ℕ → Bool) (n : ℕ) → ((i : ℕ) → i < n → f i ≡ g i) → any_upto f n ≡ any_upto g n
unfolding any_upto
any_alike f g zero h = refl
any_alike f g (suc n) h = let rest = any_alike f g n (λ i l. h i (omega arith)) in let last = h n (omega arith) in rw (rest, last)

-- ---- a test that holds of each of n things: none of them is one of which it doesn't
module _ (test : ℕ → Bool) where
  abbrev pub Fails : ℕ → Bool
  Fails i = not (test i)

  pub all_none : true ≡ not (any_upto Fails 0)
  all_none = ap not (any_none Fails)

  but_last : (a b : Bool) → not (a || not b) ≡ (not a && b)
  but_last true b = refl
  but_last false true = refl
  but_last false false = refl

  pub all_more : (n : ℕ) → not (any_upto Fails (n + 1)) ≡ (not (any_upto Fails n) && test n)
  all_more n = ap not (any_more Fails n) ∙ but_last (any_upto Fails n) (test n)

  pub each_passes : (n i : ℕ) → not (any_upto Fails n) ≡ true → i < n → test i ≡ true
  each_passes n i e h = not-false (test i) (each_fails Fails n i (not-true (any_upto Fails n) e) h)

-- ---- the front of a table that gives 0
pub first_passed : (test : Bool) (n rest : ℕ) → first test (1 + n) rest ≡ 0 → (test ≡ false) × (rest ≡ 0)
first_passed true n rest e = absurd (omega arith)
first_passed false n rest e = (refl, e)

-- the same of a test that says that a number does not apply
pub let_through : (holds : Bool) (n rest : ℕ) → first (not holds) (1 + n) rest ≡ 0 → (holds ≡ true) × (rest ≡ 0)
let_through holds n rest e = let both = first_passed (not holds) n rest e in (not-false holds both.0, both.1)

-- ---- no number of a table is above the highest that it has
pub first_most : {number rest most : ℕ} (test : Bool) → number ≤ most → rest ≤ most → first test number rest ≤ most
first_most true h r = h
first_most false h r = r

-- ---- a lent buffer, by the number
module _ {A : Type 0} (number : ℕ) (written held : List A) where
  pub kept_done : number ≡ 0 → kept number written held ≡ written
  kept_done e = rw e

  pub kept_refused : 0 < number → kept number written held ≡ held
  kept_refused h = go number h
    where
      go : (n : ℕ) → 0 < n → kept n written held ≡ held
      go zero l = absurd (omega arith)
      go (suc n) l = refl

  -- and by the answer
  pub kept_ok : {X : Type 0} (done : X) {given : X} → Ok given ≡ answered number done → kept number written held ≡ written
  kept_ok done e = kept_done (done_on_0 done _ number e)

  pub kept_err : {X : Type 0} (done : X) {refusal : Refusal} → Err refusal ≡ answered number done → kept number written held ≡ held
  kept_err done e = kept_refused (refused_above_0 done _ number e)
