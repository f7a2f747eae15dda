-- Lists made of pieces, and lists turned round: how long they are, and what stands where. Assumes nothing.
use Rattle.std.specs.Prelude.{◌≡◌, refl, Bool, true, false, cond, eqb}
use Rattle.std.proofs.Common.{sym, ◌∙◌, eqb-true, eq-eqb}
use Rattle.std.proofs.Math.Path.{ap}
use mathlib.Core.List.{List, [], ◌∷◌, ◌++◌, reverse, reverse_aux}
use Rattle.std.proofs.Math.Logic.{⊎_elim}
use Prim.Native.Nat.{ℕ, zero, suc, ◌+◌, ◌-◌, ◌*◌, ◌<◌}
use Rattle.std.proofs.Math.Nat.{mul-le-mul_right}
use native.Mathlib.Omega.{arith}
use Rattle.std.proofs.Math.ListN.{length, get_or, length-append, get_or-append}
use Rattle.std.proofs.Math.Seq.{get_or-append-add}
use Rattle.whole.specs.Signed.{lt_or_ge}
use Rattle.whole.specs.Truth.{left_of, right_of}
use Rattle.serpentine.specs.declared.Place.{Place}
use Rattle.serpentine.specs.Walk.{at, each, same, places_before}

-- ---- pieces of one length w
module _ (w : ℕ) (f : ℕ → List Place) (long : (i : ℕ) → length (f i) ≡ w) where
  pub each_long : (n : ℕ) → length (each n f) ≡ n * w
  unfolding each
  each_long zero = omega arith
  each_long (suc n) = simp length-append (omega (arith, each_long n, long n))

  pub each_at : (n i j : ℕ) (d : Place) → i < n → j < w → get_or (each n f) (i * w + j) d ≡ get_or (f i) j d
  unfolding each
  each_at zero i j d h l = absurd (omega arith)
  each_at (suc n) i j d h l = ⊎_elim
      (λ m.
      let here : i * w + j < length (each n f) = omega (arith, each_long n, mul-le-mul_right w m) in
      get_or-append (each n f) (f n) d (i * w + j) here ∙ each_at n i j d m l)
      (λ m.
      let e : i ≡ n = omega arith in
      let here : i * w + j ≡ length (each n f) + j = omega (arith, each_long n, ap (λ (z : ℕ). z * w) e) in
      ap (λ (z : ℕ). get_or (each n f ++ f n) z d) here ∙ get_or-append-add (each n f) (f n) j d ∙ ap (λ (z : ℕ). get_or (f z) j d) (sym e))
      (lt_or_ge i n)

-- ---- a list turned round
module _ {A : Type 0} where
  turned_rest : (l r : List A) (i : ℕ) (d : A) → get_or (reverse_aux l r) (length l + i) d ≡ get_or r i d
  turned_rest [] r i d = ap (λ (z : ℕ). get_or r z d) (omega arith)
  turned_rest (a ∷ l) r i d =
      let here : suc (length l) + i ≡ length l + suc i = omega arith in
      rw here (turned_rest l (a ∷ r) (suc i) d)

  turned_front : (l r : List A) (i : ℕ) (d : A) → i < length l → get_or (reverse_aux l r) i d ≡ get_or l (length l - 1 - i) d
  turned_front [] r i d h = absurd (omega arith)
  turned_front (a ∷ l) r i d h = ⊎_elim
      (λ m.
      let there : suc (length l - 1 - i) ≡ suc (length l) - 1 - i = omega arith in
      turned_front l (a ∷ r) i d m ∙ ap (λ (z : ℕ). get_or (a ∷ l) z d) there)
      (λ m.
      let here : i ≡ length l + 0 = omega arith in
      let there : 0 ≡ suc (length l) - 1 - i = omega arith in
      ap (λ (z : ℕ). get_or (reverse_aux l (a ∷ r)) z d) here ∙ turned_rest l (a ∷ r) 0 d ∙ ap (λ (z : ℕ). get_or (a ∷ l) z d) there)
      (lt_or_ge i (length l))

  pub turned_at : (l : List A) (i : ℕ) (d : A) → i < length l → get_or (reverse l) i d ≡ get_or l (length l - 1 - i) d
  turned_at l i d h = turned_front l [] i d h

-- ---- one place to each piece
module _ (f : ℕ → Place) (n i : ℕ) (d : Place) (h : i < n) where
  pub singles_at : get_or (each n (λ j. f j ∷ [])) i d ≡ f i
  singles_at =
      let here : i ≡ i * 1 + 0 = omega arith in
      ap (λ (z : ℕ). get_or (each n (λ j. f j ∷ [])) z d) here ∙ each_at 1 (λ j. f j ∷ []) (λ j. refl) n i 0 d h (omega arith)

pub singles_long : (f : ℕ → Place) (n : ℕ) → length (each n (λ j. f j ∷ [])) ≡ n
singles_long f n = each_long 1 (λ j. f j ∷ []) (λ j. refl) n ∙ omega arith

-- ---- the places before one
same_is : (a b : Place) → same a b ≡ true → a ≡ b
same_is a b e =
    let p = eqb-true a.x b.x (left_of (eqb a.x b.x) (eqb a.y b.y) e) in
    let q = eqb-true a.y b.y (right_of (eqb a.x b.x) (eqb a.y b.y) e) in
    λ i. at (p i) (q i)

same_of : (a b : Place) → a ≡ b → same a b ≡ true
same_of a b e = rw (eq-eqb a.x b.x (ap (λ (c : Place). c.x) e), eq-eqb a.y b.y (ap (λ (c : Place). c.y) e))

differ : (t : Bool) → (t ≡ true → ⊥) → t ≡ false
differ true h = absurd (h refl)
differ false h = refl

pub before_first : (b : Place) (l : List Place) (k : ℕ) (d : Place) → k < length l → get_or l k d ≡ b → ((j : ℕ) → j < k → get_or l j d ≡ b → ⊥) →
    places_before b l ≡ k
unfolding places_before
before_first b [] k d h e first = absurd (omega arith)
before_first b (a ∷ l) zero d h e first = rw (same_of a b e)
before_first b (a ∷ l) (suc k) d h e first =
    let apart : same a b ≡ false = differ (same a b) (λ s. first 0 (omega arith) (same_is a b s)) in
    rw apart (ap suc (before_first b l k d (omega arith) e (λ j m. first (suc j) (omega arith))))

-- ---- how often a list gives a place
unfoldable pub times_given : Place → List Place → ℕ
times_given b [] = 0
times_given b (a ∷ rest) = cond (same a b) (suc (times_given b rest)) (times_given b rest)

never_given : (b : Place) (l : List Place) (d : Place) → ((j : ℕ) → j < length l → get_or l j d ≡ b → ⊥) → times_given b l ≡ 0
unfolding times_given
never_given b [] d none = refl
never_given b (a ∷ l) d none =
    let apart : same a b ≡ false = differ (same a b) (λ s. none 0 (omega arith) (same_is a b s)) in
    rw apart (never_given b l d (λ j m. none (suc j) (omega arith)))

pub given_once : (b : Place) (l : List Place) (k : ℕ) (d : Place) → k < length l → get_or l k d ≡ b → ((j : ℕ) → j < length l → get_or l j d ≡ b → j ≡ k) →
    times_given b l ≡ 1
unfolding times_given
given_once b [] k d h e only = absurd (omega arith)
given_once b (a ∷ l) zero d h e only =
    rw (same_of a b e) (ap suc (never_given b l d (λ j m f. let z = only (suc j) (omega arith) f in omega arith)))
given_once b (a ∷ l) (suc k) d h e only =
    let apart : same a b ≡ false = differ (same a b) (λ s. let z = only 0 (omega arith) (same_is a b s) in omega arith) in
    rw apart (given_once b l k d (omega arith) e (λ j m f. let z = only (suc j) (omega arith) f in omega arith))
