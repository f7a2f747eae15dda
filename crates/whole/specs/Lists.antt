-- A slice that is filled from its start on: what was written, and behind it what was there. Assumes nothing.
use Rattle.std.specs.Prelude.{◌≡◌, List, [], ◌∷◌, ◌++◌, ℕ, suc, ◌+◌, ◌<◌, length, get_or, set, take, drop}
use Rattle.std.proofs.Common.{sym, ap, ◌∙◌, add-one, arith, take_at, take_all, drop-drop, drop-cons}
use Rattle.std.proofs.Math.Seq.{paste, drop-append-add, append_snoc}
use Rattle.std.proofs.lemmas.List.{set_at}

-- the next run of elements goes where the old tail begins
pub paste_next : {A : Type 0} (a w d : List A) (n k : ℕ) → length a ≡ n → length w ≡ k → paste (a ++ drop n d) n w k ≡ (a ++ w) ++ drop (n + k) d
paste_next {A = A} a w d n k p q =
    ap (λ (l : List A). l ++ take k w ++ drop (n + k) (a ++ drop n d)) (take_at a (drop n d) n p)
    ∙ ap (λ (l : List A). a ++ l ++ drop (n + k) (a ++ drop n d)) (take_all k w (omega arith))
    ∙ ap (λ (l : List A). a ++ w ++ l)
    (ap (λ (m : ℕ). drop (m + k) (a ++ drop n d)) (sym p) ∙ drop-append-add a (drop n d) k ∙ drop-drop k n d)

-- and so does a single element; `default` is what a list gives behind its end, and is never met
pub set_next : {A : Type 0} (default : A) (a d : List A) (n : ℕ) (x : A) → length a ≡ n → n < length d →
    set (a ++ drop n d) n x ≡ (a ++ x ∷ []) ++ drop (n + 1) d
set_next {A = A} default a d n x p l =
    rw add-one
    (ap (λ (m : List A). set (a ++ m) n x) (drop-cons d n default l)
    ∙ set_at a (get_or d n default) (drop (suc n) d) x n p
    ∙ sym (append_snoc a x (drop (suc n) d)))
