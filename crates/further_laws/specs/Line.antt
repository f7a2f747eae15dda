-- Text put into a line at a place: one byte, a text, two texts one after the other, and what then stands at the front of the line. Assumes nothing.
use Rattle.std.specs.Prelude.{◌≡◌, refl, List, [], ◌∷◌, ◌++◌, ℕ, ◌+◌, ◌≤◌, ◌<◌, length, take, drop, set}
use Rattle.std.proofs.Common.{ap, subst, ◌∙◌, append_assoc, add-one, arith, length-append, take-suc-set, take_at, length-take-le}

-- the line with the text at a place; what stands before and behind it stays
abbrev pub laid : List ℕ → ℕ → List ℕ → List ℕ
laid line at text = take at line ++ text ++ drop (at + length text) line

-- Behind what stood before the place stands the text, and next is the place behind it.
pub record Puts (before : List ℕ) (at : ℕ) (text : List ℕ) (after : List ℕ) (next : ℕ) : Type 0 where
  pub next_is : next ≡ at + length text
  pub stands : take next after ≡ take at before ++ text

pub one_put : (l : List ℕ) (at v : ℕ) → at < length l → Puts l at (v ∷ []) (set l at v) (at + 1)
one_put l at v h = record { next_is = refl; stands = rw add-one (take-suc-set l at v h) }

pub text_put : (l : List ℕ) (at : ℕ) (text : List ℕ) → at + length text ≤ length l → Puts l at text (laid l at text) (at + length text)
text_put l at text h = record {
  next_is = refl;
  stands = take_at (take at l ++ text) (drop (at + length text) l) (at + length text)
      (length-append (take at l) text ∙ omega (arith, length-take-le at l (omega arith)));
}

pub both_put : {l m o a b : List ℕ} {at n p : ℕ} → Puts l at a m n → Puts m n b o p → Puts l at (a ++ b) o p
both_put {l} {m} {o} {a} {b} {at} {n} {p} first second = record {
  next_is = omega (arith, first.next_is, second.next_is, length-append a b);
  stands = second.stands ∙ ap (λ (s : List ℕ). s ++ b) first.stands ∙ append_assoc (take at l) a b;
}

-- from place 0 the text itself stands at the front
pub front_is : {l m text : List ℕ} {n : ℕ} → Puts l 0 text m n → take n m ≡ text
front_is p = p.stands

-- what stands behind a label may be put together first
pub regrouped : {l o : List ℕ} {at p : ℕ} (a b c : List ℕ) → Puts l at (a ++ b ++ c) o p → Puts l at (a ++ (b ++ c)) o p
regrouped {l} {o} {at} {p} a b c h = subst (λ (t : List ℕ). Puts l at t o p) (append_assoc a b c) h
