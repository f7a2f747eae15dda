-- A buffer that holds the walk's first p blocks, and behind them what stood there: at 0 the buffer itself, with each pair of stores one block more, at the end
-- the whole order. Assumes nothing.
use Rattle.std.specs.Prelude.{◌≡◌, refl, ℤ, length}
use Rattle.std.proofs.Math.Path.{sym, ap}
use Rattle.std.proofs.Common.{◌∙◌, length-take-le, take_all, take-suc}
use mathlib.Core.List.{List, [], ◌∷◌, ◌++◌, append_assoc}
use Prim.Native.Nat.{ℕ, zero, suc, ◌+◌, ◌*◌, ◌≤◌, ◌<◌}
use Rattle.std.proofs.Math.Numerals.{add-one}
use native.Mathlib.Omega.{arith}
use Rattle.std.proofs.Math.IntN.{pos}
use Rattle.std.proofs.Math.ListN.{get_or, take, drop, set, length-append, length-drop, get_or-append}
use Rattle.std.proofs.Math.Seq.{drop-cons, append_snoc}
use Rattle.std.proofs.lemmas.List.{set_at}
use Rattle.serpentine.specs.declared.Place.{Place}
use Rattle.serpentine.specs.Walk.{at, walk, block_at, numbers, filled}
use Rattle.serpentine.specs.Standing.{walk_length}

numbers_length : (l : List Place) → length (numbers l) ≡ 2 * length l
unfolding numbers
numbers_length [] = refl
numbers_length (b ∷ l) = let e = numbers_length l in omega arith

numbers_more : (l : List Place) (b : Place) → numbers (l ++ (b ∷ [])) ≡ numbers l ++ (pos b.x ∷ pos b.y ∷ [])
unfolding numbers
numbers_more [] b = refl
numbers_more (a ∷ l) b = ap (λ (s : List ℤ). pos a.x ∷ pos a.y ∷ s) (numbers_more l b)

numbers_x : (l : List Place) (k : ℕ) (d : Place) → k < length l → get_or (numbers l) (2 * k) (pos 0) ≡ pos (get_or l k d).x
unfolding numbers
numbers_x [] k d h = absurd (omega arith)
numbers_x (b ∷ l) zero d h = refl
numbers_x (b ∷ l) (suc k) d h =
    let here : 2 * suc k ≡ suc (suc (2 * k)) = omega arith in
    rw here (numbers_x l k d (omega arith))

numbers_y : (l : List Place) (k : ℕ) (d : Place) → k < length l → get_or (numbers l) (2 * k + 1) (pos 0) ≡ pos (get_or l k d).y
unfolding numbers
numbers_y [] k d h = absurd (omega arith)
numbers_y (b ∷ l) zero d h = refl
numbers_y (b ∷ l) (suc k) d h =
    let here : 2 * suc k + 1 ≡ suc (suc (2 * k + 1)) = omega arith in
    rw here (numbers_y l k d (omega arith))

-- the order has at each position the block that stands there
pub filled_at : (nx ny : ℕ) → 2 ≤ nx → 2 ≤ ny → (s : List ℤ) (p : ℕ) → p < nx * ny →
    (get_or (filled nx ny s) (2 * p) (pos 0) ≡ pos (block_at nx ny p).x) × (get_or (filled nx ny s) (2 * p + 1) (pos 0) ≡ pos (block_at nx ny p).y)
unfolding filled block_at
filled_at nx ny W H s p h =
    let w = walk nx ny in
    let long = walk_length nx ny W H in
    let tail = drop (2 * (nx * ny)) s in
    let even : 2 * p < length (numbers w) = omega (arith, numbers_length w) in
    let odd : 2 * p + 1 < length (numbers w) = omega (arith, numbers_length w) in (
      get_or-append (numbers w) tail (pos 0) (2 * p) even ∙ numbers_x w p (at 0 0) (omega arith),
      get_or-append (numbers w) tail (pos 0) (2 * p + 1) odd ∙ numbers_y w p (at 0 0) (omega arith),
    )

pub begun : ℕ → ℕ → List ℤ → ℕ → List ℤ
begun nx ny s p = numbers (take p (walk nx ny)) ++ drop (2 * p) s

pub none_yet : (nx ny : ℕ) (s : List ℤ) → s ≡ begun nx ny s 0
unfolding begun numbers
none_yet nx ny s = refl

-- two stores, one behind the other
two_stores : (front : List ℤ) (a b x y : ℤ) (rest : List ℤ) (n : ℕ) → length front ≡ n →
    set (set (front ++ a ∷ b ∷ rest) n x) (n + 1) y ≡ front ++ x ∷ y ∷ rest
two_stores front a b x y rest n e =
    let long : length (front ++ (x ∷ [])) ≡ n + 1 = omega (arith, length-append front (x ∷ [])) in
    ap (λ (s : List ℤ). set s (n + 1) y) (set_at front a (b ∷ rest) x n e ∙ sym (append_snoc front x (b ∷ rest)))
    ∙ set_at (front ++ (x ∷ [])) b rest y (n + 1) long ∙ append_snoc front x (y ∷ rest)

module _ (nx ny : ℕ) (W : 2 ≤ nx) (H : 2 ≤ ny) (s : List ℤ) (room : 2 * (nx * ny) ≤ length s) where
  front_length : (p : ℕ) → p ≤ nx * ny → length (numbers (take p (walk nx ny))) ≡ 2 * p
  front_length p h = omega (arith, numbers_length (take p (walk nx ny)), length-take-le p (walk nx ny) (omega (arith, walk_length nx ny W H)))

  pub begun_length : (p : ℕ) → p ≤ nx * ny → length (begun nx ny s p) ≡ length s
  unfolding begun
  begun_length p h =
      length-append (numbers (take p (walk nx ny))) (drop (2 * p) s) ∙ omega (arith, front_length p h, length-drop (2 * p) s)

  pub one_more : (p : ℕ) → p < nx * ny →
      set (set (begun nx ny s p) (2 * p) (pos (block_at nx ny p).x)) (2 * p + 1) (pos (block_at nx ny p).y) ≡ begun nx ny s (p + 1)
  unfolding begun block_at
  one_more p h =
      let w = walk nx ny in
      let b = get_or w p (at 0 0) in
      let front = numbers (take p w) in
      let x = pos b.x in
      let y = pos b.y in
      let places : take (p + 1) w ≡ take p w ++ (b ∷ []) = rw add-one (take-suc w p (at 0 0) (omega (arith, walk_length nx ny W H))) in
      let onward : suc (suc (2 * p)) ≡ 2 * (p + 1) = omega arith in
      let tail : drop (2 * p) s ≡ get_or s (2 * p) (pos 0) ∷ get_or s (suc (2 * p)) (pos 0) ∷ drop (2 * (p + 1)) s
      = drop-cons s (2 * p) (pos 0) (omega arith)
      ∙ ap (λ (r : List ℤ). get_or s (2 * p) (pos 0) ∷ r) (drop-cons s (suc (2 * p)) (pos 0) (omega arith))
      ∙ ap (λ (n : ℕ). get_or s (2 * p) (pos 0) ∷ get_or s (suc (2 * p)) (pos 0) ∷ drop n s) onward in
      ap (λ (r : List ℤ). set (set (front ++ r) (2 * p) x) (2 * p + 1) y) tail
      ∙ two_stores front _ _ x y (drop (2 * (p + 1)) s) (2 * p) (front_length p (omega arith))
      ∙ sym (append_assoc front (x ∷ y ∷ []) (drop (2 * (p + 1)) s))
      ∙ ap (λ (r : List ℤ). r ++ drop (2 * (p + 1)) s) (sym (ap numbers places ∙ numbers_more (take p w) b))

  pub all_done : begun nx ny s (nx * ny) ≡ filled nx ny s
  unfolding begun filled
  all_done = rw (take_all (nx * ny) (walk nx ny) (omega (arith, walk_length nx ny W H)))

  pub done_at : (p : ℕ) → p ≡ nx * ny → begun nx ny s p ≡ filled nx ny s
  done_at p e = ap (begun nx ny s) e ∙ all_done
