-- Bests by five at a time: each has the four numbers of its entry that are looked at, and a turn over the indices and the bests comes to the next entry.
-- Assumes nothing.
use Rattle.std.specs.Prelude.{◌≡◌, List, [], ℕ, zero, suc, ◌+◌, ◌*◌, ◌/◌, ◌<◌, ℤ, pos, length, get_or, take, drop, Some}
use Rattle.std.proofs.Common.{ap, ◌∙◌, arith, Iter}
use Rattle.std.proofs.lemmas.List.{get_or-take, get_or-drop, drop-drop}
use Rattle.std.proofs.lemmas.Iterator.{zips}
use Rattle.std.proofs.lemmas.Slice.Zip.{zip_turn}
use Rattle.std.proofs.iter.Yields.{fronts}
use Rattle.std.specs.declared.option.Option.{Option}
use Rattle.std.specs.declared.iter.Zip.{Zip}
use Rattle.std.specs.Iterator.{Yields}
use Rattle.std.specs.Iterator.Adapters.{zip_first, zip_second}
use Rattle.std.specs.Slice.Iter.{iter_rest}
use Rattle.std.specs.Simd.{first_chunks}
use denote.Ref.{Bor}
use Rattle.limits.specs.Sizes.{numbers_per_best}
use Rattle.finishing.specs.Finish.{index_at, x_at, y_at, sad_at, average_at}

chunk_at : (n k : ℕ) (xs : List ℤ) (i : ℕ) → i < k → get_or (first_chunks n k xs) i [] ≡ take n (drop (n * i) xs)
chunk_at n zero xs i h = absurd (omega arith)
chunk_at n (suc k) xs zero h = let none : 0 ≡ n * 0 = omega arith in ap (λ (m : ℕ). take n (drop m xs)) none
chunk_at n (suc k) xs (suc i) h =
    let next : n + n * i ≡ n * suc i = omega arith in
    chunk_at n k (drop n xs) i (omega arith) ∙ ap (take n) (drop-drop (n * i) n xs ∙ ap (λ (m : ℕ). drop m xs) next)

-- the numbers of an entry's best
pub record IsBestOf (bests : List ℤ) (n : ℕ) (best : List ℤ) : Type 0 where
  pub x : get_or best 0 (pos 0) ≡ x_at bests n
  pub y : get_or best 1 (pos 0) ≡ y_at bests n
  pub sad : get_or best 2 (pos 0) ≡ sad_at bests n
  pub average : get_or best 3 (pos 0) ≡ average_at bests n

module _ (k : ℕ) (bests : List ℤ) (n : ℕ) (inside : n < k) where
  has : (j : ℕ) → j < 5 → get_or (get_or (first_chunks 5 k bests) n []) j (pos 0) ≡ get_or bests (5 * n + j) (pos 0)
  has j h =
      ap (λ (best : List ℤ). get_or best j (pos 0)) (chunk_at 5 k bests n inside)
      ∙ get_or-take 5 (drop (5 * n) bests) j (pos 0) h
      ∙ get_or-drop (5 * n) bests j (pos 0)

  pub best_of : IsBestOf bests n (get_or (first_chunks 5 k bests) n [])
  best_of =
      let start : 5 * n + 0 ≡ 5 * n = omega arith in
      record {
        x = has 0 (omega arith) ∙ ap (λ (i : ℕ). get_or bests i (pos 0)) start;
        y = has 1 (omega arith);
        sad = has 2 (omega arith);
        average = has 3 (omega arith);
      }

-- ---- a turn
pub record ComesTo (indices bests : List ℤ) (n : ℕ) (index : ℤ) (best : List ℤ) : Type 0 where
  pub inside : n < length indices
  pub index_is : index ≡ index_at indices n
  pub best_is : IsBestOf bests n best

module _ {indices : List ℤ} (bests : List ℤ) (yielded : List (Bor ℤ × Bor (List ℤ))) (s t u : Zip (Iter ℤ) (Iter (List ℤ))) {r : Option (Bor ℤ × Bor (List ℤ))} where
  pub turn : iter_rest (zip_first s) ≡ indices → iter_rest (zip_second s) ≡ first_chunks 5 (length bests / 5) bests → Yields (zips fronts fronts) s yielded t →
      length bests ≡ numbers_per_best * length indices → (index : Bor ℤ) (best : Bor (List ℤ)) → r ≡ Some (index, best) → zips fronts fronts t r u →
      ComesTo indices bests (length yielded) index.now best.now
  turn first second y five index best e h =
      let z = zip_turn indices (first_chunks 5 (length bests / 5) bests) yielded s t u r first second y (index, best) e h in
      let of = best_of (length bests / 5) bests (length yielded) (omega arith) in
      record { inside = z.0; index_is = z.2 (pos 0); best_is = rw (z.3 []) of }
