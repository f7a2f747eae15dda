-- For callers: a cost looks at the w x h samples alone; a packed block, and a block that lies inside a slice, are held as `Given` asks; and
-- the block of a slice's tail is a block of the slice. Assumes nothing.
use Rattle.std.specs.Prelude.{◌≡◌, Bool, true, false, List, ℕ, ◌+◌, ◌-◌, ◌*◌, ◌/◌, ◌≤◌, ◌<◌, length, get_or, take, drop}
use Rattle.std.proofs.Common.{ap, sym, ◌∙◌, ⊎_elim, mul_comm, arith, length-take, length-drop, get_or-take, get_or-drop}
use Rattle.std.proofs.Math.ListN.{get_or-eq_default}
use Rattle.whole.specs.Signed.{lt_or_ge}
use Rattle.distance.specs.Distance.{Block, block_of, Holds, differ, sad, satd, cost_of}
use Rattle.distance.specs.Sums.{sum_eq}
use Rattle.distance.proofs.HadamardLaws.{tile_same}
use Rattle.distance.specs.Laws.{Agree}

module _ (w h : ℕ) (a a' b b' : Block) (e : Agree w h a a') (f : Agree w h b b') where
  sad_same : sad w h a b ≡ sad w h a' b'
  sad_same = sum_eq h (λ y l. sum_eq w (λ x m. rw (e y x l m, f y x l m)))

  satd_same : satd w h a b ≡ satd w h a' b'
  satd_same =
      ap (λ (k : ℕ). k / 2)
      (sum_eq (h / 4) (λ i l. sum_eq (w / 4) (λ j m.
      tile_same (differ a b (4 * i) (4 * j)) (differ a' b' (4 * i) (4 * j))
      (λ y x u v. rw (e (4 * i + y) (4 * j + x) (omega arith) (omega arith), f (4 * i + y) (4 * j + x) (omega arith) (omega arith))))))

  pub cost_same : (measure : Bool) → cost_of measure w h a b ≡ cost_of measure w h a' b'
  cost_same true = satd_same
  cost_same false = sad_same

-- a packed block: w * h samples with pitch w
pub packed_holds : (s : List ℕ) (w h : ℕ) → 0 < h → w * h ≤ length s → Holds s w w h
packed_holds s w h l m =
    let e : h ≡ (h - 1) + 1 = omega arith in omega (arith, mul_comm w h, ap (λ (n : ℕ). n * w) e)

-- ---- a slice's tail from i, as `&s[i..]` lends it
module _ (s : List ℕ) (i p : ℕ) where
  pub tail_holds : (w h : ℕ) → i + (h - 1) * p + w ≤ length s → Holds (take (length s - i) (drop i s)) p w h
  tail_holds w h l = simp (length-take, length-drop) (omega arith)

  -- the tail counts 0 outside, as the slice does
  pub tail_block : (y x : ℕ) → block_of (take (length s - i) (drop i s)) p y x ≡ get_or s (i + (y * p + x)) 0
  tail_block y x =
      ⊎_elim
      (λ l. get_or-take (length s - i) (drop i s) (y * p + x) 0 l ∙ get_or-drop i s (y * p + x) 0)
      (λ (l : length s - i ≤ y * p + x). get_or-eq_default (take (length s - i) (drop i s)) 0 (simp (length-take, length-drop) (omega arith))
      ∙ sym (get_or-eq_default s 0 (omega arith)))
      (lt_or_ge (y * p + x) (length s - i))
