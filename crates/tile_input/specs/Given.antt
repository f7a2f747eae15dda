-- A tile that is given holds numbers from -255 to 255 alone. Assumes nothing.
use Rattle.std.specs.Prelude.{◌≡◌, refl, Bool, true, false, cond, List, [], ◌∷◌, ◌++◌, ℕ, zero, suc, ◌<◌, eqb, ltb, ℤ, pos, get_or, length, Result, Ok, Err}
use Rattle.std.proofs.Common.{subst, arith, ltb-true}
use Rattle.whole.specs.Signed.{neg_p, neg_n}
use Rattle.whole.specs.Interval.{Within}
use Rattle.distance.specs.Fours.{Tile}
use Rattle.distance.specs.Parts.{Small, SmallRows}
use Rattle.report_text.specs.Digits.{read_on}
use Rattle.tile_input.specs.declared.NoNumber.{NoNumber}
use Rattle.tile_input.specs.declared.NoNumber.TheVariants as no
use Rattle.tile_input.specs.declared.Unread.{Unread}
use Rattle.tile_input.specs.Input.{all_digits, signed_by, limited, numeral, number_of, words_of, number_at}
use Rattle.tile_input.specs.Input.{row_from, tile_from, closing, going, read_from, reading_of}

-- where two answers that differ were equal anything would hold
pub unlike : {A : Type 0} → ◌≡◌ {A = ℕ} 0 1 → A
unlike e = absurd (omega arith)

-- ---- a word's number
signed_lies : (negative : Bool) (n : ℕ) → n < 256 → Within 255 255 (signed_by negative n)
signed_lies true n h = omega (arith, neg_p (pos n), neg_n (pos n))
signed_lies false n h = omega arith

limited_lies : (negative : Bool) (n : ℕ) (z : ℤ) → limited negative n ≡ Ok z → Within 255 255 z
limited_lies negative n z e = go (ltb n 256) refl e
  where
    go : (t : Bool) → ltb n 256 ≡ t → cond t (Ok (signed_by negative n)) (Err no.Wrong) ≡ Ok z → Within 255 255 z
    go true h e = let same : signed_by negative n ≡ z = cc in subst (Within 255 255) same (signed_lies negative n (ltb-true n 256 h))
    go false h e = unlike (cc)

numeral_lies : (negative : Bool) (w : List ℕ) (z : ℤ) → numeral negative w ≡ Ok z → Within 255 255 z
numeral_lies negative [] z e = unlike (cc)
numeral_lies negative (c ∷ w) z e = go (all_digits (c ∷ w)) e
  where
    go : (t : Bool) → cond t (limited negative (read_on 0 (c ∷ w))) (Err no.Wrong) ≡ Ok z → Within 255 255 z
    go true e = limited_lies negative (read_on 0 (c ∷ w)) z e
    go false e = unlike (cc)

number_lies : (w : List ℕ) (z : ℤ) → number_of w ≡ Ok z → Within 255 255 z
number_lies [] z e = unlike (cc)
number_lies (c ∷ w) z e = go (eqb c 45) e
  where
    go : (t : Bool) → cond t (numeral true w) (numeral false (c ∷ w)) ≡ Ok z → Within 255 255 z
    go true e = numeral_lies true w z e
    go false e = numeral_lies false (c ∷ w) z e

-- ---- the numbers read so far
abbrev Lie : List ℤ → Type 0
Lie l = (i : ℕ) → Within 255 255 (get_or l i (pos 0))

one_more : (l : List ℤ) (z : ℤ) → Lie l → Within 255 255 z → Lie (l ++ (z ∷ []))
one_more [] z h k zero = k
one_more [] z h k (suc i) = h 0
one_more (y ∷ l) z h k zero = h 0
one_more (y ∷ l) z h k (suc i) = one_more l z (λ i. h (suc i)) k i

row_lies : (l : List ℤ) (i : ℕ) → Lie l → Small 255 (row_from l i)
row_lies l i h = record { at_a = h _; at_b = h _; at_c = h _; at_d = h _ }

tile_lies : (l : List ℤ) → Lie l → SmallRows 255 (tile_from l)
tile_lies l h = record { at_a = row_lies l 0 h; at_b = row_lies l 4 h; at_c = row_lies l 8 h; at_d = row_lies l 12 h }

closing_lies : (l : List ℤ) (n : Result ℤ NoNumber) (t : Tile) → Lie l → closing l n ≡ Ok t → SmallRows 255 t
closing_lies l (Ok z) t h e = unlike (cc)
closing_lies l (Err no.Wrong) t h e = unlike (cc)
closing_lies l (Err no.Missing) t h e = let same : tile_from l ≡ t = cc in subst (SmallRows 255) same (tile_lies l h)

going_lies : (n : Result ℤ NoNumber) (place : ℕ) (next : ℤ → Result Tile Unread) (t : Tile) → ((z : ℤ) → n ≡ Ok z → next z ≡ Ok t → SmallRows 255 t) →
    going n place next ≡ Ok t → SmallRows 255 t
going_lies (Ok z) place next t on e = on z refl e
going_lies (Err no.Wrong) place next t on e = unlike (cc)
going_lies (Err no.Missing) place next t on e = unlike (cc)

read_lies : (at : ℕ → Result ℤ NoNumber) → ((place : ℕ) (z : ℤ) → at place ≡ Ok z → Within 255 255 z) →
    (left : ℕ) (l : List ℤ) (t : Tile) → Lie l → read_from at left l ≡ Ok t → SmallRows 255 t
unfolding read_from
read_lies at each zero l t h e = closing_lies l (at (length l)) t h e
read_lies at each (suc left) l t h e =
    going_lies (at (length l)) (length l) (λ z. read_from at left (l ++ (z ∷ []))) t
    (λ z is f. read_lies at each left (l ++ (z ∷ [])) t (one_more l z h (each (length l) z is)) f)
    e

pub given_small : (text : List ℕ) (t : Tile) → reading_of text ≡ Ok t → SmallRows 255 t
given_small text t e = read_lies (number_at text) (λ place z is. number_lies (get_or (words_of text) place []) z is) 16 [] t (λ i. omega arith) e
