-- What the proofs over slices share: rows and tiles that end inside a slice, what a part of a slice holds, the differences that the code
-- takes of two slices as those of two blocks, and how large they get between bytes. Assumes nothing.
use Rattle.std.specs.Prelude.{◌≡◌, refl, List, [], ◌∷◌, ℕ, zero, suc, ◌+◌, ◌-◌, ◌*◌, ◌/◌, ◌≤◌, ◌<◌, pos, ◌-ℤ◌, length, get_or, take, drop}
use Rattle.std.specs.List.{zip, sum_by}
use Rattle.std.proofs.Common.{ap, sym, ◌∙◌, arith, length-take, length-drop, get_or-take, get_or-drop, mul-le-mul_right}
use Rattle.std.proofs.lemmas.List.Sums.{sum_by-cons}
use native.Mathlib.Nat.{add-mul}
use Rattle.distance.specs.Distance.{sum, gap, block_of, tile_sum, differ}
use Rattle.distance.specs.Sums.{sum_zero, sum_front, sum_eq}
use Rattle.distance.specs.Fours.{Quad, pick}
use Rattle.distance.specs.Parts.{gaps, entry, row_less, tile_less, tiles_less}
use Rattle.distance.proofs.HadamardLaws.{tile_same}

-- ---- the gaps of two rows, pair by pair
pub gaps_zip : (s t : List ℕ) → length t ≡ length s → sum_by (λ p. gap p.0 p.1) (zip s t) ≡ gaps (length s) s t
gaps_zip [] t e = sym (sum_zero _)
gaps_zip (x ∷ s) [] e = absurd (omega arith)
gaps_zip (x ∷ s) (y ∷ t) e =
    sum_by-cons (λ (p : ℕ × ℕ). gap p.0 p.1) (x, y) (zip s t)
    ∙ ap (λ (n : ℕ). gap x y + n) (gaps_zip s t (omega arith))
    ∙ sym (sum_front (length s) (λ (i : ℕ). gap (get_or (x ∷ s) i 0) (get_or (y ∷ t) i 0)))

-- ---- a row above the last ends inside
pub inside : (h p w n : ℕ) {y : ℕ} → (h - 1) * p + w ≤ n → y < h → y * p + w ≤ n
inside h p w n {y} l m = let k : y ≤ h - 1 = omega arith in omega (arith, mul-le-mul_right p k)

-- so does the last row of a row of tiles
pub tiles_inside : (h p w n : ℕ) {i : ℕ} → (h - 1) * p + w ≤ n → i < h / 4 → 4 * i * p + (3 * p + 4 * (w / 4)) ≤ n
tiles_inside h p w n {i} l m =
    let y : 4 * i + 3 < h = omega arith in
    omega (arith, inside h p w n l y, add-mul (4 * i) 3 p)

-- ---- the part of a slice from i, of w samples
abbrev pub part : List ℕ → ℕ → ℕ → List ℕ
part s i w = take (i + w - i) (drop i s)

pub part_length : (s : List ℕ) (i w : ℕ) → i + w ≤ length s → length (part s i w) ≡ w
part_length s i w l = simp (length-take, length-drop) (omega arith)

pub part_at : (s : List ℕ) (i w : ℕ) {x : ℕ} → x < w → get_or (part s i w) x 0 ≡ get_or s (i + x) 0
part_at s i w {x} l = let m : x < i + w - i = omega arith in rw (get_or-take, get_or-drop)

pub part_gaps : (s t : List ℕ) (i k w : ℕ) → i + w ≤ length s → gaps (length (part s i w)) (part s i w) (part t k w) ≡ sum w (λ x. gap (get_or s (i + x) 0) (get_or t (k + x) 0))
part_gaps s t i k w l = rw (part_length s i w l) (sum_eq w (λ x m. rw (part_at s i w m, part_at t k w m)))

-- ---- differences
pub less_at : (s t : List ℕ) {i j k l : ℕ} → i ≡ j → k ≡ l → pos (get_or s i 0) -ℤ pos (get_or t k 0) ≡ pos (get_or s j 0) -ℤ pos (get_or t l 0)
less_at s t e f = rw (e, f)

pub rows_same : {s s' t t' : List ℕ} (x : ℕ) → s ≡ s' → t ≡ t' → pos (get_or s x 0) -ℤ pos (get_or t x 0) ≡ pos (get_or s' x 0) -ℤ pos (get_or t' x 0)
rows_same x e f = rw (e, f)

-- of two parts
pub part_less : (s t : List ℕ) (i k w x : ℕ) → x < w → pos (get_or (part s i w) x 0) -ℤ pos (get_or (part t k w) x 0) ≡ pos (get_or s (i + x) 0) -ℤ pos (get_or t (k + x) 0)
part_less s t i k w x l = rw (part_at s i w l, part_at t k w l)

row_at : (s t : List ℕ) (i k x : ℕ) → x < 4 → pick (row_less s i t k) x ≡ pos (get_or s (i + x) 0) -ℤ pos (get_or t (k + x) 0)
row_at s t i k zero l = less_at s t (omega arith) (omega arith)
row_at s t i k (suc zero) l = refl
row_at s t i k (suc (suc zero)) l = refl
row_at s t i k (suc (suc (suc zero))) l = refl
row_at s t i k (suc (suc (suc (suc x)))) l = absurd (omega arith)

-- four rows of differences, each a pitch further, are the tile
pub rows_tile : (s t : List ℕ) (p q : ℕ) {a b c d : Quad} → a ≡ row_less s (0 * p) t (0 * q) → b ≡ row_less s (1 * p) t (1 * q) → c ≡ row_less s (2 * p) t (2 * q) → d ≡ row_less s (3 * p) t (3 * q) → tile_sum (entry (record { a = a; b = b; c = c; d = d })) ≡ tile_sum (tile_less s 0 p t 0 q)
rows_tile s t p q {a} {b} {c} {d} ea eb ec ed = tile_same (entry (record { a = a; b = b; c = c; d = d })) (tile_less s 0 p t 0 q) go
  where
    row : {r : Quad} (y x : ℕ) → r ≡ row_less s (y * p) t (y * q) → x < 4 → pick r x ≡ tile_less s 0 p t 0 q y x
    row y x e m = ap (λ (r : Quad). pick r x) e ∙ row_at s t (y * p) (y * q) x m ∙ less_at s t (omega arith) (omega arith)

    go : (y x : ℕ) → y < 4 → x < 4 → entry (record { a = a; b = b; c = c; d = d }) y x ≡ tile_less s 0 p t 0 q y x
    go zero x l m = row 0 x ea m
    go (suc zero) x l m = row 1 x eb m
    go (suc (suc zero)) x l m = row 2 x ec m
    go (suc (suc (suc zero))) x l m = row 3 x ed m
    go (suc (suc (suc (suc y)))) x l m = absurd (omega arith)

-- a row of one tile
pub tile_alone : (s t : List ℕ) (p q : ℕ) {r : ℕ} → r ≡ tile_sum (tile_less s 0 p t 0 q) → r ≡ tiles_less 1 s 0 p t 0 q
unfolding sum
tile_alone s t p q e =
    let same = tile_same (tile_less s 0 p t 0 q) (tile_less s (0 + 4 * 0) p t (0 + 4 * 0) q) (λ y x l m. less_at s t (omega arith) (omega arith)) in
    omega arith

-- a row of tiles of two slices from row i on is one of their two blocks
place : (s : List ℕ) (i j p y x : ℕ) → get_or (drop (i * p) s) (0 + j + y * p + x) 0 ≡ get_or s ((i + y) * p + (j + x)) 0
place s i j p y x =
    let e : i * p + (0 + j + y * p + x) ≡ (i + y) * p + (j + x) = omega (arith, add-mul i y p) in
    get_or-drop (i * p) s (0 + j + y * p + x) 0 ∙ ap (λ (n : ℕ). get_or s n 0) e

pub tiles_differ : (m : ℕ) (s t : List ℕ) (i p q : ℕ) → tiles_less m (drop (i * p) s) 0 p (drop (i * q) t) 0 q ≡ sum m (λ j. tile_sum (differ (block_of s p) (block_of t q) i (4 * j)))
tiles_differ m s t i p q =
    sum_eq m (λ j l. tile_same (tile_less (drop (i * p) s) (0 + 4 * j) p (drop (i * q) t) (0 + 4 * j) q) (differ (block_of s p) (block_of t q) i (4 * j)) (λ y x u v. rw (place s i (4 * j) p y x, place t i (4 * j) q y x)))
