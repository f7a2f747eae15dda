-- The library's four bytes are those of the definition, of a word below zero too. Assumes nothing.
use Rattle.std.proofs.Common.{◌≡◌, List, [], ◌∷◌, ◌++◌, drop, get_or, ℕ, zero, suc, ◌<◌, ℤ, pos, negsuc, refl, ap, ◌∙◌, arith, w32, of_z, to_z-of_z, FitsSigned}
use Rattle.std.specs.Int.{to_le_bytes}
use Rattle.little_endian.specs.Bytes.{bytes_of}
use Rattle.little_endian.proofs.put_word.Goals as goal

four : {a b c d A B C D : ℕ} → a ≡ A → b ≡ B → c ≡ C → d ≡ D → ◌≡◌ {A = List ℕ} (a ∷ b ∷ c ∷ d ∷ []) (A ∷ B ∷ C ∷ D ∷ [])
four p q r s = cc

written : (z : ℤ) → FitsSigned w32 z → to_le_bytes w32 (of_z w32 z) ≡ bytes_of z
unfolding bytes_of
written (pos n) f = refl
written (negsuc n) f =
    let l : n < 2147483648 = f.sfits in
    four (omega arith) (omega arith) (omega arith) (omega arith)

-- four bytes that are the word's, each in its place
in_order : (z : ℤ) {a b c d : ℕ} → a ≡ get_or (bytes_of z) 0 0 → b ≡ get_or (bytes_of z) 1 0 → c ≡ get_or (bytes_of z) 2 0 → d ≡ get_or (bytes_of z) 3 0 →
    a ∷ b ∷ c ∷ d ∷ [] ≡ bytes_of z
unfolding bytes_of
in_order z p q r s = four p q r s

small : (n k : ℕ) → get_or (to_le_bytes w32 n) k 0 < 256
small n zero = omega arith
small n (suc zero) = omega arith
small n (suc (suc zero)) = omega arith
small n (suc (suc (suc zero))) = omega arith
small n (suc (suc (suc (suc k)))) = omega arith

-- Each byte that is copied is a byte of the word, which is below 256.
pub returns : goal.returns
returns c =
    let f = c.ranges.word in
    let library : c.to_le_bytes.result ≡ to_le_bytes w32 (of_z w32 c.args.word) = simp to_z-of_z at c.to_le_bytes.ensures in
    let is : (k : ℕ) → get_or c.to_le_bytes.result k 0 ≡ get_or (bytes_of c.args.word) k 0 = λ k. ap (λ (l : List ℕ). get_or l k 0) (library ∙ written c.args.word f) in
    let less : (k : ℕ) → get_or c.to_le_bytes.result k 0 < 256 = λ k. rw library (small (of_z w32 c.args.word) k) in
    ap (λ (l : List ℕ). l ++ drop 4 c.args.out.now)
    (c.copy_from_slice.ensures.after
    ∙ in_order c.args.word (omega (arith, is 0, less 0)) (omega (arith, is 1, less 1)) (omega (arith, is 2, less 2)) (omega (arith, is 3, less 3)))
