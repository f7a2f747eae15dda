-- What is written, entry by entry. Laws over the way in which an entry is written: what is read of a buffer, an element, its tail or its length, is as the last
-- entry that changes it left it. Assumes nothing.
use Rattle.std.specs.Prelude.{◌≡◌, List, ℤ, length}
use Rattle.std.proofs.Math.Path.{refl, ap}
use Rattle.std.proofs.Common.{◌∙◌, length-set}
use Rattle.std.proofs.Math.Logic.{⊎_elim}
use Prim.Native.Nat.{ℕ, zero, suc, ◌+◌, ◌<◌}
use Rattle.std.proofs.Math.Numerals.{add-one}
use native.Mathlib.Omega.{arith}
use Rattle.whole.specs.Signed.{lt_or_ge}
use Rattle.finishing.specs.Finish.{written_upto, storing, putting}

module _ (write : ℕ → List ℤ → List ℤ) (buffer : List ℤ) where
  pub none_written : buffer ≡ written_upto write buffer 0
  unfolding written_upto
  none_written = refl

  pub one_more : (n : ℕ) → written_upto write buffer (n + 1) ≡ write n (written_upto write buffer n)
  unfolding written_upto
  one_more n = rw add-one

  module _ {A : Type 0} (read : List ℤ → A) where
    -- what no entry changes stays
    pub unchanged : (entries : ℕ) → ((n : ℕ) (s : List ℤ) → n < entries → read (write n s) ≡ read s) → read (written_upto write buffer entries) ≡ read buffer
    unfolding written_upto
    unchanged zero same = refl
    unchanged (suc entries) same = same entries (written_upto write buffer entries) (omega arith) ∙ unchanged entries (λ n s h. same n s (omega arith))

    -- and what no entry behind n changes is as entry n left it
    pub as_left_by : (n entries : ℕ) → n < entries → ((m : ℕ) (s : List ℤ) → n < m → m < entries → read (write m s) ≡ read s) →
        read (written_upto write buffer entries) ≡ read (write n (written_upto write buffer n))
    unfolding written_upto
    as_left_by n zero h same = absurd (omega arith)
    as_left_by n (suc entries) h same =
        ⊎_elim
        (λ l. same entries (written_upto write buffer entries) l (omega arith) ∙ as_left_by n entries l (λ m s b d. same m s b (omega arith)))
        (λ l.
        let last : entries ≡ n = omega arith in
        ap (λ (k : ℕ). read (write k (written_upto write buffer k))) last)
        (lt_or_ge n entries)

-- ---- the two buffers keep their lengths
pub vectors_long : (indices bests vectors : List ℤ) (n : ℕ) → length (written_upto (storing indices bests) vectors n) ≡ length vectors
vectors_long indices bests vectors n = unchanged (storing indices bests) vectors length n (λ m s h. simp length-set)

pub output_long : (indices bests : List ℤ) (diagonal : ℤ) (output : List ℤ) (n : ℕ) →
    length (written_upto (putting indices bests diagonal) output n) ≡ length output
output_long indices bests diagonal output n = unchanged (putting indices bests diagonal) output length n (λ m s h. simp length-set)

-- ---- two ways of writing that do the same at each entry
pub written_alike : (f g : ℕ → List ℤ → List ℤ) (buffer : List ℤ) (n : ℕ) → ((i : ℕ) (held : List ℤ) → i < n → f i held ≡ g i held) →
    written_upto f buffer n ≡ written_upto g buffer n
unfolding written_upto
written_alike f g buffer zero h = refl
written_alike f g buffer (suc n) h =
    h n (written_upto f buffer n) (omega arith) ∙ ap (g n) (written_alike f g buffer n (λ i held l. h i held (omega arith)))
