-- What the lent buffers hold afterwards, place by place: the later of two entries wins, blocks that no entry names keep what they held, an output keeps its
-- tail, and neither buffer's length changes. Assumes nothing.
use Rattle.std.specs.Prelude.{◌≡◌, Bool, true, cond, ℕ, zero, suc, ◌+◌, ◌*◌, ◌≤◌, ◌<◌, pos, set, drop}
use Rattle.std.proofs.Math.Path.{refl, ap}
use Rattle.std.proofs.Common.{◌∙◌, length-set, get_or-set_same, get_or-set_other, drop-set-lt}
use Rattle.std.proofs.Math.Bool.{false}
use mathlib.Core.List.{List}
use native.Mathlib.Omega.{arith}
use Rattle.std.proofs.Math.IntN.{ℤ}
use Rattle.std.proofs.Math.ListN.{length, get_or}
use Rattle.limits.specs.Limits.{blocks_of}
use Rattle.limits.specs.Refusals.{kept}
use Rattle.limits.specs.Refused.{kept_done}
use Rattle.finishing.specs.Finish.{
  block_at,
  x_at,
  y_at,
  sad_at,
  written_upto,
  stored,
  storing,
  word_at,
  score_at,
  words_put,
  putting,
  finish_answer,
  finish_vectors,
  finish_output,
}
use Rattle.finishing.specs.Written.{unchanged, as_left_by, vectors_long, output_long}
use Rattle.finishing.specs.Served.{passed}

-- p is one of a block's places, in a buffer with so many numbers for each block
pub record PlaceOf (each block p : ℕ) : Type 0 where
  pub from : each * block ≤ p
  pub to : p < each * block + each

-- ---- one entry, written: its own places, and all others
module _ (s : List ℤ) (index : ℕ) (x y sad : ℤ) where
  stored_there : 3 * index + 3 ≤ length s →
      (get_or (stored s index x y sad) (3 * index) (pos 0) ≡ x) × (get_or (stored s index x y sad) (3 * index + 1) (pos 0) ≡ y) ×
      (get_or (stored s index x y sad) (3 * index + 2) (pos 0) ≡ sad)
  stored_there h =
      let first = set s (3 * index) x in
      let second = set first (3 * index + 1) y in
      let long : length second ≡ length s = simp length-set in (
        get_or-set_other second (3 * index + 2) (3 * index) sad (pos 0) (λ e. omega arith)
            ∙ get_or-set_other first (3 * index + 1) (3 * index) y (pos 0) (λ e. omega arith)
            ∙ get_or-set_same s (3 * index) x (pos 0) (omega arith),
        get_or-set_other second (3 * index + 2) (3 * index + 1) sad (pos 0) (λ e. omega arith)
            ∙ get_or-set_same first (3 * index + 1) y (pos 0) (omega (arith, length-set s (3 * index) x)),
        get_or-set_same second (3 * index + 2) sad (pos 0) (omega arith),
      )

  stored_beside : (block p : ℕ) → PlaceOf 3 block p → (index ≡ block → ⊥) → get_or (stored s index x y sad) p (pos 0) ≡ get_or s p (pos 0)
  stored_beside block p h other =
      let first = set s (3 * index) x in
      let second = set first (3 * index + 1) y in
      get_or-set_other second (3 * index + 2) p sad (pos 0) (λ e. other (omega arith))
      ∙ get_or-set_other first (3 * index + 1) p y (pos 0) (λ e. other (omega arith))
      ∙ get_or-set_other s (3 * index) p x (pos 0) (λ e. other (omega arith))

module _ (s : List ℤ) (index : ℕ) (word score : ℤ) where
  put_there : 2 * index + 2 ≤ length s → (get_or (words_put s index word score) (2 * index) (pos 0) ≡ word) ×
      (get_or (words_put s index word score) (2 * index + 1) (pos 0) ≡ score)
  put_there h =
      let first = set s (2 * index) word in (
        get_or-set_other first (2 * index + 1) (2 * index) score (pos 0) (λ e. omega arith) ∙ get_or-set_same s (2 * index) word (pos 0) (omega arith),
        get_or-set_same first (2 * index + 1) score (pos 0) (omega (arith, length-set s (2 * index) word)),
      )

  put_beside : (block p : ℕ) → PlaceOf 2 block p → (index ≡ block → ⊥) → get_or (words_put s index word score) p (pos 0) ≡ get_or s p (pos 0)
  put_beside block p h other =
      get_or-set_other (set s (2 * index) word) (2 * index + 1) p score (pos 0) (λ e. other (omega arith))
      ∙ get_or-set_other s (2 * index) p word (pos 0) (λ e. other (omega arith))

  put_before : (n : ℕ) → 2 * index + 2 ≤ n → drop n (words_put s index word score) ≡ drop n s
  put_before n h = drop-set-lt n (set s (2 * index) word) (2 * index + 1) score (omega arith) ∙ drop-set-lt n s (2 * index) word (omega arith)

-- ---- entries by the block that they name
-- no entry below a number names the block
pub record Unnamed (indices : List ℤ) (block entries : ℕ) : Type 0 where
  pub never : (n : ℕ) → n < entries → block_at indices n ≡ block → ⊥

-- entry n is the last of so many that names its block
pub record Last (indices : List ℤ) (n entries : ℕ) : Type 0 where
  pub one_of : n < entries
  pub never_again : (m : ℕ) → n < m → m < entries → block_at indices m ≡ block_at indices n → ⊥

module _ (nx ny : ℤ) (indices bests : List ℤ) (diagonal : ℤ) (asked : Bool) (vectors output : List ℤ)
    (done : finish_answer nx ny indices bests diagonal asked (length vectors) (length output) ≡ 0) where
  -- ---- the vectors, where it is done
  vectors_are : finish_vectors nx ny indices bests diagonal asked vectors (length output) ≡ written_upto (storing indices bests) vectors (length indices)
  unfolding finish_vectors
  vectors_are = rw done

  -- one number of a block, as the last entry that names the block leaves it
  vector_as_left : (n p : ℕ) → PlaceOf 3 (block_at indices n) p → Last indices n (length indices) →
      get_or (finish_vectors nx ny indices bests diagonal asked vectors (length output)) p (pos 0)
      ≡ get_or (storing indices bests n (written_upto (storing indices bests) vectors n)) p (pos 0)
  unfolding vectors_are
  vector_as_left n p h last =
      let read : List ℤ → ℤ = λ s. get_or s p (pos 0) in
      ap read vectors_are
      ∙ as_left_by (storing indices bests) vectors read n (length indices) last.one_of
      (λ m s l b. stored_beside s (block_at indices m) (x_at bests m) (y_at bests m) (sad_at bests m) (block_at indices n) p h (last.never_again m l b))

  pub later_vector_wins : (n : ℕ) → Last indices n (length indices) →
      let after = finish_vectors nx ny indices bests diagonal asked vectors (length output) in
      let at = 3 * block_at indices n in
      (get_or after at (pos 0) ≡ x_at bests n) × (get_or after (at + 1) (pos 0) ≡ y_at bests n) × (get_or after (at + 2) (pos 0) ≡ sad_at bests n)
  unfolding vector_as_left
  later_vector_wins n last =
      let p = passed nx ny indices bests diagonal asked (length vectors) (length output) done in
      let before = written_upto (storing indices bests) vectors n in
      let room : 3 * block_at indices n + 3 ≤ length before = omega (
        arith,
        (p.inside n last.one_of).below,
        p.held_is,
        vectors_long indices bests vectors n,
      ) in
      let there = stored_there before (block_at indices n) (x_at bests n) (y_at bests n) (sad_at bests n) room in
      let at = 3 * block_at indices n in (
        vector_as_left n at (omega arith) last ∙ there.0,
        vector_as_left n (at + 1) (omega arith) last ∙ there.1,
        vector_as_left n (at + 2) (omega arith) last ∙ there.2,
      )

  pub unnamed_vector_stays : (block p : ℕ) → PlaceOf 3 block p → Unnamed indices block (length indices) →
      get_or (finish_vectors nx ny indices bests diagonal asked vectors (length output)) p (pos 0) ≡ get_or vectors p (pos 0)
  unfolding vectors_are
  unnamed_vector_stays block p h u =
      let read : List ℤ → ℤ = λ s. get_or s p (pos 0) in
      ap read vectors_are
      ∙ unchanged (storing indices bests) vectors read (length indices)
      (λ n s l. stored_beside s (block_at indices n) (x_at bests n) (y_at bests n) (sad_at bests n) block p h (u.never n l))

  -- ---- the output, where it is done and asked for
  module _ (wanted : asked ≡ true) where
    output_is : finish_output nx ny indices bests diagonal asked (length vectors) output ≡ written_upto (putting indices bests diagonal) output (length indices)
    unfolding finish_output
    output_is = kept_done _ _ output done ∙ rw wanted

    words_beside : (m block p : ℕ) (s : List ℤ) → PlaceOf 2 block p → (block_at indices m ≡ block → ⊥) →
        get_or (putting indices bests diagonal m s) p (pos 0) ≡ get_or s p (pos 0)
    words_beside m block p s h other =
        put_beside s (block_at indices m) (word_at bests m) (score_at bests diagonal m) block p h other

    words_as_left : (n p : ℕ) → PlaceOf 2 (block_at indices n) p → Last indices n (length indices) →
        get_or (finish_output nx ny indices bests diagonal asked (length vectors) output) p (pos 0)
        ≡ get_or (putting indices bests diagonal n (written_upto (putting indices bests diagonal) output n)) p (pos 0)
    unfolding output_is words_beside
    words_as_left n p h last =
        let read : List ℤ → ℤ = λ s. get_or s p (pos 0) in
        ap read output_is
        ∙ as_left_by (putting indices bests diagonal) output read n (length indices) last.one_of
        (λ m s l b. words_beside m (block_at indices n) p s h (last.never_again m l b))

    pub later_words_win : (n : ℕ) → Last indices n (length indices) →
        let after = finish_output nx ny indices bests diagonal asked (length vectors) output in
        let at = 2 * block_at indices n in
        (get_or after at (pos 0) ≡ word_at bests n) × (get_or after (at + 1) (pos 0) ≡ score_at bests diagonal n)
    unfolding words_as_left
    later_words_win n last =
        let p = passed nx ny indices bests diagonal asked (length vectors) (length output) done in
        let before = written_upto (putting indices bests diagonal) output n in
        let room : 2 * block_at indices n + 2 ≤ length before = omega (
          arith,
          (p.inside n last.one_of).below,
          p.room_is wanted,
          output_long indices bests diagonal output n,
        ) in
        let there = put_there before (block_at indices n) (word_at bests n) (score_at bests diagonal n) room in
        let at = 2 * block_at indices n in
        (words_as_left n at (omega arith) last ∙ there.0, words_as_left n (at + 1) (omega arith) last ∙ there.1)

    pub unnamed_words_stay : (block p : ℕ) → PlaceOf 2 block p → Unnamed indices block (length indices) →
        get_or (finish_output nx ny indices bests diagonal asked (length vectors) output) p (pos 0) ≡ get_or output p (pos 0)
    unfolding output_is words_beside
    unnamed_words_stay block p h u =
        let read : List ℤ → ℤ = λ s. get_or s p (pos 0) in
        ap read output_is
        ∙ unchanged (putting indices bests diagonal) output read (length indices) (λ n s l. words_beside n block p s h (u.never n l))

-- ---- for every input, refused ones too
-- what is read of a buffer is as before: where it is kept, and where what is written leaves that alone
by_number : {A : Type 0} (read : List ℤ → A) (number : ℕ) (held written : List ℤ) → (number ≡ 0 → read written ≡ read held) →
    read (kept number written held) ≡ read held
by_number read zero held written same = same refl
by_number read (suc n) held written same = refl

by_asking : {A : Type 0} (read : List ℤ → A) (asked : Bool) (held written : List ℤ) → (asked ≡ true → read written ≡ read held) →
    read (cond asked written held) ≡ read held
by_asking read true held written same = same refl
by_asking read false held written same = refl

module _ (nx ny : ℤ) (indices bests : List ℤ) (diagonal : ℤ) (asked : Bool) where
  -- neither buffer's length changes
  pub vectors_length : (vectors : List ℤ) (room : ℕ) → length (finish_vectors nx ny indices bests diagonal asked vectors room) ≡ length vectors
  unfolding finish_vectors
  vectors_length vectors room =
      by_number length (finish_answer nx ny indices bests diagonal asked (length vectors) room) vectors _
      (λ e. vectors_long indices bests vectors (length indices))

  pub output_length : (held : ℕ) (output : List ℤ) → length (finish_output nx ny indices bests diagonal asked held output) ≡ length output
  unfolding finish_output
  output_length held output =
      by_number length (finish_answer nx ny indices bests diagonal asked held (length output)) output _
      (λ e. by_asking length asked output _ (λ t. output_long indices bests diagonal output (length indices)))

  -- "a longer buffer keeps its tail"
  pub tail_stays : (held : ℕ) (output : List ℤ) →
      drop (2 * blocks_of nx ny) (finish_output nx ny indices bests diagonal asked held output) ≡ drop (2 * blocks_of nx ny) output
  unfolding finish_output
  tail_stays held output =
      by_number (drop (2 * blocks_of nx ny)) (finish_answer nx ny indices bests diagonal asked held (length output)) output _
      (λ e. by_asking (drop (2 * blocks_of nx ny)) asked output _ (λ t.
      let p = passed nx ny indices bests diagonal asked held (length output) e in
      unchanged (putting indices bests diagonal) output (drop (2 * blocks_of nx ny)) (length indices)
      (λ n s h. put_before s (block_at indices n) (word_at bests n) (score_at bests diagonal n) (2 * blocks_of nx ny) (omega (arith, (p.inside n h).below)))))

-- ---- an output that is not asked for
module _ (nx ny : ℤ) (indices bests : List ℤ) (diagonal : ℤ) (held : ℕ) where
  pub unasked_output_stays : (output : List ℤ) → finish_output nx ny indices bests diagonal false held output ≡ output
  unfolding finish_output
  unasked_output_stays output = by_number (λ s. s) (finish_answer nx ny indices bests diagonal false held (length output)) output output (λ e. refl)

  -- its length is not asked about
  pub unasked_room : (room other : ℕ) → finish_answer nx ny indices bests diagonal false held room ≡ finish_answer nx ny indices bests diagonal false held other
  unfolding finish_answer
  unasked_room room other = refl
