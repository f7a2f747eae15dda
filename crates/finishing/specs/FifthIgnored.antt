-- 02, Two: "finishing ignores the fifth". Bests that are alike but for their fifth numbers, whatever those are, are answered alike, and leave the same
-- vectors and the same output. Assumes nothing.
use Rattle.std.specs.Prelude.{◌≡◌, Bool, List, ℕ, ◌<◌, ℤ, length}
use Rattle.limits.specs.Refused.{any_alike}
use Rattle.finishing.specs.Finish.{
  x_at,
  y_at,
  sad_at,
  average_at,
  storing,
  putting,
  refused5,
  refused7,
  finish_answer,
  finish_vectors,
  finish_output,
}
use Rattle.finishing.specs.Written.{written_alike}

-- the first four numbers of one entry are the same in both lists
pub record FourAlike (bests others : List ℤ) (n : ℕ) : Type 0 where
  pub x : x_at bests n ≡ x_at others n
  pub y : y_at bests n ≡ y_at others n
  pub sad : sad_at bests n ≡ sad_at others n
  pub average : average_at bests n ≡ average_at others n

module _ (nx ny : ℤ) (indices bests others : List ℤ) (diagonal : ℤ) (asked : Bool) (long : length bests ≡ length others)
    (alike : (n : ℕ) → n < length indices → FourAlike bests others n) where
  five_alike : (room : ℕ) → refused5 nx ny indices bests asked room ≡ refused5 nx ny indices others asked room
  five_alike room = rw long

  seven_alike : refused7 indices bests ≡ refused7 indices others
  seven_alike = any_alike _ _ (length indices) (λ n l. let k = alike n l in rw (k.x, k.y))

  -- ---- the number, the vectors and the output
  pub answer_alike : (held room : ℕ) → finish_answer nx ny indices bests diagonal asked held room ≡ finish_answer nx ny indices others diagonal asked held room
  unfolding finish_answer
  answer_alike held room = let e = five_alike room in let f = seven_alike in rw (e, f)

  pub vectors_alike : (vectors : List ℤ) (room : ℕ) →
      finish_vectors nx ny indices bests diagonal asked vectors room ≡ finish_vectors nx ny indices others diagonal asked vectors room
  unfolding finish_vectors
  vectors_alike vectors room =
      let e = answer_alike (length vectors) room in
      let f = written_alike (storing indices bests) (storing indices others) vectors (length indices)
      (λ n held l. let k = alike n l in rw (k.x, k.y, k.sad)) in
      rw (e, f)

  pub output_alike : (held : ℕ) (output : List ℤ) →
      finish_output nx ny indices bests diagonal asked held output ≡ finish_output nx ny indices others diagonal asked held output
  unfolding finish_output
  output_alike held output =
      let e = answer_alike held (length output) in
      let f = written_alike (putting indices bests diagonal) (putting indices others diagonal) output (length indices)
      (λ n written l. let k = alike n l in rw (k.x, k.y, k.sad, k.average)) in
      rw (e, f)
