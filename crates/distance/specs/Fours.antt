-- Four numbers, or four rows of them: what holds of each, two of them taken together, and the butterflies. Definitions alone.
use Rattle.std.specs.Prelude.{ℕ, zero, suc, ℤ}
use Rattle.distance.specs.declared.Four.{Four}

-- a row's numbers, and a tile's rows
abbrev pub Quad : Type 0
Quad = Four ℤ

abbrev pub Tile : Type 0
Tile = Four Quad

-- by its number
abbrev pub pick : {A : Type 0} → Four A → ℕ → A
pick q zero = q.a
pick q (suc zero) = q.b
pick q (suc (suc zero)) = q.c
pick q (suc (suc (suc n))) = q.d

-- P holds of each
pub record Each {A : Type 0} (P : A → Type 0) (q : Four A) : Type 0 where
  pub at_a : P q.a
  pub at_b : P q.b
  pub at_c : P q.c
  pub at_d : P q.d

-- two taken together, one by one
abbrev pub each_by : {A : Type 0} → (A → A → A) → Four A → Four A → Four A
each_by f p q = record { a = f p.a q.a; b = f p.b q.b; c = f p.c q.c; d = f p.d q.d }

-- the four values: with the signs + + + +, + + - -, + - + -, + - - +
abbrev pub butterflies : {A : Type 0} → (A → A → A) → (A → A → A) → Four A → Four A
butterflies plus minus q =
    let s0 = plus q.a q.b in
    let s1 = plus q.c q.d in
    let d0 = minus q.a q.b in
    let d1 = minus q.c q.d in
    record { a = plus s0 s1; b = minus s0 s1; c = plus d0 d1; d = minus d0 d1 }
