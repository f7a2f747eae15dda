-- Values put together of equal parts are equal. Each lemma is over plain variables, where `cc` sees at once what it would have to dig for at a place of the
-- code.
use Rattle.std.specs.Prelude.{◌≡◌, ℤ, Option}
use Rattle.records.specs.declared.Pair.{Pair}
use Rattle.records.specs.declared.Record.{Record}
use Rattle.records.specs.declared.Words.{Words}

pub alike_pairs : {a b A B : ℤ} → a ≡ A → b ≡ B → ◌≡◌ {A = Pair} (record { first = a; second = b }) (record { first = A; second = B })
alike_pairs p q = cc

pub alike_words : {a b c d e f g h i j k l A B C D E F G H I J K L : ℤ} →
    a ≡ A → b ≡ B → c ≡ C → d ≡ D → e ≡ E → f ≡ F → g ≡ G → h ≡ H → i ≡ I → j ≡ J → k ≡ K → l ≡ L →
    ◌≡◌ {A = Words}
    (record { full = a; overlay = b; u = c; v = d; average = e; pos = f; cpos = g; predictor = h; window_x = i; window_y = j; sad = k; last = l })
    (record { full = A; overlay = B; u = C; v = D; average = E; pos = F; cpos = G; predictor = H; window_x = I; window_y = J; sad = K; last = L })
alike_words p₀ p₁ p₂ p₃ p₄ p₅ p₆ p₇ p₈ p₉ q₀ q₁ = cc

pub alike_records : {a b c d e A B C D E : Option ℤ} {f g h i j F G H I J : Pair} {k l m K L M : ℤ} →
    a ≡ A → b ≡ B → c ≡ C → d ≡ D → e ≡ E → f ≡ F → g ≡ G → h ≡ H → i ≡ I → j ≡ J → k ≡ K → l ≡ L → m ≡ M →
    ◌≡◌ {A = Record}
    (record {
      full = a;
      overlay = b;
      u = c;
      v = d;
      average = e;
      pos = f;
      cpos = g;
      predictor = h;
      window_x = i;
      window_y = j;
      sad = k;
      lambda = l;
      flags = m;
    })
    (record {
      full = A;
      overlay = B;
      u = C;
      v = D;
      average = E;
      pos = F;
      cpos = G;
      predictor = H;
      window_x = I;
      window_y = J;
      sad = K;
      lambda = L;
      flags = M;
    })
alike_records p₀ p₁ p₂ p₃ p₄ p₅ p₆ p₇ p₈ p₉ q₀ q₁ q₂ = cc
