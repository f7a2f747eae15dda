-- Values put together of equal parts are equal. Each lemma is over plain variables, where `cc` sees at once what it would have to dig for at a place of the
-- code.
use Rattle.std.specs.Prelude.{◌≡◌, ℕ, ℤ}
use Rattle.plan_file.specs.declared.Trailer.{Trailer}
use Rattle.plan_file.specs.declared.Head.{Head}
use Rattle.plan_file.specs.declared.Counts.{Counts}

pub alike_trailers : {a b c d e f g h A B C D E F G H : ℤ} →
    a ≡ A → b ≡ B → c ≡ C → d ≡ D → e ≡ E → f ≡ F → g ≡ G → h ≡ H →
    ◌≡◌ {A = Trailer}
    (record { back = a; count = b; width = c; height = d; pel = e; radius = f; satd = g; form = h })
    (record { back = A; count = B; width = C; height = D; pel = E; radius = F; satd = G; form = H })
alike_trailers p₀ p₁ p₂ p₃ p₄ p₅ p₆ p₇ = cc

pub alike_heads : {a b c d e f g A B C D E F G : ℤ} →
    a ≡ A → b ≡ B → c ≡ C → d ≡ D → e ≡ E → f ≡ F → g ≡ G →
    ◌≡◌ {A = Head}
    (record { count = a; searched = b; kept = c; width = d; height = e; pel = f; slots = g })
    (record { count = A; searched = B; kept = C; width = D; height = E; pel = F; slots = G })
alike_heads p₀ p₁ p₂ p₃ p₄ p₅ p₆ = cc

pub alike_counts : {a b A B : ℕ} → a ≡ A → b ≡ B → ◌≡◌ {A = Counts} (record { searched = a; kept = b }) (record { searched = A; kept = B })
alike_counts p₀ p₁ = cc
