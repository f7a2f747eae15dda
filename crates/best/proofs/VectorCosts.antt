-- That the tables hold a vector's cost in each slot that is the vector's. Assumes nothing.
use Rattle.std.specs.Prelude.{◌≡◌, Bool, cond, List, ℕ, ◌+◌, ◌*◌, ◌<◌, ℤ, get_or}
use Rattle.std.proofs.Math.Path.{ap}
use Rattle.std.proofs.Common.{◌∙◌}
use Rattle.std.proofs.Math.Bool.{true, false}
use native.Mathlib.Omega.{arith}
use Rattle.std.proofs.Math.IntN.{pos}
use Rattle.std.proofs.Math.ListN.{get_or-replicate}
use Rattle.records.specs.declared.Record.{Record}
use Rattle.window.specs.Windows.{is_negative}
use Rattle.choosing.specs.declared.Choice.{Choice}
use Rattle.choosing.specs.Entries.{held_at}
use Rattle.tables.specs.Tables.{table_of}
use Rattle.tables.specs.Laws.{slot_joined}
use Rattle.best.specs.declared.Task.{Task}
use Rattle.best.specs.Best.{no_table, choice_of, luma_cost, luma_table, u_cost, v_cost, scale_of, plane_table, chroma_table, chromas_of}
use Rattle.best.specs.VectorCosts.{cost_at}

module _ (task : Task) (given : Record) (luma u v referenceLuma referenceU referenceV : List ℕ) where
  -- ---- what the tables hold for a vector
  abbrev k : Choice
  k = choice_of task given

  abbrev lumas : List ℕ
  lumas = luma_table task given luma referenceLuma

  abbrev chromas : List ℕ
  chromas = chromas_of task given u v referenceU referenceV

  -- a slot is a vector's where every table has the vector's cost there
  abbrev Of : ℤ → ℤ → ℕ → Type 0
  Of x y slot = (cost : ℤ → ℤ → ℕ) → get_or (table_of 0 k cost) slot 0 ≡ cost x y

  module _ {x y : ℤ} {slot : ℕ} (l : slot < 50) (of : Of x y slot) where
    luma_held : get_or lumas slot 0 ≡ luma_cost task given luma referenceLuma x y
    unfolding luma_table
    luma_held = of (luma_cost task given luma referenceLuma)

    chroma_held : (negative : Bool) →
        get_or (cond negative no_table (chroma_table task given u v referenceU referenceV)) slot 0
        ≡ cond negative 0 ((u_cost task given u referenceU x y + v_cost task given v referenceV x y) * scale_of task given)
    unfolding chroma_table plane_table
    chroma_held true = get_or-replicate {A = ℕ} 50 slot 0 0 l
    chroma_held false =
        slot_joined (scale_of task given) _ _ l
        ∙ ap (λ (n : ℕ). n * scale_of task given) (both (of (u_cost task given u referenceU)) (of (v_cost task given v referenceV)))
      where
        both : {a b c d : ℕ} → a ≡ c → b ≡ d → a + b ≡ c + d
        both e f = omega arith

    pub held : held_at k lumas chromas slot ≡ pos (cost_at task given luma u v referenceLuma referenceU referenceV x y)
    unfolding chromas_of
    held = ap pos (omega (arith, luma_held, chroma_held (is_negative given)))
