-- A table that is filled entry by entry: all zeros is `Small`, and stays so where a small entry is set. Assumes nothing.
use Rattle.std.specs.Prelude.{◌≡◌, refl, Bool, true, false, List, ℕ, ◌≤◌, ◌<◌, eqb, get_or, length, set, replicate}
use Rattle.std.proofs.Common.{⊎_elim, arith, get_or-set_same, get_or-set_other, eqb-true}
use Rattle.std.proofs.lemmas.List.{length-replicate, get_or-replicate}
use Rattle.std.proofs.Math.ListN.{get_or-eq_default}
use Rattle.std.proofs.lemmas.Bool.{eqb-false}
use Rattle.whole.specs.Signed.{lt_or_ge}
use Rattle.choosing.specs.Bounds.{Small}

zero_at : (slot : ℕ) → get_or {A = ℕ} (replicate 50 0) slot 0 ≡ 0
zero_at slot =
    ⊎_elim
    (λ (l : slot < 50). get_or-replicate {A = ℕ} 50 slot 0 0 l)
    (λ (l : 50 ≤ slot). let past : length {A = ℕ} (replicate 50 0) ≤ slot = omega (arith, length-replicate {A = ℕ} 50 0) in
    get_or-eq_default {A = ℕ} (replicate 50 0) 0 past)
    (lt_or_ge slot 50)

pub zeros_small : Small (replicate 50 0)
zeros_small = record { below = λ slot. omega (arith, zero_at slot) }

by_slot : (t : Bool) (table : List ℕ) (at cost slot : ℕ) → eqb slot at ≡ t → Small table → at < length table → cost < 1048576 →
    get_or (set table at cost) slot 0 < 1048576
by_slot true table at cost slot e small inside below =
    let here = eqb-true slot at e in rw here (omega (arith, get_or-set_same table at cost 0 inside))
by_slot false table at cost slot e small inside below =
    omega (arith, get_or-set_other table at slot cost 0 (λ same. eqb-false slot at e (omega arith)), small.below slot)

pub set_small : {table : List ℕ} (at : ℕ) {cost : ℕ} → Small table → at < length table → cost < 1048576 → Small (set table at cost)
set_small {table} at {cost} small inside below =
    record { below = λ slot. by_slot (eqb slot at) table at cost slot refl small inside below }
