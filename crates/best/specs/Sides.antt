-- A record's window as planning writes it, by its sides, and as choosing walks it, by columns and rows. A side that is not empty is as long as its count: so
-- the window holds a candidate exactly where there is a column and a row, and what 7 lets through is narrow. Assumes nothing.
use Rattle.std.specs.Prelude.{◌≡◌, refl, Bool, true, false, ◌&&◌, ◌||◌, cond, ℕ, ◌+◌, ◌≤◌, ◌<◌, ltb, ℤ, pos, nat_abs, ◌-ℤ◌, ◌*ℤ◌}
use Rattle.std.proofs.Common.{sym, ◌∙◌, arith, lt-ltb}
use Rattle.std.specs.Int.Signed.{lt_z, le_z}
use Rattle.whole.specs.Signed.{P, N, signed, abs_is, add_is, diff_is, times_is}
use Rattle.whole.specs.Truth.{both_alike}
use Rattle.whole.specs.Interval.{Within}
use Rattle.limits.specs.Refused.{neither_first, neither_second}
use Rattle.records.specs.declared.Pair.{Pair}
use Rattle.records.specs.declared.Record.{Record}
use Rattle.window.specs.Windows.{is_bad, side_of, has_candidate, most_of, window_wide, is_wide}
use Rattle.choosing.specs.Choosing.{count_of, columns_of, rows_of}
use Rattle.choosing.specs.Bounds.{Narrow}
use Rattle.best.specs.declared.Task.{Task}
use Rattle.best.specs.Best.{choice_of}

-- ---- one side and its count: something is counted exactly where the side is above 0, and then the two are equal
record Counted (side : ℤ) (n : ℕ) : Type 0 where
  some : lt_z (pos 0) side ≡ ltb 0 n
  long : 0 < n → P side ≡ n + N side

counted : (p : Pair) → Counted (side_of p) (count_of p.first p.second)
unfolding count_of
counted p = by (le_z p.first p.second) refl
  where
    side_is : P (side_of p) + N p.second + P p.first ≡ N (side_of p) + P p.second + N p.first + 1
    side_is = omega (signed, diff_is p.second p.first, add_is (p.second -ℤ p.first) (pos 1))

    by : (t : Bool) → le_z p.first p.second ≡ t → Counted (side_of p) (cond t (nat_abs (side_of p)) 0)
    by true e =
        let above : lt_z (pos 0) (side_of p) ≡ true = omega (signed, side_is) in
        record {
          some = above ∙ sym (lt-ltb 0 (nat_abs (side_of p)) (omega (signed, abs_is (side_of p))));
          long = λ l. omega (signed, abs_is (side_of p));
        }
    by false e =
        let none : lt_z (pos 0) (side_of p) ≡ false = omega (signed, side_is) in
        record { some = none; long = λ l. absurd (omega arith) }

-- ---- both: "holds at least one candidate", as choosing counts them
pub has_candidate_is : (task : Task) (given : Record) →
    has_candidate given ≡ (ltb 0 (columns_of (choice_of task given)) && ltb 0 (rows_of (choice_of task given)))
has_candidate_is task given = both_alike (counted given.window_x).some (counted given.window_y).some

-- ---- of a window that 7 lets through and that has a candidate, neither side is over the most
narrow : (m : ℕ) (most : ℤ) (x y : Pair) → Within 0 m most → window_wide most (side_of x) (side_of y) ≡ false →
    0 < count_of x.first x.second → 0 < count_of y.first y.second → (count_of x.first x.second ≤ m) × (count_of y.first y.second ≤ m)
narrow m most x y w e a b =
    let sx = counted x in
    let sy = counted y in
    let p : lt_z (pos 0) (side_of x) ≡ true = sx.some ∙ lt-ltb 0 (count_of x.first x.second) a in
    let q : lt_z (pos 0) (side_of y) ≡ true = sy.some ∙ lt-ltb 0 (count_of y.first y.second) b in
    let rest : (lt_z most (side_of x) || lt_z most (side_of y)) ≡ false = rw (p, q) at e in
    let f = neither_first (lt_z most (side_of x)) (lt_z most (side_of y)) rest in
    let g = neither_second (lt_z most (side_of x)) (lt_z most (side_of y)) rest in
    let low = w.low in
    let high = w.high in
    (omega (signed, sx.long a), omega (signed, sy.long b))

not_wide : (radius : ℤ) (r : Record) → is_wide radius r ≡ false → is_bad r ≡ true →
    window_wide (most_of radius) (side_of r.window_x) (side_of r.window_y) ≡ false
unfolding is_wide
not_wide radius r e b = rw b at e

-- the columns and rows of a bad record that is not too wide for the radius, m being at least 2 x radius + 1
pub sides_most : (m : ℕ) (task : Task) (radius : ℤ) (r : Record) → Within 0 m (most_of radius) → is_wide radius r ≡ false → is_bad r ≡ true →
    0 < columns_of (choice_of task r) → 0 < rows_of (choice_of task r) → (columns_of (choice_of task r) ≤ m) × (rows_of (choice_of task r) ≤ m)
sides_most m task radius r w e b = narrow m (most_of radius) r.window_x r.window_y w (not_wide radius r e b)

-- at the greatest radius that is 7, which is what choosing asks
most_within : (radius : ℤ) → Within 0 3 radius → Within 0 7 (most_of radius)
most_within radius w = let low = w.low in let high = w.high in omega (signed, times_is radius 2, add_is (radius *ℤ pos 2) (pos 1))

pub narrowed : (task : Task) (radius : ℤ) (r : Record) → Within 0 3 radius → is_wide radius r ≡ false → is_bad r ≡ true → Narrow (choice_of task r)
narrowed task radius r w e b =
    let both = sides_most 7 task radius r (most_within radius w) e b in
    record { across = λ h k. (both h k).0; down = λ h k. (both h k).1 }
