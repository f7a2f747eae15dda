-- Before the data, in them and past them. Assumes nothing.
use Rattle.std.specs.Prelude.{None, Some}
use Rattle.std.proofs.Common.{◌≡◌, refl, true, false, ℕ, ◌<◌, ◌≤◌, List, length, get_or, lt-ltb, le-ltb, ℤ, pos, negsuc, to_z-of_z}
use Rattle.std.proofs.Math.IntN.{nat_abs}
use Rattle.std.specs.Int.Signed.{lt_z}
use Rattle.whole.specs.Signed.{signed}
use Rattle.plane.specs.Samples.{read_at}
use Rattle.plane.proofs.sample.Goals as goal

before_front : (s : List ℕ) (at : ℤ) → lt_z at (pos 0) ≡ true → None ≡ read_at s at
unfolding read_at
before_front s (pos n) e = absurd (omega signed)
before_front s (negsuc n) e = refl

in_data : (s : List ℕ) (at : ℤ) → lt_z at (pos 0) ≡ false → nat_abs at < length s → Some (get_or s (nat_abs at) 0) ≡ read_at s at
unfolding read_at
in_data s (pos n) e l = rw (lt-ltb n (length s) l) refl
in_data s (negsuc n) e l = absurd (omega signed)

past_end : (s : List ℕ) (at : ℤ) → lt_z at (pos 0) ≡ false → length s ≤ nat_abs at → None ≡ read_at s at
unfolding read_at
past_end s (pos n) e l = rw (le-ltb n (length s) l) refl
past_end s (negsuc n) e l = absurd (omega signed)

pub returns-then-at-lt0 : goal.returns-then-at-lt0
returns-then-at-lt0 c = let f = c.ranges.at in before_front _ _ (simp to_z-of_z at c.if-at-lt0.true)

pub returns-then-i-samples : goal.returns-then-i-samples
returns-then-i-samples c =
    let f = c.ranges.at in
    let front = simp to_z-of_z at c.if-at-lt0.false in
    let there = simp to_z-of_z at c.if-i-samples.true in
    simp to_z-of_z (in_data _ _ front there)

pub returns-else-i-samples : goal.returns-else-i-samples
returns-else-i-samples c =
    let f = c.ranges.at in
    let front = simp to_z-of_z at c.if-at-lt0.false in
    let past = simp to_z-of_z at c.if-i-samples.false in
    past_end _ _ front past
