-- What is still to be read, behind the numbers stored, is what was to be read at first. Assumes nothing.
use Rattle.std.proofs.Common.{◌≡◌, List, [], ◌∷◌, ◌++◌, ℕ, suc, ℤ, ◌+◌, ◌-◌, ◌<◌, sym, ap, ◌∙◌, add-one, arith, rules, length, take, set, length-set, take-suc-set, length-take-le, w16, to_z, of_z, Result, Ok}
use Rattle.std.proofs.Math.Seq.{take_all}
use Rattle.tile_input.specs.declared.NoNumber.{NoNumber}
use Rattle.tile_input.specs.declared.Unread.{Unread}
use Rattle.distance.specs.Fours.{Tile}
use Rattle.tile_input.specs.Input.{going, closing, read_from, number_at}
use Rattle.tile_input.proofs.read_tile.Goals as goal

-- behind the numbers that are stored one more is asked for, and then the rest
abbrev rest : (ℕ → Result ℤ NoNumber) → List ℤ → ℕ → ℤ → Result Tile Unread
rest at numbers place z = read_from at (16 - (place + 1)) (take place numbers ++ (z ∷ []))

module _ (at : ℕ → Result ℤ NoNumber) (numbers : List ℤ) (place : ℕ) (room : length numbers ≡ 16) (h : place < 16) where
  asked : read_from at (16 - place) (take place numbers) ≡ going (at place) place (rest at numbers place)
  unfolding read_from
  asked =
      let many : 16 - place ≡ suc (16 - (place + 1)) = omega arith in
      rw (many, length-take-le place numbers (omega arith))

  stored : (z : ℤ) → read_from at (16 - (place + 1)) (take (place + 1) (set numbers place z)) ≡ rest at numbers place z
  stored z =
      let front : take (place + 1) (set numbers place z) ≡ take place numbers ++ (z ∷ []) = rw add-one (take-suc-set numbers place z (omega arith)) in
      rw front

-- behind all sixteen what follows them is asked for
closed : (at : ℕ → Result ℤ NoNumber) (numbers : List ℤ) (place : ℕ) → length numbers ≡ 16 → place ≡ 16 →
    read_from at (16 - place) (take place numbers) ≡ closing numbers (at 16)
unfolding read_from
closed at numbers place room e = rw (e, take_all 16 numbers (omega arith), room)

-- what is to be read is told by the number at the place
by_number : (at : ℕ → Result ℤ NoNumber) (numbers : List ℤ) (place : ℕ) {n : Result ℤ NoNumber} {r : Result Tile Unread} → length numbers ≡ 16 → place < 16 → n ≡ at place →
    read_from at (16 - place) (take place numbers) ≡ r → going n place (rest at numbers place) ≡ r
by_number at numbers place room h e kept = rw e (sym (asked at numbers place room h) ∙ kept)

pub returns-in-Err-Wrong : goal.returns-in-Err-Wrong
returns-in-Err-Wrong c =
    let l = c.loop-place in
    rw c.in-Err-Wrong.field-0-is at (by_number (number_at c.args.text.now) l.numbers l.place l.invariant.0 c.loop-place-test.true c.in-Err-Wrong.ensures l.invariant.1)

pub returns-in-Err-Missing : goal.returns-in-Err-Missing
returns-in-Err-Missing c =
    let l = c.loop-place in
    rw c.in-Err-Missing.field-0-is at (by_number (number_at c.args.text.now) l.numbers l.place l.invariant.0 c.loop-place-test.true c.in-Err-Missing.ensures l.invariant.1)

pub loop-place-preserved : goal.loop-place-preserved
loop-place-preserved c =
    let l = c.loop-place in
    let at = number_at c.args.text.now in
    let z = c.in-Ok.number in
    let same : to_z w16 (of_z w16 z) ≡ z = search rules in
    let back = stored at l.numbers l.place l.invariant.0 c.loop-place-test.true z in
    let found = by_number at l.numbers l.place l.invariant.0 c.loop-place-test.true c.in-Ok.ensures l.invariant.1 in
    rw same (length-set l.numbers l.place z ∙ l.invariant.0, back ∙ found)

-- what is to be read is told by what stands behind the sixteen
by_next : (at : ℕ → Result ℤ NoNumber) (numbers : List ℤ) (place : ℕ) {r : Result Tile Unread} → length numbers ≡ 16 → place ≡ 16 →
    read_from at (16 - place) (take place numbers) ≡ r → closing numbers (at 16) ≡ r
by_next at numbers place room e kept = sym (closed at numbers place room e) ∙ kept

pub returns-in-Ok-number_at : goal.returns-in-Ok-number_at
returns-in-Ok-number_at c =
    let l = c.loop-place in
    let told = by_next (number_at c.args.text.now) l.numbers l.place l.invariant.0 (omega arith) l.invariant.1 in
    ap (closing l.numbers) c.in-Ok-number_at.ensures ∙ told

pub returns-in-Err-Wrong-number_at : goal.returns-in-Err-Wrong-number_at
returns-in-Err-Wrong-number_at c =
    let l = c.loop-place in
    let told = by_next (number_at c.args.text.now) l.numbers l.place l.invariant.0 (omega arith) l.invariant.1 in
    let wrong = c.in-Err-Wrong-number_at in
    ap (closing l.numbers) (rw wrong.field-0-is at wrong.ensures) ∙ told

pub returns-in-Err-Missing-number_at : goal.returns-in-Err-Missing-number_at
returns-in-Err-Missing-number_at c =
    let l = c.loop-place in
    let told = by_next (number_at c.args.text.now) l.numbers l.place l.invariant.0 (omega arith) l.invariant.1 in
    let ended = c.in-Err-Missing-number_at in
    ap Ok c.tile_from.ensures ∙ ap (closing l.numbers) (rw ended.field-0-is at ended.ensures) ∙ told
