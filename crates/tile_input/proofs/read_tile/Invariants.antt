-- What is still to be read, behind the numbers stored, is what was to be read at first.
use Rattle.std.proofs.Common.{◌≡◌, ◌-◌, length, take}
use Rattle.tile_input.specs.Input.{read_from, number_at, reading_of}
use Rattle.tile_input.proofs.read_tile.Given as goal

abbrev pub invariant-loop-place : goal.invariant-loop-place
invariant-loop-place l =
    (length l.numbers ≡ 16) × (read_from (number_at l.text) (16 - l.place) (take l.place l.numbers) ≡ reading_of l.text)
