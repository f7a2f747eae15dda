-- A number takes at most six bytes, so that blanks and number are seven. Assumes nothing.
use Rattle.std.proofs.Common.{arith, to_z-of_z}
use Rattle.std.proofs.lemmas.Grind.{common_steps}
use Rattle.tile_lines.specs.Lengths.{number_length}
use Rattle.tile_lines.proofs.put_entry.Goals as goal

pub slice_bounds-blanks-count : goal.slice_bounds-blanks-count
slice_bounds-blanks-count c =
    let short = number_length c.ranges.number in
    grind (arith, common_steps, to_z-of_z)

pub put-requires-2 : goal.put-requires-2
put-requires-2 c =
    let short = number_length c.ranges.number in
    grind (arith, common_steps, to_z-of_z)

pub returns-clause-value : goal.returns-clause-value
returns-clause-value c =
    let short = number_length c.ranges.number in
    grind (arith, common_steps, to_z-of_z)
