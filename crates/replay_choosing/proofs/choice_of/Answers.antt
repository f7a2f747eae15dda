-- Both parts of a pair that fits are components, and so are the numbers that are read of them.
use Rattle.std.proofs.Common.{◌≡◌, true}
use Rattle.whole.specs.Numbers.{fits_i16}
use Rattle.whole.specs.Truth.{left_of, right_of, five_of}
use Rattle.whole.specs.Interval.{Within, i16_within}
use Rattle.records.specs.declared.Pair.{Pair}
use Rattle.records.specs.Packing.{pair_fits}
use Rattle.choosing.specs.Fields.{read, read_within}
use Rattle.replay_choosing.proofs.choice_of.Goals as goal

parts : (p : Pair) → pair_fits p ≡ true → Within 32768 32767 (read p.first) × Within 32768 32767 (read p.second)
parts p e =
    (read_within (i16_within p.first (left_of (fits_i16 p.first) (fits_i16 p.second) e)), read_within (i16_within p.second (right_of (fits_i16 p.first) (fits_i16 p.second) e)))

pub returns : goal.returns
returns c =
    let given = c.args.given in
    let fit = five_of (pair_fits given.pos) (pair_fits given.cpos) (pair_fits given.predictor) (pair_fits given.window_x) (pair_fits given.window_y) c.requires in
    let at = parts given.predictor fit.2 in
    let across = parts given.window_x fit.3 in
    let down = parts given.window_y fit.4 in
    record { x = at.0; y = at.1; least_x = across.0; greatest_x = across.1; least_y = down.0; greatest_y = down.1 }
