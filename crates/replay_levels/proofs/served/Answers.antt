-- Each of the three tests says a part.
use Rattle.std.proofs.Common.{rules}
use Rattle.whole.specs.Truth.{three_of}
use Rattle.replay_levels.proofs.served.Goals as goal

pub returns : goal.returns
returns c e =
    let tests = three_of c.is_pel.result c.contains.result c.contains-2.result e in
    record { height_in = search rules; pel_in = search rules; level_in = search rules }
