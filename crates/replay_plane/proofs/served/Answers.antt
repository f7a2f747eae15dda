-- Where all tests hold, their parts are what an offset asks.
use Rattle.std.proofs.Common.{leb, rules}
use Rattle.whole.specs.Truth.{four_of}
use Rattle.plane.specs.Offsets.{limits_placed}
use Rattle.replay_plane.proofs.served.Goals as goal

pub returns : goal.returns
returns c e =
    let p = c.args.place in
    let tests = four_of (leb p.base 2147483647) c.contains.result c.contains-2.result c.within_limits.result e in
    limits_placed p (search rules) (search rules) (search rules) (search rules)
