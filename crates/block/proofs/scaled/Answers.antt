-- Two products of bounded numbers. Assumes nothing.
use Rattle.std.specs.Int.{w32}
use Rattle.whole.specs.Interval.{is_within, is_times}
use Rattle.records.specs.Alike.{alike_pairs}
use Rattle.block.proofs.scaled.Goals as goal

pub returns : goal.returns
returns c =
    let pel = is_within w32 c.requires.0 tt tt in
    alike_pairs (is_times pel (is_within w32 c.requires.1.0 tt tt) tt tt).same (is_times pel (is_within w32 c.requires.1.1 tt tt) tt tt).same
