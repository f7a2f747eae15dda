-- After i turns the first i words stand in front of what was there.
use Rattle.std.proofs.Common.{◌≡◌, ◌++◌, drop}
use Rattle.little_endian.specs.Bytes.{words_upto}
use Rattle.little_endian.proofs.words_into.Given as goal

abbrev pub invariant-loop-i : goal.invariant-loop-i
invariant-loop-i l = l.words ≡ words_upto l.bytes l.i ++ drop l.i l.initial.words
