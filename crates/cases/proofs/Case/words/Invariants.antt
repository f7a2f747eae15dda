-- The places so far hold the inputs that stand there.
use Rattle.std.proofs.Common.{◌≡◌, length, map, take}
use Rattle.std.specs.Int.{w32}
use Rattle.whole.specs.Numbers.{wrapped}
use Rattle.cases.proofs.Case.words.Given as goal

abbrev pub invariant-loop-place : goal.invariant-loop-place
invariant-loop-place g l =
    record {
      long : length l.words ≡ g.row.N;
      filled : take l.place l.words ≡ map (wrapped w32) (take l.place l.self.inputs.now);
    }
