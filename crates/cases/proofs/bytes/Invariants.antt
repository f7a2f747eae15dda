-- The places so far hold the numbers that stand there.
use Rattle.std.proofs.Common.{◌≡◌, ℕ, ◌<◌, length, get_or, pos}
use Rattle.cases.specs.Samples.{limited_to}
use Rattle.cases.proofs.bytes.Given as goal

abbrev pub invariant-loop-place : goal.invariant-loop-place
invariant-loop-place g l =
    record {
      long : length l.byte-items ≡ g.row.N;
      filled : (k : ℕ) → k < l.place → get_or l.byte-items k 0 ≡ limited_to 255 (get_or l.numbers k (pos 0));
    }
