-- At the head of row j the locals are the walk's state after j rows, and at the head of a candidate its state after the candidates so far.
use Rattle.std.proofs.Common.{◌≡◌, ℕ, ◌≤◌, List}
use Rattle.choosing.specs.declared.Choice.{Choice}
use Rattle.choosing.specs.Choosing.{Walk, along_row, restarted, along_rows, start}
use Rattle.choosing.proofs.Walking.{walk}
use Rattle.choosing.proofs.Choice.choose.Given as goal

abbrev pub head_of : Choice → List ℕ → List ℕ → ℕ → Walk
head_of k luma chroma j = restarted (along_rows k luma chroma j (start k luma chroma))

abbrev pub invariant-columns : goal.invariant-columns
invariant-columns l =
    record {
      behind : l.column ≤ l.i;
      state : walk l.x l.y l.sad l.least l.column ≡ along_row l.self l.luma l.chroma l.j l.i (head_of l.self l.luma l.chroma l.j);
    }

abbrev pub invariant-rows : goal.invariant-rows
invariant-rows l = walk l.x l.y l.sad l.least 0 ≡ head_of l.self l.luma l.chroma l.j
