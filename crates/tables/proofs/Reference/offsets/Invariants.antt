-- The invariant is an equation: the table so far is the definition's, after as many rows and candidates. Beside it stands that all offsets stored are near.
use Rattle.std.proofs.Common.{◌≡◌, pos}
use Rattle.tables.specs.Tables.{vector_offset, with_row, with_rows, with_predictor}
use Rattle.tables.specs.Bounds.{Nearby}
use Rattle.tables.proofs.Reference.offsets.Given as goal

abbrev pub invariant-loop-i : goal.invariant-loop-i
invariant-loop-i l = record {
  same : l.out ≡ with_row (pos 0) l.choice (vector_offset l.self) l.j l.i (with_rows (pos 0) l.choice (vector_offset l.self) l.j (with_predictor (pos 0) l.choice (vector_offset l.self)));
  near : Nearby l.out;
}

abbrev pub invariant-loop-j : goal.invariant-loop-j
invariant-loop-j l = record {
  same : l.out ≡ with_rows (pos 0) l.choice (vector_offset l.self) l.j (with_predictor (pos 0) l.choice (vector_offset l.self));
  near : Nearby l.out;
}
