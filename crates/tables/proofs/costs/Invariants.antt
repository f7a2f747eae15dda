-- The invariant is an equation: the costs so far are the definition's, of as many slots.
use Rattle.std.proofs.Common.{◌≡◌}
use Rattle.distance.specs.Distance.{block_of}
use Rattle.plane_view.specs.View.{place_cost}
use Rattle.tables.specs.Tables.{costs_upto}
use Rattle.tables.proofs.costs.Given as goal

abbrev pub invariant-loop-n : goal.invariant-loop-n
invariant-loop-n l = l.out ≡ costs_upto (place_cost l.measure l.block.w l.block.h (block_of l.block.samples.now l.block.w) l.view.bytes.now l.view.place) l.offsets l.n
