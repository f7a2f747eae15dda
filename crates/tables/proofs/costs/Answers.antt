-- A slot's cost is the one from its offset on, as the machine reads it. Assumes nothing.
use Rattle.std.proofs.Common.{◌≡◌, sym, arith}
use Rattle.std.specs.Int.{w64}
use Rattle.whole.specs.Interval.{is_within}
use Rattle.tables.specs.Tables.{slots_used}
use Rattle.tables.specs.Laws.{slots_few, costs_none, costs_next}
use Rattle.tables.proofs.costs.Goals as goal

pub loop-n-init : goal.loop-n-init
loop-n-init c = sym (costs_none _ _)

pub offset_bounds-offsets-n : goal.offset_bounds-offsets-n
offset_bounds-offsets-n c = omega (arith, c.slots_used-used.ensures, slots_few c.requires.served.narrow)

pub bounds-offsets-n : goal.bounds-offsets-n
bounds-offsets-n c = omega (arith, c.slots_used-used.ensures, slots_few c.requires.served.narrow)

pub cost-requires : goal.cost-requires
cost-requires c =
    let p = c.requires.packed_block in
    let near = p.1.1.near c.loop-n.n in
    record { placed = p.1.0; packed = p.0; near = rw (is_within w64 near tt tt).same near }

pub offset_bounds-out-n : goal.offset_bounds-out-n
offset_bounds-out-n c = omega (arith, c.slots_used-used.ensures, slots_few c.requires.served.narrow)

pub bounds-out-n : goal.bounds-out-n
bounds-out-n c = omega (arith, c.slots_used-used.ensures, slots_few c.requires.served.narrow)

pub loop-n-preserved : goal.loop-n-preserved
loop-n-preserved c =
    let near = c.requires.packed_block.1.1.near c.loop-n.n in
    let cost = rw (is_within w64 near tt tt).same at c.cost.ensures in
    rw (cost, c.loop-n.invariant) (sym (costs_next _ _ _))

pub returns : goal.returns
returns c =
    let all : c.loop-n.n ≡ slots_used c.args.choice = omega (arith, c.slots_used-used.ensures) in
    rw all at c.loop-n.invariant
