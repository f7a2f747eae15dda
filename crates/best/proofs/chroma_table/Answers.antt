-- Both planes are one function's tables, read at the same offsets; their costs are small, so that the sums fit. Assumes nothing.
use Rattle.std.proofs.Common.{◌≤◌, arith}
use Rattle.std.specs.Int.{w32}
use Rattle.whole.specs.Interval.{is_within}
use Rattle.tables.specs.Laws.{joined_most, most_small}
use Rattle.best.specs.Best.{chroma_table}
use Rattle.best.specs.Laws.{scale_most}
use Rattle.best.proofs.chroma_table.Goals as goal

pub join-requires : goal.join-requires
join-requires c =
    let fair = c.requires.0 in
    ((c.plane_table-us.ensures.most, c.plane_table-vs.ensures.most), rw (c.scale_of.ensures, (is_within w32 fair.shift_in tt tt).same) (scale_most fair))

pub returns-clause-value : goal.returns-clause-value
unfolding chroma_table
returns-clause-value c =
    rw (c.scale_of.ensures, (is_within w32 c.requires.0.shift_in tt tt).same, c.plane_table-us.ensures.value, c.plane_table-vs.ensures.value) at c.join.ensures

pub returns-clause-small : goal.returns-clause-small
returns-clause-small c =
    let fair = c.requires.0 in
    let scale : c.scale_of.result ≤ 4 = rw (c.scale_of.ensures, (is_within w32 fair.shift_in tt tt).same) (scale_most fair) in
    rw c.join.ensures (most_small (joined_most c.plane_table-us.ensures.most c.plane_table-vs.ensures.most scale) (omega arith))
