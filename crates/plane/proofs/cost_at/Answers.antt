-- In place the rows are those of the slice from the offset on; at an edge they are those that were gathered. Assumes nothing.
use Rattle.std.proofs.Common.{◌∙◌, to_z-of_z}
use Rattle.distance.specs.Distance.{block_of}
use Rattle.plane.specs.Samples.{placed_at}
use Rattle.plane.specs.Reads.{cost_gathered}
use Rattle.plane.proofs.InPlace.{cost_in_place}
use Rattle.plane.proofs.cost_at.Goals as goal

pub returns-then-span-bytes : goal.returns-then-span-bytes
returns-then-span-bytes c =
    let a = c.args in
    let f = c.ranges.at in
    let front = simp to_z-of_z at c.if-at-ge0.true in
    simp to_z-of_z at c.cost.ensures ∙ cost_in_place a.measure a.block.w a.block.h (block_of a.block.samples.now a.block.w) a.samples.bytes.now a.at a.samples.pitch front

pub returns : goal.returns
returns c =
    let a = c.args in
    let f = c.ranges.at in
    let edge = simp to_z-of_z at c.gather-edge.ensures in
    let there = placed_at a.samples.bytes.now a.at a.samples.pitch in
    c.cost-2.ensures ∙ cost_gathered a.measure a.block.w a.block.h (block_of a.block.samples.now a.block.w) there c.requires.w_bound.0 c.requires.w_bound.1.1 c.gather-edge.result edge
