-- The predictor with its margin, against the two limits. Assumes nothing.
use Rattle.std.proofs.Common.{to_z-of_z}
use Rattle.std.specs.Int.{w32}
use mir.Val.{SFits, to_z, of_z}
use Rattle.whole.specs.Signed.{got}
use Rattle.whole.specs.Interval.{Is, is_call, read_within, fits}
use Rattle.axis.specs.Axis.{margin_of, least_of, end_of, excess_of}
use Rattle.axis.specs.Bounds.{margin_within, least_within, end_within}
use Rattle.axis.proofs.excess.Goals as goal
use Rattle.axis.proofs.excess.Goals.{After-end-max}

module _ (c : After-end-max) where
  margin_is : Is w32 32770 32769 (to_z w32 (of_z w32 c.margin-v.result)) (margin_of c.args.axis.predictor)
  margin_is =
      let f : SFits w32 c.args.axis.predictor = fits c.requires.predictor tt tt in
      is_call w32 c.margin-v.type_inv (simp to_z-of_z at c.margin-v.ensures) (margin_within c.requires)

  least_is : Is w32 65536 65536 (to_z w32 (of_z w32 c.least-min.result)) (least_of c.args.axis)
  least_is = is_call w32 c.least-min.type_inv c.least-min.ensures (least_within c.requires)

  end_is : Is w32 65600 65600 (to_z w32 (of_z w32 c.end-max.result)) (end_of c.args.axis)
  end_is = is_call w32 c.end-max.type_inv c.end-max.ensures (end_within c.requires)

pub excess_by-requires : goal.excess_by-requires
excess_by-requires c =
    let k = (goal.at.excess_by-requires c).After-end-max in
    (read_within (margin_is k), (read_within (least_is k), read_within (end_is k)))

pub returns : goal.returns
unfolding excess_of
returns c =
    let k = (goal.at.returns c).After-end-max in
    got w32 c.excess_by.type_inv (rw ((margin_is k).same, (least_is k).same, (end_is k).same) at c.excess_by.ensures)
