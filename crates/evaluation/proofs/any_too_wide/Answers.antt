-- The radius, and then every record. Assumes nothing.
use mathlib.Core.Path.{◌≡◌, ap, ◌∙◌}
use Prim.Native.Nat.{◌/◌}
use lib.IntN.{ℤ}
use lib.ListN.{length}
use mir.Facts.{to_z-of_z}
use mir.Syntax.{w32}
use mir.Val.{to_z, of_z}
use Rattle.limits.specs.Sizes.{words_per_record}
use Rattle.limits.specs.Limits.{radius_of}
use Rattle.whole.specs.Signed.{got}
use Rattle.whole.specs.Interval.{fits}
use Rattle.record_slice.specs.RecordSlice.{any_wide}
use Rattle.evaluation.proofs.any_too_wide.Goals as goal

radius-is : (c : goal.After-any_wide) → to_z w32 (of_z w32 c.radius_of-radius.result) ≡ radius_of c.args.request.search_param
radius-is c = got w32 c.radius_of-radius.type_inv (c.radius_of-radius.ensures ∙ ap radius_of (to_z-of_z (fits {w = w32} c.requires.search tt tt)))

pub returns : goal.returns
returns c =
    let records = c.args.records.now in
    c.any_wide.ensures ∙ ap (λ (z : ℤ). any_wide z records (length records / words_per_record)) (radius-is c)
