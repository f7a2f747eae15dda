-- The count, or -1. Assumes nothing.
use Rattle.std.specs.Prelude.{◌≡◌, refl, ℤ, negsuc, Option, Some, None}
use Rattle.std.proofs.Common.{◌∙◌}
use Rattle.std.specs.Int.{w32}
use Rattle.std.specs.Option.{unwrap_or}
use Rattle.whole.specs.Signed.{got}
use Rattle.five_numbers.specs.Five.{number_of}
use Rattle.five_numbers.proofs.number_of.Goals as goal

alike : (absences : Option ℤ) → unwrap_or absences (negsuc 0) ≡ number_of absences
unfolding number_of
alike (Some absent) = refl
alike None = refl

pub returns : goal.returns
returns c = got w32 c.unwrap_or.type_inv (c.unwrap_or.ensures ∙ alike c.args.absences)
