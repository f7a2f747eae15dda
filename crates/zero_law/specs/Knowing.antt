-- What is known of the lent buffer after an accepted evaluation, law by law. Definitions alone.
use Rattle.std.specs.Prelude.{List, ℕ, ℤ}
use Rattle.evaluation.specs.declared.Request.{Request}
use Rattle.evaluation.specs.Zero.{ZeroLaw}
use Rattle.zero_law.specs.Counted.{CountLaw}
use Rattle.zero_law.specs.RealMatch.{RealLaw}
use Rattle.zero_law.specs.Kept.{KeptLaw}

pub record Known (q : Request) (records : List ℤ) (luma u v referenceLuma referenceU referenceV : List ℕ) (bests : List ℤ) : Type 0 where
  -- a SAD of 0 is that all samples compared agree, an absent one read as 0
  pub zero : ZeroLaw q records luma u v referenceLuma referenceU referenceV bests
  -- the fifth number is how many of the reference's are absent
  pub counts : CountLaw q records referenceLuma referenceU referenceV bests
  -- and a SAD of 0 with a count of 0 is that real samples agree
  pub real : RealLaw q records luma u v referenceLuma referenceU referenceV bests
  -- a bad record whose window is empty has kept its predictor, with the predictor's cost
  pub kept : KeptLaw q records luma u v referenceLuma referenceU referenceV bests
