-- 02, Three, of every file and of every answer: the two counts of the header add up to the file's BAD records. Assumes nothing.
use Rattle.std.specs.Prelude.{◌≡◌, List, ℕ, nat_abs, ◌+ℤ◌, Ok}
use Rattle.std.proofs.Math.Path.{ap}
use Rattle.std.proofs.Common.{subst}
use Rattle.std.proofs.Math.IntN.{pos}
use Rattle.window.specs.Windows.{is_bad}
use Rattle.plan_file.specs.declared.Head.{Head}
use Rattle.plan_file.specs.PlanFile.{words_of, trailer_of, tally, head_of, plan_of}
use Rattle.plan_file.specs.Counting.{both_are}
use Rattle.plan_file.specs.Served.{accepted_says}

abbrev pub bad_of : List ℕ → ℕ
bad_of file = tally is_bad (words_of file) (nat_abs (trailer_of file).count)

abbrev pub AddUp : List ℕ → Head → Type 0
AddUp file head = head.searched +ℤ head.kept ≡ pos (bad_of file)

module _ (file : List ℕ) where
  -- ---- the header that is read of it, whatever the file
  pub heads_add : AddUp file (head_of file)
  unfolding head_of
  heads_add = ap pos (both_are (words_of file) (nat_abs (trailer_of file).count))

  -- ---- the header that a caller of `check_plan_file` is answered
  pub answers_add : (head : Head) → plan_of file ≡ Ok head → AddUp file head
  answers_add head e = subst (AddUp file) (accepted_says file head e).2 heads_add
