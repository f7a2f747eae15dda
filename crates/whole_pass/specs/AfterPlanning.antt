-- What planning leaves in the two lent buffers where it is done: the words and indices of the pass, and then what stood behind. Assumes nothing.
use Rattle.std.specs.Prelude.{◌≡◌, List, ◌++◌, ℕ, ◌*◌, ℤ, length, take, drop}
use Rattle.std.proofs.Common.{ap, ◌∙◌, take_at, drop_at}
use Rattle.limits.specs.Sizes.{words_per_record}
use Rattle.limits.specs.Refused.{kept_done}
use Rattle.block.specs.declared.Settings.{Settings}
use Rattle.passes.specs.Fold.{words_upto, indices_upto}
use Rattle.passes.specs.FoldLaws.{words_long, indices_long}
use Rattle.planning.specs.Refusals.{block_count, refusal_of}
use Rattle.planning.specs.Planned.{plan_records, plan_indices}
use Rattle.planning.specs.Accepted.{Accepted, accepted}

module _ (s : Settings) (order vectors : List ℤ) (luma u v : List ℕ) (records indices : List ℤ)
    (planned : refusal_of s order vectors (length luma) (length u) (length v) (length records) (length indices) ≡ 0) where
  abbrev pub n : ℕ
  n = block_count s.grid

  pub taken : Accepted s order vectors (length records) (length indices)
  taken = accepted s order vectors (length luma) (length u) (length v) (length records) (length indices) planned

  abbrev pub written : List ℤ
  written = plan_records s order vectors (length luma) (length u) (length v) records (length indices)

  abbrev pub named : List ℤ
  named = plan_indices s order vectors (length luma) (length u) (length v) (length records) indices

  pub written_is : written ≡ words_upto s order vectors n ++ drop (words_per_record * n) records
  unfolding plan_records
  written_is = kept_done _ _ records planned

  named_is : named ≡ indices_upto s order vectors n ++ drop n indices
  unfolding plan_indices
  named_is = kept_done _ _ indices planned

  pub records_are : take (words_per_record * n) written ≡ words_upto s order vectors n
  records_are = ap (take (words_per_record * n)) written_is ∙ take_at (words_upto s order vectors n) _ (words_per_record * n) (words_long s order vectors n)

  pub records_tail : drop (words_per_record * n) written ≡ drop (words_per_record * n) records
  records_tail = ap (drop (words_per_record * n)) written_is ∙ drop_at (words_upto s order vectors n) _ (words_per_record * n) (words_long s order vectors n)

  pub indices_are : take n named ≡ indices_upto s order vectors n
  indices_are = ap (take n) named_is ∙ take_at (indices_upto s order vectors n) _ n (indices_long s order vectors n)

  pub indices_tail : drop n named ≡ drop n indices
  indices_tail = ap (drop n) named_is ∙ drop_at (indices_upto s order vectors n) _ n (indices_long s order vectors n)
