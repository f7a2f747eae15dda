-- The 12 words, each by itself.
use Rattle.std.proofs.Common.{rules}
use Rattle.records.specs.Alike.{alike_words}
use Rattle.records.specs.Packing.{record_words}
use Rattle.records.proofs.words_of.Goals as goal

pub returns : goal.returns
unfolding record_words
returns c = search (rules, alike_words)
