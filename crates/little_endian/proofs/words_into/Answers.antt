-- After i turns the first i words stand in front of what was there. Assumes nothing.
use Rattle.std.proofs.Common.{ap, set, ◌∙◌, arith, w32}
use Rattle.whole.specs.Signed.{got}
use Rattle.little_endian.specs.WordsRead.{words_next}
use Rattle.little_endian.proofs.words_into.Goals as goal

pub loop-i-preserved : goal.loop-i-preserved
loop-i-preserved c =
    let l = c.loop-i in
    ap (set l.words l.i) (got w32 c.word_at.type_inv c.word_at.ensures) ∙ words_next c.args.bytes.now l.i c.args.words.now (omega arith) l.invariant
