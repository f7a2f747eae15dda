-- 01, "Plan file": what is printed of its listing, by computation, with the header that 02, Three, makes of it.
use Rattle.std.specs.Prelude.{◌≡◌, refl}
use Rattle.little_endian.specs.Bytes.{bytes_of, word_at, words_upto}
use Rattle.records.specs.Unpacking.{record_of}
use Rattle.report_text.specs.Text.{codes, digits_by, digits, decimal}
use Rattle.record_slice.specs.RecordSlice.{words_from, record_at}
use Rattle.plan_file.specs.Examples.{listed, listed_head}
use Rattle.plan_lines.specs.Report.{head_text, line_text, line_of}

-- "it prints"
pub listing_head : head_text listed_head ≡ codes "plan blocks=1 searched=0 kept=0 size=8x8 pel=2 slots=10\n"
unfolding head_text decimal digits digits_by
listing_head = refl

pub listing_line : line_of listed 0 ≡ codes "0 bad=0 half=0 lambda=0 predictor=3,-4 sad=10 average=none window=0,-1,0,-1\n"
unfolding line_text decimal digits digits_by record_at words_from record_of words_upto word_at bytes_of
listing_line = refl
