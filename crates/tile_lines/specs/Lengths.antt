-- How long the text of a number of 16 bits is, by itself and in its columns. Assumes nothing.
use Rattle.std.specs.Prelude.{◌≡◌, suc, ◌-◌, ◌≤◌, ℤ, pos, negsuc, length}
use Rattle.std.proofs.Common.{arith, length-append, length-take-le, SFits}
use Rattle.std.specs.Int.{w16}
use Rattle.whole.specs.Signed.{range}
use Rattle.report_text.specs.Text.{codes, decimal}
use Rattle.report_text.specs.Digits.{digits_length}
use Rattle.tile_lines.specs.Lines.{entry_text}

-- five digits hold the size of every number of 16 bits, and one byte its sign
pub number_length : {z : ℤ} → SFits w16 z → length (decimal z) ≤ 6
unfolding decimal
number_length {z = pos n} f = let m = digits_length 4 n (omega (arith, range f)) in omega arith
number_length {z = negsuc n} f = let m = digits_length 4 (suc n) (omega (arith, range f)) in omega arith

pub entry_length : {z : ℤ} → SFits w16 z → length (entry_text z) ≡ 7
entry_length {z} f =
    let l = number_length f in
    rw length-append (omega (arith, length-take-le (7 - length (decimal z)) (codes "       ") (omega arith)))
