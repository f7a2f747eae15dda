-- From the front on, a sum that the data reach. Assumes nothing.
use Rattle.std.proofs.Common.{◌≡◌, true, false, List, ℕ, ◌+◌, ◌*◌, leb, leb-true, length, ℤ, pos, negsuc, to_z-of_z}
use Rattle.std.proofs.Math.IntN.{nat_abs}
use Rattle.std.specs.Int.Signed.{lt_z}
use Rattle.whole.specs.Signed.{signed}
use Rattle.absent_reads.specs.Absent.{absent_in}
use Rattle.absent_reads.specs.Counts.{lacks_nothing}
use Rattle.absent_reads.proofs.lies_inside.Goals as goal

from_front : (s : List ℕ) (at : ℤ) (pitch w h : ℕ) → lt_z at (pos 0) ≡ false → leb (nat_abs at + (h * pitch + w)) (length s) ≡ true → absent_in s at pitch w h ≡ 0
from_front s (pos n) pitch w h e k = lacks_nothing s n pitch w h (leb-true _ _ k)
from_front s (negsuc n) pitch w h e k = absurd (omega signed)

pub returns : goal.returns
returns c e =
    let f = c.ranges.at in
    let front = simp to_z-of_z at c.if-at-lt0.false in
    from_front c.args.samples.bytes.now c.args.at c.args.samples.pitch c.args.w c.args.h front (simp to_z-of_z at e)
