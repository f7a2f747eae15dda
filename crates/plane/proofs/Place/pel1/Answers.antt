-- Each number is small enough that the product and the sums fit 64 bits. Assumes nothing.
use Rattle.std.proofs.Common.{ℤ, ◌+ℤ◌, ◌*ℤ◌, FitsSigned, to_z, of_z, rules}
use Rattle.std.specs.Int.{w32, w64}
use Rattle.whole.specs.Interval.{Within, Is, within_more, is_within, is_arg, is_cast, ask_add, is_add, is_times}
use Rattle.plane.proofs.Machine.{as_64, is_natural}
use Rattle.plane.proofs.Place.pel1.Goals as goal

-- ---- the sums, over what the machine reads of each number
module _ {B Y Q X b y q x : ℤ} (base_is : Is w64 2147483647 2147483647 B b) (y_is : Is w64 4000000000 4000000000 Y y) (pitch_is : Is w64 65536 65536 Q q) (x_is : Is w64 4000000000 4000000000 X x) where
  row : Is w64 262144000000000 262144000000000 (as_64 (Y *ℤ Q)) (y *ℤ q)
  row = is_times y_is pitch_is tt tt

  start : Is w64 262146147483647 262146147483647 (as_64 (B +ℤ as_64 (Y *ℤ Q))) (b +ℤ y *ℤ q)
  start = is_add base_is row tt tt

  sample : Is w64 262150147483647 262150147483647 (as_64 (as_64 (B +ℤ as_64 (Y *ℤ Q)) +ℤ X)) (b +ℤ y *ℤ q +ℤ x)
  sample = is_add start x_is tt tt

-- ---- what is known of each
pitch_at : {q : ℤ} → FitsSigned w32 q → Within 0 65536 q → Is w64 65536 65536 (as_64 (to_z w32 (of_z w32 q))) q
pitch_at f lies = is_cast w64 (is_arg f (within_more lies tt tt)) tt tt

pub overflow_add-result-2 : goal.overflow_add-result-2
overflow_add-result-2 c =
    let pitch : FitsSigned w32 c.args.self.pitch = search rules in
    let q = pitch_at pitch c.requires.placed.pitch_in in
    let b = is_natural {w = w64} 2147483647 c.requires.placed.base_in tt in
    let x = is_within w64 c.requires.x_in tt tt in
    let y = is_within w64 c.requires.y_in tt tt in
    ask_add (start b y q x) x tt tt

pub returns : goal.returns
returns c =
    let pitch : FitsSigned w32 c.args.self.pitch = search rules in
    let q = pitch_at pitch c.requires.placed.pitch_in in
    let b = is_natural {w = w64} 2147483647 c.requires.placed.base_in tt in
    let x = is_within w64 c.requires.x_in tt tt in
    let y = is_within w64 c.requires.y_in tt tt in
    (sample b y q x).same
