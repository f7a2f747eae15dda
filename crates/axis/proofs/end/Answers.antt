-- Bounded numbers have a bounded product. Assumes nothing.
use Rattle.std.specs.Prelude.{ℤ, ◌-ℤ◌}
use Rattle.std.specs.Int.{w32}
use mir.Val.{to_z, of_z}
use Rattle.whole.specs.Interval.{Within, Is, is_within, is_wider, is_sub, ask_times, is_times}
use Rattle.axis.proofs.end.Goals as goal

room : {frame origin side : ℤ} → Within 0 16384 frame → Within 0 16384 origin → Within 0 16 side →
    Is w32 16400 16400
    (to_z w32 (of_z w32 (to_z w32 (of_z w32 (to_z w32 (of_z w32 frame) -ℤ to_z w32 (of_z w32 origin))) -ℤ to_z w32 (of_z w32 side))))
    (frame -ℤ origin -ℤ side)
room f o s = is_wider (is_sub (is_sub (is_within w32 f tt tt) (is_within w32 o tt tt) tt tt) (is_within w32 s tt tt) tt tt) tt tt

pub overflow_mul-result : goal.overflow_mul-result
overflow_mul-result c = ask_times (is_within w32 c.requires.pel tt tt) (room c.requires.frame c.requires.origin c.requires.side) tt tt

pub returns : goal.returns
returns c = (is_times (is_within w32 c.requires.pel tt tt) (room c.requires.frame c.requires.origin c.requires.side) tt tt).same
