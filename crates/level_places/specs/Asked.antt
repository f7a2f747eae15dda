-- What the functions ask of a super frame: what is left once 2 and the range of the level have been asked. Assumes nothing.
use Rattle.std.specs.Prelude.{◌≡◌, true}
use Rattle.whole.specs.Interval.{Within}
use Rattle.limits.specs.Limits.{is_pel}
use Rattle.level_places.specs.declared.SuperFrame.{SuperFrame}

-- rows can be counted in 64 bits
pub record Rowed (f : SuperFrame) : Type 0 where
  pub height_in : Within 0 16384 f.frame.y
  pub pel_in : is_pel f.pel ≡ true
  pub level_in : Within 0 15 f.level

-- and so can bytes
pub record Cuttable (f : SuperFrame) : Type 0 where
  pub rowed : Rowed f
  pub luma_in : Within 0 65536 f.pitch.luma
  pub u_in : Within 0 65536 f.pitch.u
  pub v_in : Within 0 65536 f.pitch.v
