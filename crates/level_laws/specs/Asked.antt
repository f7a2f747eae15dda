-- A level asked with six raw planes' bytes, and those bytes of them that its planes are cut from. Definitions alone.
use Rattle.refusals.specs.declared.Refusal.{Refusal}
use Rattle.planes.specs.declared.Planes.{Planes}
use Rattle.std.specs.Prelude.{cond, List, ℕ, length, Result}
use Rattle.level_places.specs.declared.SuperFrame.{SuperFrame}
use Rattle.level_places.specs.Levels.{from_source}
use Rattle.levels.specs.Refusals.{level_answer}

-- the packed planes, and the separate source's, which are not looked at where there is none
pub record Bytes : Type 0 where
  pub luma : List ℕ
  pub u : List ℕ
  pub v : List ℕ
  pub source_luma : List ℕ
  pub source_u : List ℕ
  pub source_v : List ℕ

abbrev pub answer_of : SuperFrame → Bytes → Result Planes Refusal
answer_of f b =
    level_answer f (length b.luma) (length b.u) (length b.v) (length b.source_luma) (length b.source_u) (length b.source_v)

-- what a host hands to planning and evaluating with the level's planes: level 0 of a frame whose source lies apart is the source
abbrev pub luma_of : SuperFrame → Bytes → List ℕ
luma_of f b = cond (from_source f) b.source_luma b.luma

abbrev pub u_of : SuperFrame → Bytes → List ℕ
u_of f b = cond (from_source f) b.source_u b.u

abbrev pub v_of : SuperFrame → Bytes → List ℕ
v_of f b = cond (from_source f) b.source_v b.v
