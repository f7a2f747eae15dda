-- A block's step, put together of its stages, each worked out from the one before. Assumes nothing.
use Rattle.std.specs.Prelude.{◌≡◌, Bool, cond, ℤ, Some}
use Rattle.std.proofs.Math.Path.{sym, ap}
use Rattle.std.proofs.Common.{◌∙◌}
use Rattle.std.proofs.Math.Bool.{true, false}
use Rattle.whole.specs.Signed.{holds}
use Rattle.records.specs.declared.Record.{Record}
use Rattle.slots.specs.declared.Source.{Source}
use Rattle.slots.specs.declared.Slots.{Slots}
use Rattle.slots.specs.Slots.{active_of, luma_in_active, chroma_in_active, inside_of, moved_of}
use Rattle.plane.specs.declared.Place.{Place}
use Rattle.plane.specs.Places.{pel1_of}
use Rattle.planes.specs.declared.Sides.{Sides}
use Rattle.planes.specs.declared.Planes.{Planes}
use Rattle.block.specs.declared.Settings.{Settings}
use Rattle.block.specs.declared.Block.{Block}
use Rattle.block.specs.declared.Shape.{Shape}
use Rattle.block.specs.declared.Spot.{Spot}
use Rattle.block.specs.declared.Step.{Step}
use Rattle.block.specs.Shapes.{shape_of, lambda_of, is_bad, moves_of, spot_of}
use Rattle.block.specs.Steps.{filled_with, settled_at, bad_record, bad_step, quiet_record, luma_step, quiet_step, step_with, step_of}

-- ---- a place is written into the active slot
module _ (p : Planes) (spot : Spot) (t : Slots) where
  pub negative_filled : (negative : Bool) {written : Slots} {at : ℤ} → negative ≡ true →
      at ≡ pel1_of p.luma spot.x spot.y → written ≡ luma_in_active negative at t → written ≡ filled_with p negative spot t
  unfolding filled_with
  negative_filled true n e₀ e₁ = e₁ ∙ ap (λ (k : ℤ). luma_in_active true k t) e₀
  negative_filled false n e₀ e₁ = absurd (holds n)

  pub plain_filled : (negative : Bool) {written filled : Slots} {at u v : ℤ} → negative ≡ false →
      at ≡ pel1_of p.luma spot.x spot.y → u ≡ pel1_of p.u spot.cx spot.cy → v ≡ pel1_of p.v spot.cx spot.cy →
      written ≡ luma_in_active negative at t → filled ≡ chroma_in_active u v written → filled ≡ filled_with p negative spot t
  unfolding filled_with
  plain_filled true n e₀ e₁ e₂ e₃ e₄ = absurd (holds (sym n))
  plain_filled false n e₀ e₁ e₂ e₃ e₄ = cc

-- ---- a block is settled
module _ (p : Planes) (negative : Bool) (spot : Spot) (t : Slots) where
  pub moved_settled : (moves : Bool) {switched after : Slots} → moves ≡ true →
      switched ≡ moved_of t → after ≡ filled_with p negative spot switched → after ≡ settled_at p negative moves spot t
  unfolding settled_at
  moved_settled true n e₀ e₁ = e₁ ∙ ap (filled_with p negative spot) e₀
  moved_settled false n e₀ e₁ = absurd (holds n)

  pub inside_settled : (moves : Bool) {after : Slots} → moves ≡ false → after ≡ inside_of t → after ≡ settled_at p negative moves spot t
  unfolding settled_at
  inside_settled true n e = absurd (holds (sym n))
  inside_settled false n e = e

-- ---- the stages of a step
module _ (p : Planes) (shift : Sides) (b : Block) (h : Shape) (lambda : ℤ) (t : Slots) where
  pub bad_stages : {own spot : Spot} {source : Source} {written after : Slots} {moves : Bool} {at : ℤ} {made : Record} →
      own ≡ spot_of shift false h → written ≡ filled_with p h.negative own t →
      moves ≡ moves_of h → spot ≡ spot_of shift moves h → after ≡ settled_at p h.negative moves spot written → source ≡ active_of after →
      at ≡ pel1_of p.luma own.x own.y → made ≡ bad_record b h spot lambda source (Some at) →
      ◌≡◌ {A = Step} (record { made = made; slots = after }) (bad_step p shift b h lambda t)
  unfolding bad_step
  bad_stages e₀ e₁ e₂ e₃ e₄ e₅ e₆ e₇ = cc

module _ (luma : Place) (b : Block) (h : Shape) (lambda : ℤ) (t : Slots) where
  pub luma_stages : {after : Slots} {at : ℤ} {made : Record} →
      at ≡ pel1_of luma h.across.origin h.down.origin → after ≡ luma_in_active h.negative at t →
      made ≡ quiet_record b h.negative lambda (Some at) →
      ◌≡◌ {A = Step} (record { made = made; slots = after }) (luma_step luma b h lambda t)
  unfolding luma_step
  luma_stages e₀ e₁ e₂ = cc

-- ---- which of the three kinds a block is
cond_true : (q : Bool) (x y : Step) → q ≡ true → cond q x y ≡ x
cond_true q x y e = ap (λ (k : Bool). cond k x y) e

cond_false : (q : Bool) (x y : Step) → q ≡ false → cond q x y ≡ y
cond_false q x y e = ap (λ (k : Bool). cond k x y) e

module _ (s : Settings) (b : Block) (t : Slots) (h : Shape) (lambda : ℤ) where
  pub bad_case : is_bad s.weights h.negative b.sad ≡ true → bad_step s.planes s.shift b h lambda t ≡ step_with s b t h lambda
  unfolding step_with
  bad_case e = sym (cond_true (is_bad s.weights h.negative b.sad) _ _ e)

  pub luma_case : is_bad s.weights h.negative b.sad ≡ false → s.level.need_luma ≡ true →
      luma_step s.planes.luma b h lambda t ≡ step_with s b t h lambda
  unfolding step_with
  luma_case e f = sym (cond_false (is_bad s.weights h.negative b.sad) _ _ e ∙ cond_true s.level.need_luma _ _ f)

  pub quiet_case : is_bad s.weights h.negative b.sad ≡ false → s.level.need_luma ≡ false →
      quiet_step b h.negative lambda t ≡ step_with s b t h lambda
  unfolding step_with
  quiet_case e f = sym (cond_false (is_bad s.weights h.negative b.sad) _ _ e ∙ cond_false s.level.need_luma _ _ f)

  pub stepped : h ≡ shape_of s b → lambda ≡ lambda_of s.weights h.negative → step_with s b t h lambda ≡ step_of s b t
  unfolding step_of
  stepped e f = ap (step_with s b t h) f ∙ ap (λ (k : Shape). step_with s b t k (lambda_of s.weights k.negative)) e
