-- Values put together of equal parts are equal. Each lemma is over plain variables. Assumes nothing.
use Rattle.std.specs.Prelude.{◌≡◌, Bool, ℤ}
use Rattle.records.specs.declared.Record.{Record}
use Rattle.slots.specs.declared.Slots.{Slots}
use Rattle.axis.specs.declared.Axis.{Axis}
use Rattle.block.specs.declared.Shape.{Shape}
use Rattle.block.specs.declared.Spot.{Spot}
use Rattle.block.specs.declared.Step.{Step}
use Rattle.block.specs.Shapes.{axis_of}

pub alike_axes : {a b c d e f A B C D E F : ℤ} → a ≡ A → b ≡ B → c ≡ C → d ≡ D → e ≡ E → f ≡ F →
    ◌≡◌ {A = Axis} (record { pel = a; frame = b; origin = c; side = d; predictor = e; radius = f })
    (record { pel = A; frame = B; origin = C; side = D; predictor = E; radius = F })
alike_axes p₀ p₁ p₂ p₃ p₄ p₅ = cc

pub alike_shapes : {a b A B : Axis} {n m : Bool} → a ≡ A → b ≡ B → n ≡ m →
    ◌≡◌ {A = Shape} (record { across = a; down = b; negative = n }) (record { across = A; down = B; negative = m })
alike_shapes p q r = cc

pub alike_spots : {a b c d A B C D : ℤ} → a ≡ A → b ≡ B → c ≡ C → d ≡ D →
    ◌≡◌ {A = Spot} (record { x = a; y = b; cx = c; cy = d }) (record { x = A; y = B; cx = C; cy = D })
alike_spots p q r s = cc

pub alike_steps : {r R : Record} {t T : Slots} → r ≡ R → t ≡ T → ◌≡◌ {A = Step} (record { made = r; slots = t }) (record { made = R; slots = T })
alike_steps p q = cc

-- an axis worked out from what the machine reads
pub axis_read : {a : Axis} {P p F f S s D d L l X x R r : ℤ} {N n : Bool} → a ≡ axis_of P F S D L X R N →
    P ≡ p → F ≡ f → S ≡ s → D ≡ d → L ≡ l → X ≡ x → R ≡ r → N ≡ n → a ≡ axis_of p f s d l x r n
axis_read e p₀ p₁ p₂ p₃ p₄ p₅ p₆ p₇ = cc
