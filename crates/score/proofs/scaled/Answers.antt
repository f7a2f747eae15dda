-- The middle branch is the definition's. The quotient by 35 is small enough that nine of it fit. Assumes nothing.
use Rattle.std.proofs.Common.{◌≡◌, ◌-◌, ℤ, pos, ◌+ℤ◌, ◌*ℤ◌, ap, ◌∙◌, arith, to_z, of_z, w32, to_z-of_z}
use Rattle.std.proofs.Math.Facts.{to_z_pos}
use Rattle.std.specs.Int.Signed.{quot_z}
use borrow.Author.Tests.{lt-ltb, le-ltb}
use mir.Val.{SFits}
use Rattle.whole.specs.Numbers.{wrapped}
use Rattle.whole.specs.Signed.{got, range}
use Rattle.whole.specs.Floor.{quot_p, quot_n}
use Rattle.whole.specs.Interval.{Within, Is, word, is_quot, is_mul}
use Rattle.score.proofs.scaled.Goals as goal

-- a product that was wrapped, divided by 35
module _ {product : ℤ} (fits : SFits w32 product) where
  small : Within 61356676 61356676 (quot_z product (pos 35))
  small = omega (arith, quot_p product 35, quot_n product 35, range fits)

  quotient : Is w32 61356676 61356676 (to_z w32 (of_z w32 (quot_z (to_z w32 (of_z w32 product)) (pos 35)))) (quot_z product (pos 35))
  quotient = record { same = (is_quot 35 (word fits) tt tt).same; lies = small }

sums : {X x Y y : ℤ} → X ≡ x → Y ≡ y → wrapped w32 (X +ℤ Y) ≡ wrapped w32 (x +ℤ y)
sums p q = cc

products : {X x Y y : ℤ} → X ≡ x → Y ≡ y → wrapped w32 (X *ℤ Y) ≡ wrapped w32 (x *ℤ y)
products p q = cc

pub returns-then-share-gt15 : goal.returns-then-share-gt15
returns-then-share-gt15 c =
    let q = c.args.share in
    let made = c.wrapping_mul-then-share-gt15 in
    let fits : SFits w32 made.result = record { sfits = made.type_inv } in
    let under = le-ltb 50 q c.if-share-gt50.false in
    let over = lt-ltb 15 q c.if-share-gt15.true in
    let product = made.ensures ∙ products (to_z-of_z c.ranges.sad) (to_z_pos w32 {n = q - 15} (omega arith)) in
    let part = (is_mul 9 (quotient fits) tt tt).same ∙ ap (λ (z : ℤ). quot_z z (pos 35) *ℤ pos 9) product in
    simp (under, over) (got w32 c.wrapping_add.type_inv (c.wrapping_add.ensures ∙ sums (to_z-of_z c.ranges.sad) part))
