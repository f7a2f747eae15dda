-- Tests joined by `&&` and `||`, and ranges: what one that holds says of its parts. Assumes nothing.
use Rattle.std.specs.Prelude.{◌≡◌, refl, Bool, true, false, ◌&&◌, ◌||◌, ◌⊎◌, ℤ}
use Rattle.std.proofs.Common.{inl, inr}
use Rattle.std.specs.Int.Signed.{le_z}
use Rattle.whole.specs.Numbers.{lies_in}
use Rattle.whole.specs.Signed.{holds}

pub left_of : (a b : Bool) → (a && b) ≡ true → a ≡ true
left_of true b e = refl
left_of false b e = e

pub right_of : (a b : Bool) → (a && b) ≡ true → b ≡ true
right_of true b e = e
right_of false b e = absurd (holds e)

pub either_of : (a b : Bool) → (a || b) ≡ true → (a ≡ true) ⊎ (b ≡ true)
either_of true b e = inl refl
either_of false b e = inr e

-- joined tests are alike where their parts are
pub both_alike : {a b A B : Bool} → a ≡ A → b ≡ B → (a && b) ≡ (A && B)
both_alike p q = cc

pub either_alike : {a b A B : Bool} → a ≡ A → b ≡ B → (a || b) ≡ (A || B)
either_alike p q = cc

pub three_alike : {a b c A B C : Bool} → a ≡ A → b ≡ B → c ≡ C → (a && b && c) ≡ (A && B && C)
three_alike p q r = cc

pub four_alike : {a b c d A B C D : Bool} → a ≡ A → b ≡ B → c ≡ C → d ≡ D → (a && b && c && d) ≡ (A && B && C && D)
four_alike p q r s = cc

pub five_alike : {a b c d e A B C D E : Bool} → a ≡ A → b ≡ B → c ≡ C → d ≡ D → e ≡ E → (a && b && c && d && e) ≡ (A && B && C && D && E)
five_alike p q r s t = cc

pub six_alike : {a b c d e f A B C D E F : Bool} → a ≡ A → b ≡ B → c ≡ C → d ≡ D → e ≡ E → f ≡ F →
    (a && b && c && d && e && f) ≡ (A && B && C && D && E && F)
six_alike p q r s t u = cc

-- a test that holds, or doesn't, behind another
pub and_true : (t : Bool) → (t && true) ≡ t
and_true true = refl
and_true false = refl

pub and_false : (t : Bool) → (t && false) ≡ false
and_false true = refl
and_false false = refl

pub both_of : {a b : Bool} → a ≡ true → b ≡ true → (a && b) ≡ true
both_of p q = cc

-- the same of a range, as `omega signed` reads it
module _ (least greatest z : ℤ) where
  pub lies_low : lies_in least greatest z ≡ true → le_z least z ≡ true
  lies_low e = left_of (le_z least z) (le_z z greatest) e

  pub lies_high : lies_in least greatest z ≡ true → le_z z greatest ≡ true
  lies_high e = right_of (le_z least z) (le_z z greatest) e

-- what longer chains say of their parts
pub three_of : (a b c : Bool) → (a && b && c) ≡ true → (a ≡ true) × (b ≡ true) × (c ≡ true)
three_of a b c e = let f = left_of (a && b) c e in (left_of a b f, right_of a b f, right_of (a && b) c e)

pub four_of : (a b c d : Bool) → (a && b && c && d) ≡ true → (a ≡ true) × (b ≡ true) × (c ≡ true) × (d ≡ true)
four_of a b c d e = let f = three_of a b c (left_of (a && b && c) d e) in (f.0, f.1, f.2, right_of (a && b && c) d e)

pub five_of : (a b c d f : Bool) → (a && b && c && d && f) ≡ true → (a ≡ true) × (b ≡ true) × (c ≡ true) × (d ≡ true) × (f ≡ true)
five_of a b c d f e = let g = four_of a b c d (left_of (a && b && c && d) f e) in (g.0, g.1, g.2, g.3, right_of (a && b && c && d) f e)

pub six_of : (a b c d f g : Bool) → (a && b && c && d && f && g) ≡ true → (a ≡ true) × (b ≡ true) × (c ≡ true) × (d ≡ true) × (f ≡ true) × (g ≡ true)
six_of a b c d f g e = let h = five_of a b c d f (left_of (a && b && c && d && f) g e) in (h.0, h.1, h.2, h.3, h.4, right_of (a && b && c && d && f) g e)
