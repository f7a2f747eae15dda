-- What is still to be found, behind the bytes passed, is what was to be found at first. Assumes nothing.
use Rattle.std.proofs.Common.{◌≡◌, true, ◌&&◌, List, [], ◌∷◌, ℕ, ◌+◌, ◌<◌, sym, ap, ◌∙◌, add-one, arith, length, drop, get_or, drop-cons, eq-eqb, ne_eqb, Err}
use Rattle.std.proofs.Math.Seq.{drop-length}
use Rattle.whole.specs.Truth.{both_alike}
use Rattle.tile_input.specs.declared.Word.{Word}
use Rattle.tile_input.specs.declared.Word.TheVariants as variant
use Rattle.tile_input.specs.declared.NoNumber.TheVariants.{Missing}
use Rattle.tile_input.specs.Input.{is_blank, number_at}
use Rattle.tile_input.specs.Parts.{is_begun, told, number_from}
use Rattle.tile_input.specs.Scanned.{scanned}
use Rattle.tile_input.proofs.number_at.Goals as goal

-- the byte at i, and what is still to be found behind it
module _ (text : List ℕ) (i : ℕ) (h : i < length text) (left : ℕ) (w : Word) where
  here : number_from left w (drop i text) ≡ number_from left w (get_or text i 0 ∷ drop (i + 1) text)
  here = rw (add-one, drop-cons text i 0)

  found : (is_blank (get_or text i 0) && is_begun w) ≡ true → left ≡ 0 → told w ≡ number_from left w (drop i text)
  found e z = rw (here, e, eq-eqb left 0 z)

-- the end of the text
last : (left : ℕ) (w : Word) → left ≡ 0 → told w ≡ number_from left w []
last left w z = rw (eq-eqb left 0 z)

too_few : (left : ℕ) (w : Word) → (left ≡ 0 → ⊥) → Err Missing ≡ number_from left w []
too_few left w n = rw (ne_eqb left 0 n)

at_end : (text : List ℕ) (place left i : ℕ) (w : Word) → number_from left w (drop i text) ≡ number_from place variant.Unbegun text → i ≡ length text →
    number_from left w [] ≡ number_at text place
at_end text place left i w kept e =
    let none : drop i text ≡ [] = rw e (drop-length text) in
    sym (ap (number_from left w) none) ∙ kept ∙ scanned text place

pub returns-then-left-eq0 : goal.returns-then-left-eq0
returns-then-left-eq0 c =
    let l = c.loop-byte in
    let text = c.args.text.now in
    c.tell.ensures
    ∙ found text l.byte-index (omega arith) l.left l.word (sym (both_alike c.is_blank.ensures c.is_begun.ensures) ∙ c.if-is_blank-is_begun.true) c.if-left-eq0.true
    ∙ l.invariant
    ∙ scanned text c.args.place

pub returns-then-left-gt0 : goal.returns-then-left-gt0
returns-then-left-gt0 c =
    let l = c.loop-byte in
    too_few l.left l.word (omega (arith, c.if-left-gt0.true)) ∙ at_end c.args.text.now c.args.place l.left l.byte-index l.word l.invariant (omega arith)

pub returns : goal.returns
returns c =
    let l = c.loop-byte in
    c.tell-2.ensures ∙ last l.left l.word (omega (arith, c.if-left-gt0.false)) ∙ at_end c.args.text.now c.args.place l.left l.byte-index l.word l.invariant (omega arith)
