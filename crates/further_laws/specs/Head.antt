-- The report's first line, put part by part into a line that is lent. Assumes nothing.
use Rattle.std.specs.Prelude.{◌≡◌, List, ◌++◌, ℕ, ℤ}
use Rattle.std.proofs.Common.{sym, subst, append_assoc}
use Rattle.report_text.specs.Text.{codes}
use Rattle.plan_file.specs.declared.Head.{Head}
use Rattle.plan_lines.specs.Report.{field, head_text}
use Rattle.further_laws.specs.Line.{Puts, both_put}

regroup_head : (a b c d e f g h : List ℕ) → a ++ b ++ c ++ d ++ e ++ f ++ g ++ h ≡ a ++ (b ++ c) ++ (d ++ e) ++ (f ++ g) ++ h
regroup_head a b c d e f g h = simp append_assoc

-- of numbers that are the head's
pub head_put : (head : Head) {l₀ l₁ l₂ l₃ l₄ l₅ : List ℕ} {a b c d e : ℕ} {count searched kept width height pel slots : ℤ} →
    Puts l₀ 0 (field "plan blocks=" count) l₁ a →
    Puts l₁ a (field " searched=" searched ++ field " kept=" kept) l₂ b →
    Puts l₂ b (field " size=" width ++ field "x" height) l₃ c →
    Puts l₃ c (field " pel=" pel ++ field " slots=" slots) l₄ d →
    Puts l₄ d (codes "\n") l₅ e →
    count ≡ head.count → searched ≡ head.searched → kept ≡ head.kept → width ≡ head.width → height ≡ head.height → pel ≡ head.pel →
    slots ≡ head.slots → Puts l₀ 0 (head_text head) l₅ e
unfolding head_text
head_put head {l₀} {l₅ = l₅} {e = e} {count} {searched} {kept} {width} {height} {pel} {slots} blocks bad size rest end p₀ p₁ p₂ p₃ p₄ p₅ p₆ =
    let joined = regroup_head (field "plan blocks=" count) (field " searched=" searched) (field " kept=" kept) (field " size=" width) (field "x" height)
    (field " pel=" pel) (field " slots=" slots) (codes "\n") in
    rw (sym p₀, sym p₁, sym p₂, sym p₃, sym p₄, sym p₅, sym p₆)
    (subst (λ (text : List ℕ). Puts l₀ 0 text l₅ e) (sym joined) (both_put (both_put (both_put (both_put blocks bad) size) rest) end))
