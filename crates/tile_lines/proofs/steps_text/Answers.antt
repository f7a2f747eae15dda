-- Each part behind the one before it, and what is shown are the tile's steps. Assumes nothing.
use Rattle.std.proofs.Common.{◌≡◌, ◌∙◌, List, ◌++◌, ℕ, ap, subst, arith, pos, w32, to_z}
use Rattle.std.proofs.Math.Facts.{to_z_pos}
use Rattle.distance.specs.declared.Steps.{Steps}
use Rattle.report_text.specs.Text.{codes, decimal}
use Rattle.tile_lines.specs.Lines.{tile_text, shown}
use Rattle.tile_lines.proofs.steps_text.Goals as goal

five : (a b c d e : List ℕ) {t u v w x : List ℕ} → t ≡ a → u ≡ t ++ b → v ≡ u ++ c → w ≡ v ++ d → x ≡ w ++ e → x ≡ a ++ b ++ c ++ d ++ e
five a b c d e p q r s l =
    l ∙ ap (λ (y : List ℕ). y ++ e) (s ∙ ap (λ (y : List ℕ). y ++ d) (r ∙ ap (λ (y : List ℕ). y ++ c) (q ∙ ap (λ (y : List ℕ). y ++ b) p)))

pub returns : goal.returns
returns c =
    let steps = c.steps-steps in
    let below = steps.type_inv in
    let k = steps.result in
    let is : to_z w32 k.total ≡ pos k.total = to_z_pos w32 (omega arith) in
    let sum = rw is at c.put_field.ensures.puts in
    let first = rw c.new-text.ensures at c.put_tile.ensures.puts in
    let puts = five (tile_text (codes "differences\n") c.args.tile) (tile_text (codes "after the column step\n") k.columns)
    (tile_text (codes "after the row step\n") k.values) (codes "sum " ++ decimal (pos k.total)) (codes "\n")
    first c.put_tile-2.ensures.puts c.put_tile-3.ensures.puts sum c.put.ensures in
    subst (λ (k : Steps). c.put.new.self ≡ shown c.args.tile k) steps.ensures puts
