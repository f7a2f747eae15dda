-- The two lines in parts, and that these are the lines, as they are put: one part behind the other. Assumes nothing.
use Rattle.std.specs.Prelude.{◌≡◌, List, ◌++◌, ℕ, ℤ}
use Rattle.std.proofs.Common.{ap, ◌∙◌, append_assoc}
use Rattle.records.specs.declared.Record.{Record}
use Rattle.report_text.specs.Text.{codes, decimal}
use Rattle.plan_file.specs.declared.Head.{Head}
use Rattle.window.specs.Windows.{bad_flag, half_flag}
use Rattle.plan_lines.specs.Report.{field, pair_text, offset_text, head_text, line_text}

abbrev pub front_text : ℤ → Record → List ℕ
front_text number r =
    decimal number ++ field " bad=" (bad_flag r.flags) ++ (field " half=" (half_flag r.flags) ++ field " lambda=" r.lambda)
    ++ (codes " predictor=" ++ pair_text r.predictor)

abbrev pub windows_text : Record → List ℕ
windows_text r = (codes " window=" ++ pair_text r.window_x) ++ (codes "," ++ pair_text r.window_y) ++ codes "\n"

abbrev pub back_text : Record → List ℕ
back_text r = field " sad=" r.sad ++ (codes " average=" ++ offset_text r.average) ++ windows_text r

regroup_line : (a b c d e f g h i j : List ℕ) → a ++ b ++ c ++ d ++ e ++ f ++ g ++ h ++ i ++ j ≡ a ++ b ++ (c ++ d) ++ e ++ (f ++ g ++ (h ++ i ++ j))
regroup_line a b c d e f g h i j = simp append_assoc

pub line_parts : (number : ℤ) (r : Record) → line_text number r ≡ front_text number r ++ back_text r
unfolding line_text
line_parts number r =
    regroup_line (decimal number) (field " bad=" (bad_flag r.flags)) (field " half=" (half_flag r.flags)) (field " lambda=" r.lambda)
    (codes " predictor=" ++ pair_text r.predictor) (field " sad=" r.sad) (codes " average=" ++ offset_text r.average)
    (codes " window=" ++ pair_text r.window_x) (codes "," ++ pair_text r.window_y) (codes "\n")

-- ---- one part put behind the other
five_put : (a b c d e : List ℕ) {t u v w x : List ℕ} → t ≡ a → u ≡ t ++ b → v ≡ u ++ c → w ≡ v ++ d → x ≡ w ++ e → x ≡ a ++ b ++ c ++ d ++ e
five_put a b c d e p q r s l =
    l ∙ ap (λ (y : List ℕ). y ++ e) (s ∙ ap (λ (y : List ℕ). y ++ d) (r ∙ ap (λ (y : List ℕ). y ++ c) (q ∙ ap (λ (y : List ℕ). y ++ b) p)))

grouped_head : (a b c d e f g h : List ℕ) → a ++ (b ++ c) ++ (d ++ e) ++ (f ++ g) ++ h ≡ a ++ b ++ c ++ d ++ e ++ f ++ g ++ h
grouped_head a b c d e f g h = simp append_assoc

grouped_line : (a b c d e f g h i j : List ℕ) → a ++ b ++ (c ++ d) ++ e ++ f ++ g ++ h ++ i ++ j ≡ a ++ b ++ c ++ d ++ e ++ f ++ g ++ h ++ i ++ j
grouped_line a b c d e f g h i j = simp append_assoc

-- the first line
pub head_put : (head : Head) {t u v w x : List ℕ} →
    t ≡ field "plan blocks=" head.count →
    u ≡ t ++ (field " searched=" head.searched ++ field " kept=" head.kept) →
    v ≡ u ++ (field " size=" head.width ++ field "x" head.height) →
    w ≡ v ++ (field " pel=" head.pel ++ field " slots=" head.slots) →
    x ≡ w ++ codes "\n" → x ≡ head_text head
unfolding head_text
head_put head blocks bad size rest end =
    five_put (field "plan blocks=" head.count) (field " searched=" head.searched ++ field " kept=" head.kept)
    (field " size=" head.width ++ field "x" head.height) (field " pel=" head.pel ++ field " slots=" head.slots) (codes "\n") blocks bad size rest end
    ∙ grouped_head (field "plan blocks=" head.count) (field " searched=" head.searched) (field " kept=" head.kept) (field " size=" head.width)
    (field "x" head.height) (field " pel=" head.pel) (field " slots=" head.slots) (codes "\n")

-- a record's line
pub line_put : (number : ℤ) (r : Record) {t u v w x y z l : List ℕ} →
    t ≡ decimal number ++ field " bad=" (bad_flag r.flags) →
    u ≡ t ++ (field " half=" (half_flag r.flags) ++ field " lambda=" r.lambda) →
    v ≡ u ++ (codes " predictor=" ++ pair_text r.predictor) →
    w ≡ v ++ field " sad=" r.sad →
    x ≡ w ++ (codes " average=" ++ offset_text r.average) →
    y ≡ x ++ (codes " window=" ++ pair_text r.window_x) →
    z ≡ y ++ (codes "," ++ pair_text r.window_y) →
    l ≡ z ++ codes "\n" → l ≡ line_text number r
unfolding line_text
line_put number r bad strength predictor sad mean wide high end =
    let front = five_put (decimal number ++ field " bad=" (bad_flag r.flags)) (field " half=" (half_flag r.flags) ++ field " lambda=" r.lambda)
    (codes " predictor=" ++ pair_text r.predictor) (field " sad=" r.sad) (codes " average=" ++ offset_text r.average) bad strength predictor sad mean in
    end ∙ ap (λ (k : List ℕ). k ++ codes "\n") (high ∙ ap (λ (k : List ℕ). k ++ (codes "," ++ pair_text r.window_y))
    (wide ∙ ap (λ (k : List ℕ). k ++ (codes " window=" ++ pair_text r.window_x)) front))
    ∙ grouped_line (decimal number) (field " bad=" (bad_flag r.flags)) (field " half=" (half_flag r.flags)) (field " lambda=" r.lambda)
    (codes " predictor=" ++ pair_text r.predictor) (field " sad=" r.sad) (codes " average=" ++ offset_text r.average)
    (codes " window=" ++ pair_text r.window_x) (codes "," ++ pair_text r.window_y) (codes "\n")
