-- What the report's definitions say at each point of the table. Assumes nothing.
use Rattle.std.specs.Prelude.{◌≡◌, refl, Bool, true, false, ◌&&◌, not, cond, List, ◌++◌, ℕ, ◌≤◌, ◌<◌, leb, ltb, nat_abs, length, drop, Result, Err}
use Rattle.std.proofs.Common.{sym, ap, ◌∙◌, ⊎_elim}
use borrow.Author.Tests.{lt-ltb, le-ltb, lt-leb, le-leb}
use Rattle.whole.specs.Signed.{holds, lt_or_ge}
use Rattle.refusals.specs.declared.Refusal.{Refusal}
use Rattle.refusals.specs.declared.Refusal.TheVariants.{OutsideGrid, Window, NoPlanFile}
use Rattle.refusals.specs.Numbers.{answered}
use Rattle.limits.specs.Refusals.{first}
use Rattle.report_text.specs.Putting.{lent_answer, lent_line}
use Rattle.plan_file.specs.PlanFile.{is_plan_file, trailer_of, wide_file, head_of}
use Rattle.plan_lines.specs.Report.{head_text, text_number, line_after, head_answer, head_line, line_of, line_answer, line_line}

-- an answer with what it leaves of the line
pub record Gives (answer : Result ℕ Refusal) (after : List ℕ) (answer' : Result ℕ Refusal) (after' : List ℕ) : Type 0 where
  pub answer_is : answer ≡ answer'
  pub line_is : after ≡ after'

-- ---- a text: 7 where the line has room and the file is too wide, else what laying it gives
at_most : (a b : ℕ) → leb a b ≡ not (ltb b a)
at_most a b = ⊎_elim (λ l. lt-leb a b l ∙ ap not (sym (lt-ltb b a l))) (λ l. le-leb a b l ∙ ap not (sym (le-ltb b a l))) (lt_or_ge b a)

both_hold : (w s : Bool) → (w && not s) ≡ true → first s 5 (first w 7 0) ≡ 7
both_hold true true e = absurd (holds e)
both_hold true false e = refl
both_hold false s e = absurd (holds e)

module _ (text line : List ℕ) where
  answers_else : (w s : Bool) → (w && not s) ≡ false → answered (first s 5 (first w 7 0)) (length text) ≡ answered (cond s 5 0) (length text)
  answers_else w true e = refl
  answers_else true false e = absurd (holds (sym e))
  answers_else false false e = refl

  leaves_else : (w s : Bool) → (w && not s) ≡ false → line_after (first s 5 (first w 7 0)) text line ≡ cond s line (text ++ drop (length text) line)
  leaves_else w true e = refl
  leaves_else true false e = absurd (holds (sym e))
  leaves_else false false e = refl

  module _ (wide : Bool) where
    abbrev Number : ℕ
    Number = text_number wide text (length line)

    abbrev Gives-text : Result ℕ Refusal → List ℕ → Type 0
    Gives-text = Gives (answered Number (length text)) (line_after Number text line)

    pub text_refused : (wide && leb (length text) (length line)) ≡ true → Gives-text (Err Window) line
    text_refused e =
        let seven : Number ≡ 7 = both_hold wide (ltb (length line) (length text)) (rw (at_most (length text) (length line)) at e) in
        record { answer_is = rw seven; line_is = rw seven }

    pub text_laid : (wide && leb (length text) (length line)) ≡ false → Gives-text (lent_answer text (length line)) (lent_line text line)
    text_laid e =
        let other = rw (at_most (length text) (length line)) at e in
        record { answer_is = answers_else wide (ltb (length line) (length text)) other; line_is = leaves_else wide (ltb (length line) (length text)) other }

-- ---- what is laid of equal texts is equal
pub texts_alike : {w W : Bool} {t T : List ℕ} (line : List ℕ) → w ≡ W → t ≡ T →
    let n = text_number w t (length line) in
    let N = text_number W T (length line) in
    Gives (answered n (length t)) (line_after n t line) (answered N (length T)) (line_after N T line)
texts_alike line p q = record { answer_is = rw (p, q); line_is = rw (p, q) }

-- ---- a file
module _ (file line : List ℕ) where
  pub head_8 : is_plan_file file ≡ false → Gives (head_answer file (length line)) (head_line file line) (Err NoPlanFile) line
  unfolding head_answer head_line
  head_8 e = record { answer_is = rw e; line_is = rw e }

  pub head_given : is_plan_file file ≡ true →
      let number = text_number (wide_file file) (head_text (head_of file)) (length line) in
      Gives (head_answer file (length line)) (head_line file line) (answered number (length (head_text (head_of file))))
      (line_after number (head_text (head_of file)) line)
  unfolding head_answer head_line
  head_given e = record { answer_is = rw e; line_is = rw e }

  module _ (number : ℕ) where
    abbrev Gives-line : Result ℕ Refusal → List ℕ → Type 0
    Gives-line = Gives (line_answer file number (length line)) (line_line file number line)

    pub line_8 : is_plan_file file ≡ false → Gives-line (Err NoPlanFile) line
    unfolding line_answer line_line
    line_8 e = record { answer_is = rw e; line_is = rw e }

    pub line_4 : is_plan_file file ≡ true → nat_abs (trailer_of file).count ≤ number → Gives-line (Err OutsideGrid) line
    unfolding line_answer line_line
    line_4 e out = let t = le-ltb number (nat_abs (trailer_of file).count) out in record { answer_is = rw (e, t); line_is = rw (e, t) }

    pub line_given : is_plan_file file ≡ true → number < nat_abs (trailer_of file).count →
        let answer = text_number (wide_file file) (line_of file number) (length line) in
        Gives-line (answered answer (length (line_of file number))) (line_after answer (line_of file number) line)
    unfolding line_answer line_line
    line_given e at = let t = lt-ltb number (nat_abs (trailer_of file).count) at in record { answer_is = rw (e, t); line_is = rw (e, t) }
