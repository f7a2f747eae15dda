-- 01, "How much each contract says": "for every input, refused ones too, it names the answer and the final content of each lent buffer, and a short proof shows
-- equality of any two outcomes it admits." Here are the proofs: one for each public entry, and one for each other public function of a library that writes
-- lent memory. Each speaks of the contract as the prover has it from the code's own `ensures`, not of a copy.
-- An outcome is an answer with the parameters as they are at exit; what is shown of it is the answer and what each lent buffer holds. What a contract says of
-- two outcomes of one input, together, gives that the same is shown of both. Assumes nothing.
use Rattle.std.specs.Prelude.{◌≡◌}
use Rattle.std.proofs.Common.{sym, ◌∙◌}
use seplogic.Ra.Ura.{Ura}
use base.Logic.{SProp, ent, sep, via, fst∗, snd∗, id⊢}
use prog.Memory.{Memory}
use prog.Routine.{Routine}
use types.Logic.{Logic}
use contract.Monad.{Fun, fact, fact_i, fact_use}
use contract.Lifetimes.{Lfts}
use denote.Triple.Entry.{Args, Res}
use denote.RattleType.{RattleType}
use denote.Triple.Clauses.{Clauses, Ended, AtExit}
use Rattle.whole.specs.contracts.root as root
use Rattle.records.specs.contracts.pack_pair as pack_pair
use Rattle.records.specs.contracts.unpack_pair as unpack_pair
use Rattle.records.specs.contracts.pack_record as pack_record
use Rattle.records.specs.contracts.unpack_record as unpack_record
use Rattle.serpentine.specs.contracts.serpentine_position as serpentine_position
use Rattle.serpentine.specs.contracts.serpentine_block as serpentine_block
use Rattle.serpentine.specs.contracts.serpentine_order as serpentine_order
use Rattle.score.specs.contracts.diagonal as diagonal
use Rattle.score.specs.contracts.output_word as output_word
use Rattle.score.specs.contracts.packed_score as packed_score
use Rattle.levels.specs.contracts.level as level
use Rattle.levels.specs.contracts.level_numbers as level_numbers
use Rattle.planning.specs.contracts.plan as plan
use Rattle.evaluation.specs.contracts.evaluate as evaluate
use Rattle.zero_law.specs.contracts.evaluate_knowing as evaluate_knowing
use Rattle.little_endian.specs.contracts.words_into as words_into
use Rattle.little_endian.specs.contracts.put_word as put_word
use Rattle.put_numbers.specs.contracts.put as put_numbers
use Rattle.passes.specs.contracts.write_all as write_all
use Rattle.finishing.specs.contracts.finish as finish
use Rattle.report_text.specs.contracts.lay as lay
use Rattle.report_text.specs.contracts.Text.put as put
use Rattle.report_text.specs.contracts.Text.put_field as put_field
use Rattle.report_text.specs.contracts.Text.put_two as put_two
use Rattle.tile_lines.specs.contracts.steps_text as steps_text
use Rattle.plan_file.specs.contracts.check_plan_file as check_plan_file
use Rattle.plan_lines.specs.contracts.report_head as report_head
use Rattle.plan_lines.specs.contracts.report_line as report_line
use Rattle.answer_bytes.specs.contracts.give as give
use Rattle.answer_bytes.specs.contracts.block_cost as block_cost
use Rattle.hirupango.specs.contracts.hirupango_block_cost as hirupango_block_cost
use Rattle.hirupango.specs.contracts.hirupango_packed_score as hirupango_packed_score
use Rattle.hirupango.specs.contracts.hirupango_diagonal as hirupango_diagonal
use Rattle.hirupango.specs.contracts.hirupango_slots as hirupango_slots
use Rattle.hirupango.specs.contracts.hirupango_serpentine_order as hirupango_serpentine_order
use Rattle.hirupango.specs.contracts.hirupango_level as hirupango_level
use Rattle.hirupango.specs.contracts.hirupango_plan as hirupango_plan
use Rattle.hirupango.specs.contracts.hirupango_evaluate as hirupango_evaluate
use Rattle.hirupango.specs.contracts.hirupango_finish as hirupango_finish

module _ {M : Type 1} (𝓤 : Ura M) where
  -- ---- what assertions say. A contract's `ensures` is an assertion: equations, each of them a fact
  -- P says φ
  abbrev Says : SProp 𝓤 → Type 0 → Type 1
  Says P φ = ent 𝓤 P (fact 𝓤 φ)

  abbrev Eq : {X : Type 0} → X → X → SProp 𝓤
  Eq a b = fact 𝓤 (a ≡ b)

  both_say : {P Q : SProp 𝓤} {φ ψ : Type 0} → Says P φ → Says Q ψ → Says (sep 𝓤 P Q) (φ × ψ)
  both_say {P} {Q} {φ} {ψ} p q =
      fact_use 𝓤 φ (via 𝓤 P (fst∗ 𝓤 P Q) p) (λ x. fact_use 𝓤 ψ (via 𝓤 Q (snd∗ 𝓤 P Q) q) (λ y. fact_i 𝓤 (φ × ψ) (sep 𝓤 P Q) (x, y)))

  thus : {P : SProp 𝓤} {φ ψ : Type 0} → (φ → ψ) → Says P φ → Says P ψ
  thus {P} {φ} {ψ} f p = fact_use 𝓤 φ p (λ x. fact_i 𝓤 ψ P (f x))

  -- ---- contracts of one equation, of two, of three; and of one or two with a fact φ beside them
  says_1 : {X : Type 0} (r x : X) → Says (Eq r x) (r ≡ x)
  says_1 r x = id⊢ 𝓤 (Eq r x)

  -- what is shown of an outcome: one thing and another
  infixr 20 ◌&◌
  abbrev ◌&◌ : {X Y : Type 0} → X → Y → X × Y
  x & y = (x, y)

  pair : {X Y : Type 0} {r s x : X} {u v y : Y} → r ≡ x → u ≡ y → s ≡ x → v ≡ y → (r & u) ≡ (s & v)
  pair p q a b = cc

  triple : {X Y Z : Type 0} {r s x : X} {u v y : Y} {i j z : Z} →
      r ≡ x → u ≡ y → i ≡ z → s ≡ x → v ≡ y → j ≡ z → (r & (u & i)) ≡ (s & (v & j))
  triple p q a b c d = cc

  one : {X : Type 0} {r s x : X} → Says (sep 𝓤 (Eq r x) (Eq s x)) (r ≡ s)
  one {r = r} {s = s} {x = x} = thus (λ t. t.0 ∙ sym t.1) (both_say (says_1 r x) (says_1 s x))

  two : {X Y : Type 0} {r s x : X} {u v y : Y} →
      Says (sep 𝓤 (sep 𝓤 (Eq r x) (Eq u y)) (sep 𝓤 (Eq s x) (Eq v y))) ((r & u) ≡ (s & v))
  two {r = r} {s = s} {x = x} {u = u} {v = v} {y = y} =
      thus (λ t. pair t.0.0 t.0.1 t.1.0 t.1.1) (both_say (both_say (says_1 r x) (says_1 u y)) (both_say (says_1 s x) (says_1 v y)))

  three : {X Y Z : Type 0} {r s x : X} {u v y : Y} {i j z : Z} →
      Says (sep 𝓤 (sep 𝓤 (Eq r x) (sep 𝓤 (Eq u y) (Eq i z))) (sep 𝓤 (Eq s x) (sep 𝓤 (Eq v y) (Eq j z)))) ((r & (u & i)) ≡ (s & (v & j)))
  three {r = r} {s = s} {x = x} {u = u} {v = v} {y = y} {i = i} {j = j} {z = z} =
      thus (λ t. triple t.0.0 t.0.1.0 t.0.1.1 t.1.0 t.1.1.0 t.1.1.1)
      (both_say (both_say (says_1 r x) (both_say (says_1 u y) (says_1 i z))) (both_say (says_1 s x) (both_say (says_1 v y) (says_1 j z))))

  two_beside : {X Y : Type 0} {r s x : X} {u v y : Y} {φ ψ : Type 0} →
      Says (sep 𝓤 (sep 𝓤 (Eq r x) (sep 𝓤 (Eq u y) (fact 𝓤 φ))) (sep 𝓤 (Eq s x) (sep 𝓤 (Eq v y) (fact 𝓤 ψ)))) ((r & u) ≡ (s & v))
  two_beside {r = r} {s = s} {x = x} {u = u} {v = v} {y = y} {φ = φ} {ψ = ψ} =
      thus (λ t. pair t.0.0 t.0.1.0 t.1.0 t.1.1.0)
      (both_say (both_say (says_1 r x) (both_say (says_1 u y) (id⊢ 𝓤 (fact 𝓤 φ)))) (both_say (says_1 s x) (both_say (says_1 v y) (id⊢ 𝓤 (fact 𝓤 ψ)))))

  one_beside : {X : Type 0} {r s x : X} {φ ψ : Type 0} →
      Says (sep 𝓤 (sep 𝓤 (Eq r x) (fact 𝓤 φ)) (sep 𝓤 (Eq s x) (fact 𝓤 ψ))) (r ≡ s)
  one_beside {r = r} {s = s} {x = x} {φ = φ} {ψ = ψ} =
      thus (λ t. t.0.0 ∙ sym t.1.0) (both_say (both_say (says_1 r x) (id⊢ 𝓤 (fact 𝓤 φ))) (both_say (says_1 s x) (id⊢ 𝓤 (fact 𝓤 ψ))))

  module _ (𝓛 : Logic 𝓤) (mem : Memory → SProp 𝓤) (run : Routine → Fun 𝓤) where
    -- of every input and every two outcomes of it, r with e and s with f, the contract c gives that the same is shown
    abbrev Same : (T : Ended) (c : Clauses 𝓤 T) {X : Type 0} → ((κs : Lfts T.signature.lifetimes) → Res T.signature κs → AtExit T κs → X) → Type 1
    Same T c shown =
        (κs : Lfts T.signature.lifetimes) (a : Args T.signature κs) (g : (c κs a).ghost) (r s : Res T.signature κs) (e f : AtExit T κs) →
        Says (sep 𝓤 ((c κs a).ensures g r e) ((c κs a).ensures g s f)) (shown κs r e ≡ shown κs s f)

    -- ---- whole
    pub root_same : Same root.ended (root.clauses 𝓛 mem run) (λ κs r e. r)
    root_same κs a g r s e f = one

    -- ---- records
    pub pack_pair_same : Same pack_pair.ended (pack_pair.clauses 𝓛 mem run) (λ κs r e. r)
    pack_pair_same κs a g r s e f = one

    pub unpack_pair_same : Same unpack_pair.ended (unpack_pair.clauses 𝓛 mem run) (λ κs r e. r)
    unpack_pair_same κs a g r s e f = one

    pub pack_record_same : Same pack_record.ended (pack_record.clauses 𝓛 mem run) (λ κs r e. r)
    pack_record_same κs a g r s e f = one

    pub unpack_record_same : Same unpack_record.ended (unpack_record.clauses 𝓛 mem run) (λ κs r e. r)
    unpack_record_same κs a g r s e f = one

    -- ---- serpentine
    pub serpentine_position_same : Same serpentine_position.ended (serpentine_position.clauses 𝓛 mem run) (λ κs r e. r)
    serpentine_position_same κs a g r s e f = one

    pub serpentine_block_same : Same serpentine_block.ended (serpentine_block.clauses 𝓛 mem run) (λ κs r e. r)
    serpentine_block_same κs a g r s e f = one

    pub serpentine_order_same : Same serpentine_order.ended (serpentine_order.clauses 𝓛 mem run) (λ κs r e. r & e.1.1.0.now)
    serpentine_order_same κs a g r s e f = two

    -- ---- score
    pub diagonal_same : Same diagonal.ended (diagonal.clauses 𝓛 mem run) (λ κs r e. r)
    diagonal_same κs a g r s e f = one

    pub output_word_same : Same output_word.ended (output_word.clauses 𝓛 mem run) (λ κs r e. r)
    output_word_same κs a g r s e f = one

    pub packed_score_same : Same packed_score.ended (packed_score.clauses 𝓛 mem run) (λ κs r e. r)
    packed_score_same κs a g r s e f = one

    -- ---- levels
    pub level_same : Same level.ended (level.clauses 𝓛 mem run) (λ κs r e. r)
    level_same κs a g r s e f = one

    pub level_numbers_same : Same level_numbers.ended (level_numbers.clauses 𝓛 mem run) (λ κs r e. r & e.1.1.1.0.now)
    level_numbers_same κs a g r s e f = two

    -- ---- planning
    pub plan_same : Same plan.ended (plan.clauses 𝓛 mem run) (λ κs r e. r & (e.1.1.1.1.0.now & e.1.1.1.1.1.0.now))
    plan_same κs a g r s e f = three

    -- ---- evaluation
    pub evaluate_same : Same evaluate.ended (evaluate.clauses 𝓛 mem run) (λ κs r e. r & e.1.1.1.1.0.now)
    evaluate_same κs a g r s e f = two

    -- ---- finishing
    pub finish_same : Same finish.ended (finish.clauses 𝓛 mem run) (λ κs r e. r & (e.1.1.1.1.1.1.0.now & e.1.1.1.1.1.1.1.0.now))
    finish_same κs a g r s e f = three

    -- ---- report_text
    pub lay_same : Same lay.ended (lay.clauses 𝓛 mem run) (λ κs r e. r & e.0.now)
    lay_same κs a g r s e f = two

    -- ---- plan_file and plan_lines
    pub check_plan_file_same : Same check_plan_file.ended (check_plan_file.clauses 𝓛 mem run) (λ κs r e. r)
    check_plan_file_same κs a g r s e f = one

    pub report_head_same : Same report_head.ended (report_head.clauses 𝓛 mem run) (λ κs r e. r & e.1.0.now)
    report_head_same κs a g r s e f = two

    pub report_line_same : Same report_line.ended (report_line.clauses 𝓛 mem run) (λ κs r e. r & e.1.1.0.now)
    report_line_same κs a g r s e f = two

    -- ---- answer_bytes
    pub give_same : Same give.ended (give.clauses 𝓛 mem run) (λ κs r e. r & e.1.1.0.now)
    give_same κs a g r s e f = two

    pub block_cost_same : Same block_cost.ended (block_cost.clauses 𝓛 mem run) (λ κs r e. r & e.1.1.1.1.1.1.1.0.now)
    block_cost_same κs a g r s e f = two

    -- ---- hirupango
    pub hirupango_block_cost_same : Same hirupango_block_cost.ended (hirupango_block_cost.clauses 𝓛 mem run) (λ κs r e. r & e.1.1.1.1.1.1.1.0.now)
    hirupango_block_cost_same κs a g r s e f = two

    pub hirupango_packed_score_same : Same hirupango_packed_score.ended (hirupango_packed_score.clauses 𝓛 mem run) (λ κs r e. r & e.1.1.1.1.1.0.now)
    hirupango_packed_score_same κs a g r s e f = two

    pub hirupango_diagonal_same : Same hirupango_diagonal.ended (hirupango_diagonal.clauses 𝓛 mem run) (λ κs r e. r & e.1.1.1.0.now)
    hirupango_diagonal_same κs a g r s e f = two

    pub hirupango_slots_same : Same hirupango_slots.ended (hirupango_slots.clauses 𝓛 mem run) (λ κs r e. r & e.1.0.now)
    hirupango_slots_same κs a g r s e f = two

    pub hirupango_serpentine_order_same : Same hirupango_serpentine_order.ended (hirupango_serpentine_order.clauses 𝓛 mem run)
        (λ κs r e. r & e.1.1.0.now)
    hirupango_serpentine_order_same κs a g r s e f = two

    pub hirupango_level_same : Same hirupango_level.ended (hirupango_level.clauses 𝓛 mem run) (λ κs r e. r & e.1.1.1.1.1.1.1.0.now)
    hirupango_level_same κs a g r s e f = two

    pub hirupango_plan_same : Same hirupango_plan.ended (hirupango_plan.clauses 𝓛 mem run)
        (λ κs r e. r & (e.1.1.1.1.1.1.0.now & e.1.1.1.1.1.1.1.0.now))
    hirupango_plan_same κs a g r s e f = three

    pub hirupango_evaluate_same : Same hirupango_evaluate.ended (hirupango_evaluate.clauses 𝓛 mem run) (λ κs r e. r & e.1.1.1.1.1.1.1.1.0.now)
    hirupango_evaluate_same κs a g r s e f = two

    pub hirupango_finish_same : Same hirupango_finish.ended (hirupango_finish.clauses 𝓛 mem run)
        (λ κs r e. r & (e.1.1.1.1.1.1.0.now & e.1.1.1.1.1.1.1.0.now))
    hirupango_finish_same κs a g r s e f = three

    -- ---- zero_law: the equations of evaluating, with the laws beside them
    pub evaluate_knowing_same : Same evaluate_knowing.ended (evaluate_knowing.clauses 𝓛 mem run) (λ κs r e. r & e.1.1.1.1.1.1.1.1.0.now)
    evaluate_knowing_same κs a g r s e f = two_beside

    -- ---- functions that are no entries and write lent memory
    pub words_into_same : Same words_into.ended (words_into.clauses 𝓛 mem run) (λ κs r e. e.1.0.now)
    words_into_same κs a g r s e f = one

    pub put_word_same : Same put_word.ended (put_word.clauses 𝓛 mem run) (λ κs r e. e.0.now)
    put_word_same κs a g r s e f = one

    -- however many numbers are put
    pub put_numbers_same : (N : RattleType) → Same (put_numbers.ended N) (put_numbers.clauses N 𝓛 mem run) (λ κs r e. e.0.now)
    put_numbers_same N κs a g r s e f = one

    pub write_all_same : Same write_all.ended (write_all.clauses 𝓛 mem run) (λ κs r e. e.1.1.1.1.1.0.now & e.1.1.1.1.1.1.0.now)
    write_all_same κs a g r s e f = two

    -- a text, however long it may become, and with it what it holds
    pub put_same : (N : RattleType) → Same (put.ended N) (put.clauses N 𝓛 mem run) (λ κs r e. e.0.now)
    put_same N κs a g r s e f = one

    pub put_field_same : (N : RattleType) → Same (put_field.ended N) (put_field.clauses N 𝓛 mem run) (λ κs r e. e.0.now)
    put_field_same N κs a g r s e f = one_beside

    pub put_two_same : (N : RattleType) → Same (put_two.ended N) (put_two.clauses N 𝓛 mem run) (λ κs r e. e.0.now)
    put_two_same N κs a g r s e f = one_beside

    pub steps_text_same : Same steps_text.ended (steps_text.clauses 𝓛 mem run) (λ κs r e. r)
    steps_text_same κs a g r s e f = one
