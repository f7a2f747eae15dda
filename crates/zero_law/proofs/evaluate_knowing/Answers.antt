-- The laws of the definition, at the bytes that were lent. Assumes nothing.
use Rattle.std.specs.Prelude.{◌≡◌, refl, List, ℕ, zero, suc, ℤ, IsOk}
use Rattle.std.proofs.Common.{sym, subst, arith}
use Rattle.refusals.specs.Numbers.{outcome}
use Rattle.evaluation.specs.Evaluated.{evaluate_bests}
use Rattle.evaluation.specs.Zero.{zero_law}
use Rattle.zero_law.specs.Counted.{count_law}
use Rattle.zero_law.specs.RealMatch.{real_law}
use Rattle.zero_law.specs.Kept.{kept_law}
use Rattle.zero_law.specs.Knowing.{Known}
use Rattle.zero_law.proofs.evaluate_knowing.Goals as goal

done_on : (n : ℕ) → IsOk (outcome n) → n ≡ 0
done_on zero ok = refl
done_on (suc n) ok = cc

pub returns : goal.returns
returns c =
    let s = c.args in
    let answer = c.evaluate.ensures.value in
    let left = c.evaluate.ensures.bests_after in
    let q = s.request in
    let Law : List ℤ → Type 0 = Known q s.records.now s.luma.now s.u.now s.v.now s.reference_luma.now s.reference_u.now s.reference_v.now in
    let made = evaluate_bests q s.records.now s.luma.now s.u.now s.v.now s.reference_luma.now s.reference_u.now s.reference_v.now s.bests.now in
    let law : IsOk c.evaluate.result → Law made = λ ok.
    let done = done_on _ (rw answer at ok) in
    let zero = zero_law q s.records.now s.luma.now s.u.now s.v.now s.reference_luma.now s.reference_u.now s.reference_v.now s.bests.now done
    (λ n. omega (arith, c.type_inv.luma n)) (λ n. omega (arith, c.type_inv.reference_luma n)) in
    let counts = count_law q s.records.now s.luma.now s.u.now s.v.now s.reference_luma.now s.reference_u.now s.reference_v.now s.bests.now done in
    record {
      zero = zero;
      counts = counts;
      real = real_law q s.records.now s.luma.now s.u.now s.v.now s.reference_luma.now s.reference_u.now s.reference_v.now made zero counts;
      kept = kept_law q s.records.now s.luma.now s.u.now s.v.now s.reference_luma.now s.reference_u.now s.reference_v.now s.bests.now done;
    } in
    record { value = answer; bests_after = left; known = λ ok. subst Law (sym left) (law ok) }
