-- After one turn more it is the size after one level more, which fits 32 bits. Assumes nothing.
use Rattle.std.proofs.Common.{◌≡◌, refl, sym, ap, subst, ◌∙◌, ℤ, pos, ◌*ℤ◌, FitsSigned, to_z, of_z, to_z-of_z}
use Rattle.std.specs.Int.{w32}
use Rattle.std.specs.Int.Signed.{quot_z}
use Rattle.whole.specs.Interval.{Is, within_32, is_quot}
use Rattle.level_places.specs.Levels.{size_after}
use Rattle.level_places.specs.Sizes.{reduced, part_fits, size_fits, size_more}
use Rattle.level_places.proofs.size_after.Goals as goal

pub loop-init : goal.loop-init
unfolding size_after
loop-init c = refl

pub loop-preserved : goal.loop-preserved
loop-preserved c =
    let f = c.ranges.size in
    let n = c.loop.counter in
    let s = to_z w32 c.loop.s-bits in
    let so_far : s ≡ size_after n (to_z w32 (of_z w32 c.args.size)) = c.loop.invariant in
    let in_32 : FitsSigned w32 s = subst (λ (z : ℤ). FitsSigned w32 z) (sym (so_far ∙ ap (size_after n) (to_z-of_z f))) (size_fits n f) in
    let read : Is w32 2147483648 2147483647 s s = record { same = refl; lies = within_32 in_32 } in
    let part = is_quot 4 read tt tt in
    let twice : FitsSigned w32 (pos 2 *ℤ to_z w32 (of_z w32 (quot_z s (pos 4)))) = rw part.same (part_fits 2 4 tt in_32) in
    to_z-of_z twice ∙ ap (λ (z : ℤ). pos 2 *ℤ z) part.same ∙ ap reduced so_far ∙ sym (size_more n _)
