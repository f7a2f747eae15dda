-- The block's place, and the vector at its index. Assumes nothing.
use Rattle.std.specs.Prelude.{◌≡◌, List, ℕ, ◌+◌, ◌*◌, ℤ, pos, get_or}
use Rattle.std.proofs.Common.{rules}
use Rattle.block.specs.declared.Block.{Block}
use Rattle.passes.specs.Fold.{index_at, block_at}
use Rattle.passes.proofs.block_at.Goals as goal

made : {X x Y y : ℤ} (vectors : List ℤ) {A B S : ℤ} (index : ℕ) {n : ℕ} → X ≡ x → Y ≡ y →
    A ≡ get_or vectors (3 * n) (pos 0) → B ≡ get_or vectors (3 * n + 1) (pos 0) → S ≡ get_or vectors (3 * n + 2) (pos 0) → n ≡ index →
    ◌≡◌ {A = Block} (record { x = X; y = Y; px = A; py = B; sad = S })
    (record { x = x; y = y; px = get_or vectors (3 * index) (pos 0); py = get_or vectors (3 * index + 1) (pos 0); sad = get_or vectors (3 * index + 2) (pos 0) })
made vectors index p q a b s e = cc

pub returns : goal.returns
unfolding block_at
returns c =
    made c.args.vectors.now (index_at c.args.grid c.args.order.now c.args.i) {n = c.index_at-at.result}
    (search rules) (search rules) (search rules) (search rules) (search rules)
    c.index_at-at.ensures
