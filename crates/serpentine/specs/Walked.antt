-- What holds of the walk on every grid whose sides are at least 2: it gives each block of the grid exactly once and nothing else, position and block undo each
-- other, and both are those of recalc.rs's rule. That it is nx x ny places long is `walk_length`, in Standing. Assumes nothing.
use Rattle.std.specs.Prelude.{◌≡◌, ℕ, ◌*◌, ◌≤◌, ◌<◌, length, get_or}
use Rattle.std.proofs.Math.Path.{sym, ap, subst}
use Rattle.std.proofs.Common.{◌∙◌, arith}
use Rattle.serpentine.specs.declared.Place.{Place}
use Rattle.serpentine.specs.Walk.{at, walk, block_at, position_at}
use Rattle.serpentine.specs.Pieces.{before_first, times_given, given_once}
use Rattle.serpentine.specs.Rule.{rule_position, rule_block}
use Rattle.serpentine.specs.Standing.{Stands, walk_length, walk_has, stands_below, stands_inside, some_block, some_index, rule_position_lem, rule_block_lem}

module _ (nx ny : ℕ) (W : 2 ≤ nx) (H : 2 ≤ ny) where
  -- the walk has a block at one index alone
  alone : (p q : ℕ) (b d : Place) → Stands nx ny p b → q < length (walk nx ny) → get_or (walk nx ny) q d ≡ b → q ≡ p
  alone p q b d s h e =
      let other = some_block nx ny W H q (omega (arith, walk_length nx ny W H)) in
      let alike : other.0 ≡ b = sym (walk_has nx ny W H q other.0 d other.1) ∙ e in
      sym (rule_position_lem nx ny W H q other.0 other.1) ∙ ap (rule_position nx ny) alike ∙ rule_position_lem nx ny W H p b s

  inside_walk : (p : ℕ) (b : Place) → Stands nx ny p b → p < length (walk nx ny)
  inside_walk p b s = omega (arith, walk_length nx ny W H, stands_below nx ny W H p b s)

  stands_block : (p : ℕ) (b : Place) → Stands nx ny p b → block_at nx ny p ≡ b
  unfolding block_at
  stands_block p b s = walk_has nx ny W H p b (at 0 0) s

  stands_position : (p : ℕ) (b : Place) → Stands nx ny p b → position_at nx ny b ≡ p
  unfolding position_at
  stands_position p b s =
      before_first b (walk nx ny) p (at 0 0) (inside_walk p b s) (walk_has nx ny W H p b (at 0 0) s)
      (λ q l e. let z = alone p q b (at 0 0) s (omega (arith, inside_walk p b s)) e in omega arith)

  -- ---- at each position
  module _ (p : ℕ) (h : p < nx * ny) where
    found : (b : Place) × Stands nx ny p b
    found = some_block nx ny W H p h

    pub block_inside : ((block_at nx ny p).x < nx) × ((block_at nx ny p).y < ny)
    unfolding found
    block_inside =
        subst (λ (b : Place). (b.x < nx) × (b.y < ny)) (sym (stands_block p found.0 found.1)) (stands_inside nx ny W H p found.0 found.1)

    pub position_undoes_block : position_at nx ny (block_at nx ny p) ≡ p
    unfolding found
    position_undoes_block = ap (position_at nx ny) (stands_block p found.0 found.1) ∙ stands_position p found.0 found.1

    pub block_by_rule : block_at nx ny p ≡ rule_block nx ny p
    unfolding found
    block_by_rule = stands_block p found.0 found.1 ∙ sym (rule_block_lem nx ny W H p found.0 found.1)

  -- so no block stands at two
  pub no_block_twice : (p q : ℕ) → p < nx * ny → q < nx * ny → block_at nx ny p ≡ block_at nx ny q → p ≡ q
  no_block_twice p q h l e = sym (position_undoes_block p h) ∙ ap (position_at nx ny) e ∙ position_undoes_block q l

  -- ---- at each block
  module _ (bx by : ℕ) (X : bx < nx) (Y : by < ny) where
    spot : (p : ℕ) × Stands nx ny p (at bx by)
    spot = some_index nx ny W H bx by X Y

    pub position_below : position_at nx ny (at bx by) < nx * ny
    unfolding spot
    position_below = omega (arith, stands_position spot.0 (at bx by) spot.1, stands_below nx ny W H spot.0 (at bx by) spot.1)

    pub block_undoes_position : block_at nx ny (position_at nx ny (at bx by)) ≡ at bx by
    unfolding spot
    block_undoes_position = ap (block_at nx ny) (stands_position spot.0 (at bx by) spot.1) ∙ stands_block spot.0 (at bx by) spot.1

    pub position_by_rule : position_at nx ny (at bx by) ≡ rule_position nx ny (at bx by)
    unfolding spot
    position_by_rule = stands_position spot.0 (at bx by) spot.1 ∙ sym (rule_position_lem nx ny W H spot.0 (at bx by) spot.1)

    pub each_block_once : times_given (at bx by) (walk nx ny) ≡ 1
    unfolding spot
    each_block_once =
        let p = spot.0 in
        let s = spot.1 in
        given_once (at bx by) (walk nx ny) p (at 0 0) (inside_walk p (at bx by) s) (walk_has nx ny W H p (at bx by) (at 0 0) s)
        (λ q l e. alone p q (at bx by) (at 0 0) s l e)
