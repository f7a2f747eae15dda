-- What passing the tests says: the refusals leave all that the two passes ask. Assumes nothing.
use Rattle.std.specs.Prelude.{◌≡◌, refl, Bool, true, ◌&&◌, ◌||◌, List, ℕ, zero, suc, ◌+◌, ◌*◌, ◌≤◌, ◌<◌, eqb, leb, ℤ, pos, negsuc, nat_abs, ◌+ℤ◌}
use Rattle.std.specs.Prelude.{◌-ℤ◌, ◌*ℤ◌, length, get_or, ◌≤ℤ◌, ◌<ℤ◌, None, Option, Some, Err, Ok}
use Rattle.std.proofs.Common.{sym, ◌∙◌, ⊎_elim, mul-le-mul, mul_comm, arith, leb-true, eqb-true}
use Rattle.std.proofs.Math.Path.{ap}
use Rattle.std.proofs.Math.Bool.{cond}
use Rattle.std.specs.Int.Signed.{lt_z, le_z}
use Rattle.limits.specs.Sizes.{words_per_record}
use Rattle.limits.specs.Ranges.{pel_within, lies}
use Rattle.whole.specs.Numbers.{lies_in, fits_i16}
use Rattle.whole.specs.Signed.{signed, abs_is}
use Rattle.whole.specs.Truth.{left_of, right_of, either_of, four_of, five_of, six_of}
use Rattle.whole.specs.Interval.{Within}
use Rattle.limits.specs.Limits.{same, is_block, is_grid_side, is_step, is_frame_side, is_pel, are_shifts}
use Rattle.limits.specs.Refused.{each_passes, let_through}
use Rattle.score.specs.Diagonal.{frame_fits, diagonal_of, diagonal_answer, answer_number}
use Rattle.planes.specs.declared.Sides.{Sides}
use Rattle.block.specs.declared.Settings.{Settings}
use Rattle.block.specs.Asked.{Along}
use Rattle.passes.specs.Fold.{index_at, block_at, all_fit}
use Rattle.passes.specs.Asked.{Served}
use Rattle.planes.specs.Planes.{planes_hold, holds3}
use Rattle.planes.specs.Lying.{three_lie}
use Rattle.planning.specs.declared.Made.{Made}
use Rattle.refusals.specs.Numbers.{line_of, answered}
use Rattle.planning.specs.Refusals.{
  block_count,
  holds1,
  axis_holds,
  sides_hold,
  holds2,
  vector_fits,
  vectors_fit,
  entry_holds,
  order_holds,
  has_room,
  refusal_of,
}

-- ---- "Block 8x8, 16x8 or 16x16": each side is from 8 to 16
pub record Sided (side : ℤ) : Type 0 where
  pub least : pos 8 ≤ℤ side
  pub most : side ≤ℤ pos 16

is_8 : (z : ℤ) → same (pos 8) z ≡ true → Sided z
is_8 z e = let l = lies (pos 8) (pos 8) z e in let low = l.0 in let high = l.1 in record { least = low; most = omega signed }

is_16 : (z : ℤ) → same (pos 16) z ≡ true → Sided z
is_16 z e = let l = lies (pos 16) (pos 16) z e in let low = l.0 in let high = l.1 in record { least = omega signed; most = high }

pub block_sides : (w h : ℤ) → is_block w h ≡ true → Sided w × Sided h
block_sides w h e =
    let w8 = same (pos 8) w in
    let h8 = same (pos 8) h in
    let w16 = same (pos 16) w in
    let h16 = same (pos 16) h in
    ⊎_elim
    (λ k. (is_8 w (left_of w8 h8 k), is_8 h (right_of w8 h8 k)))
    (λ k. (is_16 w (left_of w16 (h8 || h16) k), ⊎_elim (is_8 h) (is_16 h) (either_of h8 h16 (right_of w16 (h8 || h16) k))))
    (either_of (w8 && h8) (w16 && (h8 || h16)) e)

-- ---- one axis
pub record Axes (count step side frame : ℤ) : Type 0 where
  pub count_least : pos 2 ≤ℤ count
  pub count_most : count ≤ℤ pos 2048
  pub step_least : pos 1 ≤ℤ step
  pub step_most : step ≤ℤ side
  pub frame_least : pos 2 ≤ℤ frame
  pub frame_most : frame ≤ℤ pos 16384
  pub ends : ((count -ℤ pos 1) *ℤ step +ℤ side) ≤ℤ frame

axes : (count step side frame : ℤ) → axis_holds count step side frame ≡ true → Axes count step side frame
unfolding axis_holds
axes count step side frame e =
    let t = four_of (is_grid_side count) (is_step side step) (is_frame_side frame) (le_z ((count -ℤ pos 1) *ℤ step +ℤ side) frame) e in
    let g = lies (pos 2) (pos 2048) count t.0 in
    let s = lies (pos 1) side step t.1 in
    let f = lies (pos 2) (pos 16384) frame t.2 in
    let end = t.3 in
    record { count_least = g.0; count_most = g.1; step_least = s.0; step_most = s.1; frame_least = f.0; frame_most = f.1; ends = omega signed }

along : {count step side frame place : ℤ} → Axes count step side frame → Sided side → pos 0 ≤ℤ place → place <ℤ count → Along count step side frame place
along a s low high =
    record {
      first = low;
      last = high;
      count_most = a.count_most;
      step_least = a.step_least;
      step_most = a.step_most;
      side_least = s.least;
      side_most = s.most;
      frame_most = a.frame_most;
      ends = a.ends;
    }

-- ---- the settings
joined : (z : ℤ) → pos 2 ≤ℤ z → z ≤ℤ pos 16384 → is_frame_side z ≡ true
joined z low high =
    let a : le_z (pos 2) z ≡ true = omega signed in
    let b : le_z z (pos 16384) ≡ true = omega signed in
    rw (a, b)

pub record Set (s : Settings) : Type 0 where
  pub across : Axes s.grid.x s.step.x s.block.x s.planes.luma.width
  pub down : Axes s.grid.y s.step.y s.block.y s.planes.luma.height
  pub wide : Sided s.block.x
  pub tall : Sided s.block.y
  pub search : Within 3 3 s.search.search_param
  pub pel : is_pel s.level.pel ≡ true
  pub planes : planes_hold s.planes s.shift ≡ true

pub settings : (s : Settings) (listed held : ℕ) → holds1 s listed ≡ true → holds2 s held ≡ true → Set s
unfolding holds1 holds2
settings s listed held e f =
    let t = six_of s.search.exhaustive (is_block s.block.x s.block.y) (le_z (pos 2) s.grid.x) (le_z (pos 2) s.grid.y)
    (eqb listed (2 * block_count s.grid)) (lies_in (negsuc 2) (pos 3) s.search.search_param) e in
    let u = five_of (sides_hold s) (is_pel s.level.pel) (are_shifts s.shift.x s.shift.y) (planes_hold s.planes s.shift)
    (eqb held (3 * block_count s.grid)) f in
    let x = axis_holds s.grid.x s.step.x s.block.x s.planes.luma.width in
    let y = axis_holds s.grid.y s.step.y s.block.y s.planes.luma.height in
    let sides = block_sides s.block.x s.block.y t.1 in
    let reach = lies (negsuc 2) (pos 3) s.search.search_param t.5 in
    let low = reach.0 in
    let high = reach.1 in
    record {
      across = axes s.grid.x s.step.x s.block.x s.planes.luma.width (left_of x y u.0);
      down = axes s.grid.y s.step.y s.block.y s.planes.luma.height (right_of x y u.0);
      wide = sides.0;
      tall = sides.1;
      search = omega signed;
      pel = u.1;
      planes = u.3;
    }

-- ---- the count, and the lengths
pub count_small : {s : Settings} → Set s → block_count s.grid ≤ 4194304
count_small {s} k =
    let x = k.across in
    let y = k.down in
    let a : nat_abs s.grid.x ≤ 2048 = omega (signed, abs_is s.grid.x) in
    let b : nat_abs s.grid.y ≤ 2048 = omega (signed, abs_is s.grid.y) in
    mul-le-mul a b

pub listed_is : (s : Settings) (listed : ℕ) → holds1 s listed ≡ true → listed ≡ 2 * block_count s.grid
unfolding holds1
listed_is s listed e =
    eqb-true listed (2 * block_count s.grid)
    (six_of s.search.exhaustive (is_block s.block.x s.block.y) (le_z (pos 2) s.grid.x) (le_z (pos 2) s.grid.y)
    (eqb listed (2 * block_count s.grid)) (lies_in (negsuc 2) (pos 3) s.search.search_param) e).4

pub held_is : (s : Settings) (held : ℕ) → holds2 s held ≡ true → held ≡ 3 * block_count s.grid
unfolding holds2
held_is s held e =
    eqb-true held (3 * block_count s.grid)
    (five_of (sides_hold s) (is_pel s.level.pel) (are_shifts s.shift.x s.shift.y) (planes_hold s.planes s.shift)
    (eqb held (3 * block_count s.grid)) e).4

-- ---- an entry of the order
pub record Entry (grid : Sides) (order : List ℤ) (i : ℕ) : Type 0 where
  pub x_least : pos 0 ≤ℤ get_or order (2 * i) (pos 0)
  pub x_most : get_or order (2 * i) (pos 0) <ℤ grid.x
  pub y_least : pos 0 ≤ℤ get_or order (2 * i + 1) (pos 0)
  pub y_most : get_or order (2 * i + 1) (pos 0) <ℤ grid.y

entry : (grid : Sides) (order : List ℤ) (i : ℕ) → entry_holds grid order i ≡ true → Entry grid order i
unfolding entry_holds
entry grid order i e =
    let x = get_or order (2 * i) (pos 0) in
    let y = get_or order (2 * i + 1) (pos 0) in
    let t = four_of (le_z (pos 0) x) (lt_z x grid.x) (le_z (pos 0) y) (lt_z y grid.y) e in
    let a = t.0 in
    let b = t.1 in
    let c = t.2 in
    let d = t.3 in
    record { x_least = omega signed; x_most = omega signed; y_least = omega signed; y_most = omega signed }

-- its index is below the count
index_below : {s : Settings} {order : List ℤ} {i : ℕ} → Set s → Entry s.grid order i → index_at s.grid order i < block_count s.grid
index_below {s} {order} {i} k p =
    let x = get_or order (2 * i) (pos 0) in
    let y = get_or order (2 * i + 1) (pos 0) in
    let a : nat_abs x < nat_abs s.grid.x = omega (signed, abs_is x, abs_is s.grid.x) in
    let b : suc (nat_abs y) ≤ nat_abs s.grid.y = omega (signed, abs_is y, abs_is s.grid.y) in
    let m : nat_abs s.grid.x * suc (nat_abs y) ≤ nat_abs s.grid.x * nat_abs s.grid.y = mul-le-mul (omega arith) b in
    omega (arith, m, mul_comm (nat_abs s.grid.x) (nat_abs y))

-- ---- what the passes ask of each block
pub served : (s : Settings) (order vectors : List ℤ) (luma u v : ℕ) → holds1 s (length order) ≡ true → holds2 s (length vectors) ≡ true →
    vectors_fit vectors (block_count s.grid) ≡ true → holds3 s.planes luma u v ≡ true → order_holds s.grid order (block_count s.grid) ≡ true →
    Served s order vectors (block_count s.grid)
unfolding vector_fits block_at
served s order vectors luma u v e₁ e₂ e₂' e₃ e₄ i l =
    let k = settings s (length order) (length vectors) e₁ e₂ in
    let p = s.planes in
    let x = get_or order (2 * i) (pos 0) in
    let y = get_or order (2 * i + 1) (pos 0) in
    let w = entry s.grid order i (each_passes (entry_holds s.grid order) (block_count s.grid) i e₄ l) in
    let n = index_at s.grid order i in
    let m = index_below k w in
    let vx = get_or vectors (3 * n) (pos 0) in
    let vy = get_or vectors (3 * n + 1) (pos 0) in
    let fit = each_passes (vector_fits vectors) (block_count s.grid) n e₂' m in
    let px = lies (negsuc 32767) (pos 32767) vx (left_of (fits_i16 vx) (fits_i16 vy) fit) in
    let py = lies (negsuc 32767) (pos 32767) vy (right_of (fits_i16 vx) (fits_i16 vy) fit) in
    let fx = k.across in
    let fy = k.down in
    let three = three_lie p s.shift luma u v (joined p.luma.width fx.frame_least fx.frame_most)
    (joined p.luma.height fy.frame_least fy.frame_most) k.planes e₃ in
    record {
      listed =
          let a = listed_is s (length order) e₁ in
          record {
            there = omega arith;
            columns = omega signed;
            columns_most = fx.count_most;
            x_least = w.x_least;
            x_most = omega signed;
            y_least = w.y_least;
            y_most = omega signed;
          };
      held = let b = held_is s (length vectors) e₂ in omega arith;
      ready =
          record {
            across = along fx k.wide w.x_least w.x_most;
            down = along fy k.tall w.y_least w.y_most;
            search = k.search;
            pel = let q = pel_within s.level.pel k.pel in let low = q.low in let high = q.high in omega arith;
            px = let low = px.0 in let high = px.1 in omega signed;
            py = let low = py.0 in let high = py.1 in omega signed;
            luma = three.luma;
            u = three.u;
            v = three.v;
          };
    }

-- ---- what slots and diagonal ask
pub record Framed (s : Settings) : Type 0 where
  pub search : Within 3 3 s.search.search_param
  pub frame : frame_fits s.planes.luma.width s.planes.luma.height s.level.pel ≡ true

pub framed : (s : Settings) (listed held : ℕ) → holds1 s listed ≡ true → holds2 s held ≡ true → Framed s
framed s listed held e f =
    let k = settings s listed held e f in
    let x = k.across in
    let y = k.down in
    let w : is_frame_side s.planes.luma.width ≡ true = joined s.planes.luma.width x.frame_least x.frame_most in
    let h : is_frame_side s.planes.luma.height ≡ true = joined s.planes.luma.height y.frame_least y.frame_most in
    record { search = k.search; frame = rw (w, h) k.pel }

-- ---- the chain: 0 where every test holds
pub record Accepted (s : Settings) (order vectors : List ℤ) (words indices : ℕ) : Type 0 where
  pub serves : Served s order vectors (block_count s.grid)
  pub room : words_per_record * block_count s.grid ≤ words
  pub rows : block_count s.grid ≤ indices
  pub framed : Framed s
  pub fit : all_fit s order vectors (block_count s.grid) ≡ true
  pub set : Set s
  pub held : length vectors ≡ 3 * block_count s.grid

pub accepted : (s : Settings) (order vectors : List ℤ) (luma u v words indices : ℕ) → refusal_of s order vectors luma u v words indices ≡ 0 →
    Accepted s order vectors words indices
unfolding refusal_of
accepted s order vectors luma u v words indices e =
    let n = block_count s.grid in
    let t₁ = let_through (holds1 s (length order)) 0 _ e in
    let t₂ = let_through (holds2 s (length vectors) && vectors_fit vectors n) 1 _ t₁.1 in
    let t₃ = let_through (holds3 s.planes luma u v) 2 _ t₂.1 in
    let t₄ = let_through (order_holds s.grid order n) 3 _ t₃.1 in
    let t₅ = let_through (has_room n words indices) 4 _ t₄.1 in
    let t₆ = let_through (all_fit s order vectors n) 5 _ t₅.1 in
    let two = left_of (holds2 s (length vectors)) (vectors_fit vectors n) t₂.0 in
    record {
      serves = served s order vectors luma u v t₁.0 two (right_of (holds2 s (length vectors)) (vectors_fit vectors n) t₂.0) t₃.0 t₄.0;
      room = leb-true (words_per_record * n) words (left_of (leb (words_per_record * n) words) (leb n indices) t₅.0);
      rows = leb-true n indices (right_of (leb (words_per_record * n) words) (leb n indices) t₅.0);
      framed = framed s (length order) (length vectors) t₁.0 two;
      fit = t₆.0;
      set = settings s (length order) (length vectors) t₁.0 two;
      held = held_is s (length vectors) two;
    }

-- ---- the diagonal of accepted sides is given
abbrev value_of : Option ℤ → ℤ
value_of (Some value) = value
value_of None = pos 0

module _ (width height pel : ℤ) (fits : frame_fits width height pel ≡ true) where
  pub given : diagonal_answer width height pel ≡ Some (diagonal_of width height pel)
  unfolding diagonal_answer
  given = ap (λ (t : Bool). cond t (Some (diagonal_of width height pel)) None) fits

  pub diagonal_given : {d : ℤ} → diagonal_answer width height pel ≡ Some d → d ≡ diagonal_of width height pel
  diagonal_given e = ap value_of (sym e ∙ given)

  pub diagonal_not_refused : diagonal_answer width height pel ≡ None → ⊥
  diagonal_not_refused e = let two : ◌≡◌ {A = ℕ} 2 0 = ap answer_number (sym e ∙ given) in absurd (omega arith)

-- ---- refused, or done
pub answered_refused : (n : ℕ) (made : Made) → (n ≡ 0 → ⊥) → Err (line_of n) ≡ answered n made
answered_refused zero made h = absurd (h refl)
answered_refused (suc n) made h = refl

pub answered_done : {n : ℕ} (made : Made) → n ≡ 0 → answered n made ≡ Ok made
answered_done made e = rw e
