-- Laws of the fold over the order: one turn of either pass. Assumes nothing.
use Rattle.std.specs.Prelude.{◌≡◌, Bool, ℤ, pos, nat_abs, length, get_or}
use Rattle.std.proofs.Math.Path.{refl, ap}
use Rattle.std.proofs.Common.{◌∙◌, mul-le-mul, length-drop}
use mathlib.Core.List.{List, [], ◌∷◌, ◌++◌}
use Prim.Native.Nat.{ℕ, zero, suc, ◌+◌, ◌*◌, ◌<◌, ◌≤◌}
use Rattle.std.proofs.Math.Numerals.{add-one}
use native.Mathlib.Omega.{arith}
use Rattle.std.proofs.Math.ListN.{set, drop, length-append}
use Rattle.std.proofs.Math.Seq.{paste}
use Rattle.limits.specs.Sizes.{words_per_record}
use Rattle.whole.specs.Lists.{paste_next, set_next}
use Rattle.whole.specs.Signed.{signed, abs_is}
use Rattle.records.specs.declared.Words.{Words}
use Rattle.records.specs.Packing.{record_fits, record_words}
use Rattle.slots.specs.declared.Slots.{Slots}
use Rattle.planes.specs.declared.Sides.{Sides}
use Rattle.block.specs.declared.Settings.{Settings}
use Rattle.block.specs.declared.Block.{Block}
use Rattle.block.specs.declared.Step.{Step}
use Rattle.block.specs.Steps.{step_of}
use Rattle.passes.specs.declared.Turn.{Turn}
use Rattle.passes.specs.Fold.{word_list, index_at, block_at, turn_at, slots_at, turn_of, words_upto, indices_upto}
use Rattle.passes.specs.Asked.{Listed}

-- ---- a turn's stages
pub turn_made : (s : Settings) (order vectors : List ℤ) (i : ℕ) (t : Slots) {index : ℕ} {b : Block} {d : Step} {fits : Bool} {words : Words} →
    index ≡ index_at s.grid order i → b ≡ block_at s.grid order vectors i → d ≡ step_of s b t → fits ≡ record_fits d.made → words ≡ record_words d.made →
    ◌≡◌ {A = Turn} (record { index = index; fits = fits; words = words; slots = d.slots }) (turn_at s order vectors i t)
unfolding turn_at
turn_made s order vectors i t p e f g h = cc

module _ (s : Settings) (order vectors : List ℤ) where
  pub words_long : (i : ℕ) → length (words_upto s order vectors i) ≡ words_per_record * i
  unfolding words_upto
  words_long zero = refl
  words_long (suc i) = length-append (words_upto s order vectors i) (word_list (turn_of s order vectors i).words) ∙ omega (arith, words_long i)

  pub indices_long : (i : ℕ) → length (indices_upto s order vectors i) ≡ i
  unfolding indices_upto
  indices_long zero = refl
  indices_long (suc i) = length-append (indices_upto s order vectors i) (pos (turn_of s order vectors i).index ∷ []) ∙ omega (arith, indices_long i)

-- ---- one turn of either pass: t are the slots before block i, r is what the turn answered
pub record Turned (s : Settings) (order vectors : List ℤ) (i : ℕ) (t : Slots) (r : Turn) : Type 0 where
  pub here : t ≡ slots_at s order vectors i
  pub did : r ≡ turn_at s order vectors i t

module _ {s : Settings} {order vectors : List ℤ} {i : ℕ} {t : Slots} {r : Turn} (k : Turned s order vectors i t r) where
  pub turn_is : r ≡ turn_of s order vectors i
  turn_is = k.did ∙ ap (turn_at s order vectors i) k.here

  pub slots_next : r.slots ≡ slots_at s order vectors (i + 1)
  unfolding slots_at
  slots_next = rw add-one (ap (λ (x : Turn). x.slots) turn_is)

  pub words_next : (old : List ℤ) {d : List ℤ} → d ≡ words_upto s order vectors i ++ drop (words_per_record * i) old →
      paste d (words_per_record * i) (word_list r.words) words_per_record ≡ words_upto s order vectors (i + 1) ++ drop (words_per_record * (i + 1)) old
  unfolding words_upto
  words_next old e =
      let m : words_per_record * (i + 1) ≡ words_per_record * i + words_per_record = omega arith in
      rw (m, add-one)
      (ap (λ (l : List ℤ). paste l (words_per_record * i) (word_list r.words) words_per_record) e
      ∙ paste_next (words_upto s order vectors i) (word_list r.words) old (words_per_record * i) words_per_record (words_long s order vectors i) refl
      ∙ ap (λ (x : Turn). (words_upto s order vectors i ++ word_list x.words) ++ drop (words_per_record * i + words_per_record) old) turn_is)

  pub indices_next : (old : List ℤ) {d : List ℤ} → i < length old → d ≡ indices_upto s order vectors i ++ drop i old →
      set d i (pos r.index) ≡ indices_upto s order vectors (i + 1) ++ drop (i + 1) old
  unfolding indices_upto
  indices_next old l e =
      ap (λ (m : List ℤ). set m i (pos r.index)) e
      ∙ set_next (pos 0) (indices_upto s order vectors i) old i (pos r.index) (indices_long s order vectors i) l
      ∙ rw add-one (ap (λ (x : Turn). (indices_upto s order vectors i ++ (pos x.index ∷ [])) ++ drop (suc i) old) turn_is)

  pub index_is : r.index ≡ index_at s.grid order i
  unfolding turn_at
  index_is = ap (λ (x : Turn). x.index) turn_is

-- ---- the second pass after i blocks: their words and indices stand in front of the old tails
pub record Passed (s : Settings) (order vectors : List ℤ) (i : ℕ) (old-words words old-indices indices : List ℤ) (t : Slots) : Type 0 where
  pub here : t ≡ slots_at s order vectors i
  pub words_are : words ≡ words_upto s order vectors i ++ drop (words_per_record * i) old-words
  pub indices_are : indices ≡ indices_upto s order vectors i ++ drop i old-indices

module _ {s : Settings} {order vectors : List ℤ} {i : ℕ} {old-words words old-indices indices : List ℤ} {t : Slots}
    (p : Passed s order vectors i old-words words old-indices indices t) where
  pub words_kept : words_per_record * i ≤ length old-words → length words ≡ length old-words
  words_kept l = ap length p.words_are ∙ length-append (words_upto s order vectors i) (drop (words_per_record * i) old-words)
      ∙ omega (arith, words_long s order vectors i, length-drop (words_per_record * i) old-words)

  pub indices_kept : i ≤ length old-indices → length indices ≡ length old-indices
  indices_kept l = ap length p.indices_are ∙ length-append (indices_upto s order vectors i) (drop i old-indices)
      ∙ omega (arith, indices_long s order vectors i, length-drop i old-indices)

  pub passed_more : {r : Turn} → i < length old-indices → r ≡ turn_at s order vectors i t →
      Passed s order vectors (i + 1) old-words (paste words (words_per_record * i) (word_list r.words) words_per_record)
      old-indices (set indices i (pos r.index)) r.slots
  passed_more {r} l e =
      let k : Turned s order vectors i t r = record { here = p.here; did = e } in
      record { here = slots_next k; words_are = words_next k old-words p.words_are; indices_are = indices_next k old-indices l p.indices_are }

-- ---- an index fits 32 bits with room to spare
pub index_small : {grid : Sides} {order : List ℤ} {i : ℕ} → Listed grid order i → index_at grid order i < 4194304
index_small {grid} {order} {i} p =
    let y = get_or order (2 * i + 1) (pos 0) in
    let x = get_or order (2 * i) (pos 0) in
    let a : nat_abs y ≤ 2047 = omega (signed, abs_is y) in
    let b : nat_abs grid.x ≤ 2048 = omega (signed, abs_is grid.x) in
    let d : nat_abs x ≤ 2047 = omega (signed, abs_is x) in
    omega (arith, mul-le-mul a b)
