-- Reading a word's bytes gives the word again. Assumes nothing.
use Rattle.std.specs.Prelude.{◌≡◌, List, ◌++◌, ℕ, ◌+◌, ◌*◌, ◌<◌, ℤ, pos, get_or}
use Rattle.std.proofs.Common.{sym, ap, ◌∙◌, mod-eq_of_lt, arith, lit<, SFits, to_z}
use Rattle.std.specs.Int.Signed.{shr_z}
use Rattle.std.specs.Int.{w32}
use Rattle.whole.specs.Numbers.{mod_z}
use Rattle.whole.specs.Signed.{P, N}
use Rattle.whole.specs.Floor.{floor_is, mod_below, floor_only, mod_only}
use Rattle.whole.specs.Wrapping.{wrapped_fits, wrapped_same}
use Rattle.little_endian.specs.Bytes.{bytes_of, word_at}

-- eight bits and then eight more are sixteen, and so on
shifts_16 : (z : ℤ) → shr_z z 65536 ≡ shr_z (shr_z z 256) 256
shifts_16 z =
    let q = shr_z z 256 in
    floor_only z (shr_z q 256) (mod_z z 256 + 256 * mod_z q 256)
    (omega (arith, mod_below {m = 256} (lit< tt) z, mod_below {m = 256} (lit< tt) q))
    (omega (arith, floor_is {m = 256} (lit< tt) z, floor_is {m = 256} (lit< tt) q))

shifts_24 : (z : ℤ) → shr_z z 16777216 ≡ shr_z (shr_z z 65536) 256
shifts_24 z =
    let q = shr_z z 65536 in
    floor_only z (shr_z q 256) (mod_z z 65536 + 65536 * mod_z q 256)
    (omega (arith, mod_below {m = 65536} (lit< tt) z, mod_below {m = 256} (lit< tt) q))
    (omega (arith, floor_is {m = 65536} (lit< tt) z, floor_is {m = 256} (lit< tt) q))

abbrev joined : ℤ → ℕ
joined z = mod_z z 256 + 256 * mod_z (shr_z z 256) 256 + 65536 * mod_z (shr_z z 65536) 256 + 16777216 * mod_z (shr_z z 16777216) 256

module _ (z : ℤ) where
  below : joined z < 4294967296
  below =
      omega (
        arith,
        mod_below {m = 256} (lit< tt) z,
        mod_below {m = 256} (lit< tt) (shr_z z 256),
        mod_below {m = 256} (lit< tt) (shr_z z 65536),
        mod_below {m = 256} (lit< tt) (shr_z z 16777216),
      )

  joined_is : mod_z z 4294967296 ≡ joined z
  joined_is =
      let q = shr_z z 256 in
      let r = shr_z z 65536 in
      let s = shr_z z 16777216 in
      mod_only z (shr_z s 256) (joined z) below
      (omega (
        arith,
        floor_is {m = 256} (lit< tt) z,
        floor_is {m = 256} (lit< tt) q,
        floor_is {m = 256} (lit< tt) r,
        floor_is {m = 256} (lit< tt) s,
        ap P (shifts_16 z),
        ap N (shifts_16 z),
        ap P (shifts_24 z),
        ap N (shifts_24 z),
      ))

pub word_undoes : (z : ℤ) (rest : List ℕ) → SFits w32 z → word_at (bytes_of z ++ rest) 0 ≡ z
unfolding bytes_of word_at
word_undoes z rest f = ap (to_z w32) (mod-eq_of_lt (below z) ∙ sym (joined_is z)) ∙ wrapped_same w32 f

-- every word that is read is one of 32 bits
pub word_fits : (bytes : List ℕ) (at : ℕ) → SFits w32 (word_at bytes at)
unfolding word_at
word_fits bytes at = wrapped_fits w32
    (pos (get_or bytes at 0 + 256 * get_or bytes (at + 1) 0 + 65536 * get_or bytes (at + 2) 0 + 16777216 * get_or bytes (at + 3) 0))
