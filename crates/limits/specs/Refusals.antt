-- What 01 says below its table of refusals: "If several apply, the lowest is given", "A refusal returns the number and changes nothing lent, even where the
-- tenth record is the one that doesn't fit". Definitions alone.
use Rattle.std.specs.Prelude.{Bool, false, cond, ◌||◌, List, ℕ, zero, suc, ℤ, pos}
use Rattle.std.specs.Int.Signed.{lt_z}

-- a refusal's number where its test holds, else what the rest of the table gives
abbrev pub first : Bool → ℕ → ℕ → ℕ
first test number rest = cond test number rest

-- whether a test holds of any of the first n things, numbered from 0
unfoldable pub any_upto : (ℕ → Bool) → ℕ → Bool
any_upto test zero = false
any_upto test (suc n) = any_upto test n || test n

-- of a grid's two sides alone: 1 "a grid side below 2", 2 "another number outside the limits", here a side over 2,048
abbrev pub sides_refusal : ℤ → ℤ → ℕ
sides_refusal nx ny = first (lt_z nx (pos 2) || lt_z ny (pos 2)) 1 (first (lt_z (pos 2048) nx || lt_z (pos 2048) ny) 2 0)

-- a lent buffer afterwards, by the number answered: on 0 what was written, on any other what it held
abbrev pub kept : {A : Type 0} → ℕ → List A → List A → List A
kept zero written held = written
kept (suc n) written held = held
