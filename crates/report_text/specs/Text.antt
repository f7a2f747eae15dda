-- Text as a list of byte codes: quoted characters, and whole numbers in decimal. Definitions alone.
use Rattle.std.specs.Prelude.{cond, List, [], ◌∷◌, ◌++◌, ℕ, zero, suc, ◌+◌, ◌/◌, ◌%◌, ltb, ℤ, pos, negsuc}
use Prim.Native.Char.{code}
use Prim.Native.String.{String, [] as none, ◌∷◌ as ◌then◌}

-- the codes of a quoted text, one character after the other
abbrev pub codes : String → List ℕ
codes none = []
codes (c then s) = code c ∷ codes s

-- the digits 0 to 9 have the codes 48 to 57
abbrev pub digit : ℕ → ℕ
digit d = 48 + d

-- A number below 10 is its digit. Any other is the digits of its tenth, and then its last digit. Tenths are taken so often at most.
unfoldable pub digits_by : ℕ → ℕ → List ℕ
digits_by zero n = digit n ∷ []
digits_by (suc tenths) n = cond (ltb n 10) (digit n ∷ []) (digits_by tenths (n / 10) ++ (digit (n % 10) ∷ []))

-- As many tenths as the number itself are always enough: Digits, `digits_small` and `digits_more`.
unfoldable pub digits : ℕ → List ℕ
unfolding digits_by
digits n = digits_by n n

unfoldable pub decimal : ℤ → List ℕ
unfolding digits
decimal (pos n) = digits n
decimal (negsuc n) = codes "-" ++ digits (suc n)
