-- The rule of recalc.rs, `serpentine_position` and `serpentine_block`, line by line: a notion of the laws, which no contract cites. That it gives the walk's
-- positions and blocks is proved in Walked.
use Rattle.std.specs.Prelude.{cond, ℕ, ◌+◌, ◌-◌, ◌*◌, ◌/◌, ◌%◌, eqb, ltb}
use Rattle.serpentine.specs.declared.Place.{Place}
use Rattle.serpentine.specs.Walk.{at}

abbrev pub interior : ℕ → ℕ → ℕ
interior nx ny = (ny - 2) * (nx - 2)

unfoldable pub rule_position : ℕ → ℕ → Place → ℕ
rule_position nx ny b =
    cond (eqb b.y 0) (interior nx ny + 2 * b.x)
    (cond (eqb b.y (ny - 1)) (interior nx ny + 2 * b.x + 1)
    (cond (eqb b.x 0) (interior nx ny + 2 * nx + 2 * (b.y - 1))
    (cond (eqb b.x (nx - 1)) (interior nx ny + 2 * nx + 2 * (b.y - 1) + 1)
    ((b.y - 1) * (nx - 2) + cond (eqb (b.y % 2) 0) (b.x - 1) (nx - 2 - b.x)))))

-- its three parts: the interior, the top and the bottom row, the ends of the rows between
abbrev pub inner_block : ℕ → ℕ → Place
inner_block nx p =
    let by = 1 + p / (nx - 2) in
    let i = p % (nx - 2) in
    at (cond (eqb (by % 2) 0) (1 + i) (nx - 2 - i)) by

abbrev pub cap_block : ℕ → ℕ → Place
cap_block ny t = at (t / 2) (cond (eqb (t % 2) 0) 0 (ny - 1))

abbrev pub end_block : ℕ → ℕ → Place
end_block nx t = at (cond (eqb (t % 2) 0) 0 (nx - 1)) (1 + t / 2)

unfoldable pub rule_block : ℕ → ℕ → ℕ → Place
rule_block nx ny p =
    cond (ltb p (interior nx ny)) (inner_block nx p)
    (cond (ltb p (interior nx ny + 2 * nx)) (cap_block ny (p - interior nx ny))
    (end_block nx (p - interior nx ny - 2 * nx)))
