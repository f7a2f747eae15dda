-- How many costs a block has at most, as a host gets it. 01, "Planning, block by block in the given order": "Slots are 1 + (2 x radius + 1) squared"; "Numbers
-- accepted": "Radius is the absolute value of `search_param`", and 1 where it is over 3. Definitions alone.
use Rattle.std.specs.Prelude.{cond, ℤ, pos, negsuc, None, Option, Some}
use Rattle.limits.specs.Limits.{radius_of}
use Rattle.whole.specs.Numbers.{lies_in}
use Rattle.window.specs.Windows.{slots_of}

unfoldable pub slots_answer : ℤ → Option ℤ
slots_answer param = cond (lies_in (negsuc 2) (pos 3) param) (Some (slots_of (radius_of param))) None
