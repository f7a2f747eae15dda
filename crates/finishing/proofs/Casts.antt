-- What the machine reads of a number that fits is the number, a product of small numbers is small, and what a test of naturals tells.
use Rattle.std.proofs.lemmas.Int.{to_z-of_z, to_z_pos}
use Rattle.std.proofs.lemmas.Nat.{mul-le}
use Rattle.std.proofs.lemmas.Bool.Decides.{nat_tests}

pub ruleset casts = (to_z-of_z, to_z_pos, mul-le, nat_tests)
