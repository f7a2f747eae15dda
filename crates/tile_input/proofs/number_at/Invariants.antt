-- What is still to be found, behind the bytes passed, is what was to be found at first.
use Rattle.std.proofs.Common.{◌≡◌, drop}
use Rattle.tile_input.specs.declared.Word.TheVariants as variant
use Rattle.tile_input.specs.Parts.{number_from}
use Rattle.tile_input.proofs.number_at.Given as goal

abbrev pub invariant-loop-byte : goal.invariant-loop-byte
invariant-loop-byte l = number_from l.left l.word (drop l.byte-index l.text) ≡ number_from l.place variant.Unbegun l.text
