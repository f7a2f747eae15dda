-- The 13 fields, each by itself.
use Rattle.std.proofs.Common.{rules, ◌≡◌, FitsSigned, lit≤, refl, pos, to_z, w32, bit_and, of_z}
use Rattle.whole.specs.Numbers.{mod_z}
use Rattle.whole.specs.Wrapping.{masked}
use Rattle.records.specs.Alike.{alike_records}
use Rattle.records.specs.Unpacking.{record_of}
use Rattle.records.proofs.unpack_record.Goals as goal

pub returns : goal.returns
unfolding record_of
returns c =
    let last : FitsSigned w32 c.args.words.last = search rules in
    let flags : to_z w32 (bit_and (of_z w32 c.args.words.last) 3) ≡ pos (mod_z c.args.words.last 4) = masked w32 2 1073741824 refl (lit≤ tt) last in
    search (rules, alike_records)
