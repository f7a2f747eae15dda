-- What is read of 12 words that the machine holds: their pairs fit. Assumes nothing.
use Rattle.std.specs.Prelude.{◌≡◌, true}
use Rattle.whole.specs.Truth.{both_of}
use Rattle.records.specs.declared.Words.{Words}
use Rattle.records.specs.Packing.{pairs_fit}
use Rattle.records.specs.Unpacking.{record_of}
use Rattle.records.specs.RoundTrip.{Held, pair_of_word}

pub unpacked_pairs_fit : (w : Words) → Held w → pairs_fit (record_of w) ≡ true
unfolding record_of
unpacked_pairs_fit w h =
    both_of (both_of (both_of (both_of (pair_of_word h.pos) (pair_of_word h.cpos)) (pair_of_word h.predictor)) (pair_of_word h.window_x))
    (pair_of_word h.window_y)
