-- 01, "Numbers to hold on to": its lines about pairs and last words, each by computation. proofs/Settings has its line about lambda settings.
use Rattle.std.specs.Prelude.{◌≡◌, refl, ℤ, pos, negsuc, None, Some}
use Rattle.records.specs.declared.Pair.{Pair}
use Rattle.records.specs.declared.Record.{Record}
use Rattle.records.specs.Packing.{packed_pair, pair_number, record_fits, record_words, packed_record, record_number}

-- "pair (1,-1) is -65535; 32767 fits, 32768 is 6"
pub pair_1_minus_1 : packed_pair (pos 1) (negsuc 0) ≡ Some (negsuc 65534)
unfolding packed_pair
pair_1_minus_1 = refl

pub pair_32767 : pair_number (packed_pair (pos 32767) (pos 32767)) ≡ 0
unfolding packed_pair
pair_32767 = refl

pub pair_32768_first : pair_number (packed_pair (pos 32768) (pos 0)) ≡ 6
unfolding packed_pair
pair_32768_first = refl

pub pair_32768_second : pair_number (packed_pair (pos 0) (pos 32768)) ≡ 6
unfolding packed_pair
pair_32768_second = refl

-- "lambda -2^28, flags 3: -1073741821. 2^28 is 6", in a record that fits otherwise: the one of 01's listing
abbrev pub listed : ℤ → ℤ → Record
listed lambda flags =
    let none : Pair = record { first = pos 0; second = pos 0 } in
    let empty : Pair = record { first = pos 0; second = negsuc 0 } in
    record {
      full = None;
      overlay = None;
      u = None;
      v = None;
      average = None;
      pos = none;
      cpos = none;
      predictor = record { first = pos 3; second = negsuc 3 };
      window_x = empty;
      window_y = empty;
      sad = pos 10;
      lambda = lambda;
      flags = flags;
    }

pub lambda_least : record_number (packed_record (listed (negsuc 268435455) (pos 3))) ≡ 0
unfolding packed_record record_fits
lambda_least = refl

pub lambda_least_word : (record_words (listed (negsuc 268435455) (pos 3))).last ≡ negsuc 1073741820
unfolding record_words
lambda_least_word = refl

pub lambda_over : record_number (packed_record (listed (pos 268435456) (pos 3))) ≡ 6
unfolding packed_record record_fits
lambda_over = refl
