-- What a number of a sheet is.
use Rattle.std.specs.Prelude.{◌≡◌, ℕ, ◌-◌, ◌^◌, ◌<◌, Bool, if◌then◌else◌, not, ◌&&◌, ◌||◌, List, length, Ok, Err, decimal, Result, ◌==◌, nat_le, slice_index}
use Rattle.std.specs.Str.Parse.{digits_value}
use Rattle.std.specs.Char.{is_ascii_digit}
use Rattle.std.specs.Str.{all_ascii_digits}
use Rattle.text.specs.declared.number.NumberFault.{NumberFault}
use Rattle.text.specs.declared.number.NumberFault.TheVariants.{Malformed}

-- the value of one byte, where it is a digit
abbrev pub digit_of : ℕ → Result ℕ NumberFault
digit_of b = if is_ascii_digit b then Ok (b - 48) else Err Malformed

-- 1 to 7 bytes, the first no zero unless it stands alone
abbrev pub number_shape : List ℕ → Bool
number_shape bs = (nat_le 1 (length bs) && nat_le (length bs) 7) && (length bs == 1 || not (slice_index bs 0 == 48))

-- bytes that write a number
abbrev pub is_number : List ℕ → Bool
is_number bs = number_shape bs && all_ascii_digits bs

-- the number that the bytes write; `digits_value 10` is the decimal value of digits, as for `str::parse`
abbrev pub number_of : List ℕ → Result ℕ NumberFault
number_of bs = if is_number bs then Ok (digits_value 10 bs) else Err Malformed

-- minutes and lengths are written as plain numbers
unfoldable pub minutes_of : List ℕ → Result ℕ NumberFault
minutes_of bs = number_of bs

-- what is printed of a number below ten million reads back as that number
abbrev pub ReadsBack : Type 0
ReadsBack = (n : ℕ) → n < 10 ^ 7 → number_of (decimal n) ≡ Ok n
