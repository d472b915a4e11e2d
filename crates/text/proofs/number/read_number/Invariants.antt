use Rattle.std.proofs.Common.{◌≡◌, ◌^◌, ◌<◌, drop, true}
use Rattle.std.specs.Str.{all_ascii_digits}
use Rattle.std.specs.Str.Parse.{digits_value, digits_value_after}
use Rattle.text.specs.Number.{number_shape}
use Rattle.text.proofs.number.read_number.Given as goal

-- the bytes passed are digits of value n
abbrev pub invariant-loop-b : goal.invariant-loop-b
invariant-loop-b l = record {
  shape : number_shape l.field ≡ true;
  below : l.n < 10 ^ l.b-index;
  digits : all_ascii_digits (drop l.b-index l.field) ≡ all_ascii_digits l.field;
  value : digits_value_after 10 l.n (drop l.b-index l.field) ≡ digits_value 10 l.field;
}
