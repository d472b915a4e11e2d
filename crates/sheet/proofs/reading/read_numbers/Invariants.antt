use Rattle.std.proofs.Common.{◌≡◌, length, drop}
use Rattle.text.specs.Split.{parted}
use Rattle.sheet.specs.Reading.{values_of}
use Rattle.sheet.proofs.Fields.{values_left}
use Rattle.sheet.proofs.reading.read_numbers.Given as goal

-- the numbers so far, with the values of the fields that are left, are all values behind the kind
abbrev pub invariant-loop-k : goal.invariant-loop-k
invariant-loop-k l = record {
  count : length l.numbers.items ≡ length l.yielded;
  values : values_left l.kind (parted 9 l.line) l.numbers.items (length l.yielded) ≡ values_of l.kind 1 2 (drop 1 (parted 9 l.line));
}
