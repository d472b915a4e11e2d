use Rattle.std.proofs.Common.{◌≡◌, ◌+◌, ◌*◌, ◌++◌, length}
use Rattle.std.specs.Slice.Iter.{chunks_exact_rest, chunks_exact_size}
use Rattle.sheet.specs.Reading.{steps_of}
use Rattle.sheet.proofs.reading.pair_steps.Given as goal

-- the steps so far, with those of the numbers that are left, are all
abbrev pub invariant-loop-pair : goal.invariant-loop-pair
invariant-loop-pair l = record {
  pairs : chunks_exact_size l.pair-iterator ≡ 2;
  count : 2 * length l.steps.items + length (chunks_exact_rest l.pair-iterator) ≡ length l.numbers.items;
  steps : l.steps.items ++ steps_of (chunks_exact_rest l.pair-iterator) ≡ steps_of l.numbers.items;
}
