use Rattle.std.proofs.Common.{refl}
use Rattle.hall.proofs.HallRuns.{kept_from_arguments, runs_as_composed}
use Rattle.hall.proofs.Keeping.{lasts_empty}
use Rattle.hall.proofs.board.Board.new.Goals as goal

pub invariant_of-result-clause-lasting : goal.invariant_of-result-clause-lasting
invariant_of-result-clause-lasting c = ∣ lasts_empty ∣₁

pub returns : goal.returns
returns c = record {
  empty = refl;
  series = kept_from_arguments _;
  runs = runs_as_composed _ refl;
}
