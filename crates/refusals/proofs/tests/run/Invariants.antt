use Rattle.std.proofs.Common.{length}
use Rattle.sheet.specs.Run.{left}
use Rattle.refusals.proofs.tests.run.Given as goal

abbrev pub decreases-loop : goal.decreases-loop
decreases-loop l = length (left l.text l.cursor)
