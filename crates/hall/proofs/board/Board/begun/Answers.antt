use Rattle.std.proofs.Common.{arith}
use Rattle.std.proofs.lemmas.Grind.{common_steps}
use Rattle.std.proofs.lemmas.Option.{gets}
use Rattle.hall.proofs.board.Board.begun.Goals as goal

pub returns : goal.returns
returns c = grind (arith, common_steps, gets)
