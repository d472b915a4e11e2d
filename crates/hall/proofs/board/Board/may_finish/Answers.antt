use Rattle.std.proofs.Common.{arith}
use Rattle.std.proofs.lemmas.Grind.{common_steps}
use Rattle.std.proofs.lemmas.Option.{gets}
use Rattle.hall.proofs.Kept.{kept}
use Rattle.hall.proofs.board.Board.may_finish.Goals as goal

pub overflow_sub-self : goal.overflow_sub-self
overflow_sub-self c =
    let past = (kept c.args.self.now).begins c.args.vehicle c.in_ok-running.running in
    grind (arith, common_steps, gets)

pub returns-then-self-begin : goal.returns-then-self-begin
returns-then-self-begin c =
    let past = (kept c.args.self.now).begins c.args.vehicle c.in_ok-running.running in
    grind (arith, common_steps, gets)

pub returns : goal.returns
returns c =
    let past = (kept c.args.self.now).begins c.args.vehicle c.in_ok-running.running in
    grind (arith, common_steps, gets)
