use Rattle.std.proofs.Common.{◌≡◌, ◌+◌, Ok, arith}
use Rattle.hall.specs.Hall.{hall_log}
use Rattle.hall.specs.Rules.{pass_answer}
use Rattle.hall.proofs.Keeping.{lasts_pass}
use Rattle.hall.proofs.Kept.{kept}
use Rattle.hall.proofs.PassSteps.{passes}
use Rattle.hall.proofs.board.Board.pass.Goals as goal

pub invariant_of-self-clause-lasting : goal.invariant_of-self-clause-lasting
invariant_of-self-clause-lasting c =
    let b = c.args.self.now in
    ∣ lasts_pass (hall_log b) c.args.minutes (kept b) (omega arith) ∣₁

pub returns-clause-step : goal.returns-clause-step
returns-clause-step c =
    let b = c.args.self.now in
    let m = c.args.minutes in
    let ok : Ok (b.minute + m) ≡ pass_answer (hall_log b) m = grind arith in
    passes (hall_log b) (kept b) m (b.minute + m) ok
