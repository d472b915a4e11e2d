use Rattle.std.proofs.Common.{arith}
use Rattle.hall.specs.declared.step.Progress.TheVariants.{Done}
use Rattle.hall.specs.Hall.{hall_log}
use Rattle.hall.specs.Log.{begin_of}
use Rattle.hall.specs.Job.{Finishes, config_of}
use Rattle.hall.specs.Rules.{finish, finish_answer}
use Rattle.hall.proofs.Answering.{accepted, exactly_none}
use Rattle.hall.proofs.FinishSteps.{only_finishes}
use Rattle.hall.proofs.Kept.{kept}
use Rattle.hall.proofs.Marks.{Wrote, finish_marks, wrote}
use Rattle.hall.proofs.board.Board.finish.Goals as goal
use Rattle.hall.proofs.board.Board.finish.Goals.{After-end}

written : (c : After-end)
    → Wrote c.args.self.now (finish c.args.vehicle) (Finishes (hall_log c.args.self.now) c.args.vehicle c.in_ok-running.running) c.args.vehicle c.in_ok-running.running c.end.new.self
written c =
    let b = c.args.self.now in
    let v = c.args.vehicle in
    let n = c.in_ok-running.running in
    wrote b (finish v) (Finishes (hall_log b) v n) v n (λ r. Done (begin_of r.progress) c.args.self.now.minute) c.index-self-vehicle.result c.end.new.self
    (finish_marks (hall_log b) v n (kept b) c.in_ok-running.ensures) c.end.ensures.steps

pub overflow_cast-result : goal.overflow_cast-result
overflow_cast-result c = let few = (written (goal.at.overflow_cast-result c).After-end).few in omega arith

pub invariant_of-self-clause-lasting : goal.invariant_of-self-clause-lasting
invariant_of-self-clause-lasting c = (written (goal.at.invariant_of-self-clause-lasting c).After-end).lasts

pub returns-clause-called : goal.returns-clause-called
returns-clause-called c =
    accepted c.args.self.now (finish c.args.vehicle) _ c.in_ok-running.running c.in_ok-running.ensures (written (goal.at.returns-clause-called c).After-end).log

pub returns-clause-step : goal.returns-clause-step
returns-clause-step c = (written (goal.at.returns-clause-step c).After-end).takes

pub returns-in_err-running-clause-step : goal.returns-in_err-running-clause-step
returns-in_err-running-clause-step c =
    let l = hall_log c.args.self.now in
    let v = c.args.vehicle in
    exactly_none (Finishes l v) (finish_answer l v) (only_finishes l (kept c.args.self.now) v) c.from_residual.result _ c.from_residual.ensures.1
    c.in_err-running.ensures (config_of l)
