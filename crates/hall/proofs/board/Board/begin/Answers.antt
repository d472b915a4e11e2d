use Rattle.std.proofs.Common.{arith}
use Rattle.hall.specs.declared.step.Progress.TheVariants.{Running}
use Rattle.hall.specs.Hall.{hall_log}
use Rattle.hall.specs.Job.{Begins, config_of}
use Rattle.hall.specs.Rules.{begin, begin_answer}
use Rattle.hall.proofs.Answering.{accepted, exactly_none}
use Rattle.hall.proofs.BeginSteps.{only_begins}
use Rattle.hall.proofs.Kept.{kept}
use Rattle.hall.proofs.Marks.{Wrote, begin_marks, wrote}
use Rattle.hall.proofs.board.Board.begin.Goals as goal
use Rattle.hall.proofs.board.Board.begin.Goals.{After-start}

written : (c : After-start)
    → Wrote c.args.self.now (begin c.args.vehicle) (Begins (hall_log c.args.self.now) c.args.vehicle c.in_ok-next.next) c.args.vehicle c.in_ok-next.next c.start.new.self
written c =
    let b = c.args.self.now in
    let v = c.args.vehicle in
    let n = c.in_ok-next.next in
    wrote b (begin v) (Begins (hall_log b) v n) v n (λ r. Running c.args.self.now.minute) c.index-self-vehicle.result c.start.new.self
    (begin_marks (hall_log b) v n (kept b) c.in_ok-next.ensures) c.start.ensures.steps

pub overflow_cast-result : goal.overflow_cast-result
overflow_cast-result c = let few = (written (goal.at.overflow_cast-result c).After-start).few in omega arith

pub invariant_of-self-clause-lasting : goal.invariant_of-self-clause-lasting
invariant_of-self-clause-lasting c = (written (goal.at.invariant_of-self-clause-lasting c).After-start).lasts

pub returns-clause-called : goal.returns-clause-called
returns-clause-called c =
    accepted c.args.self.now (begin c.args.vehicle) _ c.in_ok-next.next c.in_ok-next.ensures (written (goal.at.returns-clause-called c).After-start).log

pub returns-clause-step : goal.returns-clause-step
returns-clause-step c = (written (goal.at.returns-clause-step c).After-start).takes

pub returns-in_err-next-clause-step : goal.returns-in_err-next-clause-step
returns-in_err-next-clause-step c =
    let l = hall_log c.args.self.now in
    let v = c.args.vehicle in
    exactly_none (Begins l v) (begin_answer l v) (only_begins l (kept c.args.self.now) v) c.from_residual.result _ c.from_residual.ensures.1
    c.in_err-next.ensures (config_of l)
