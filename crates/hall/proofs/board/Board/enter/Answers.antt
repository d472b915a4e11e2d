use Rattle.std.proofs.Common.{◌≡◌, ◌<◌, ◌≤◌, length, take, None, sym, subst, arith}
use Rattle.std.proofs.lemmas.List.{length-map, length-take}
use Rattle.hall.specs.Hall.{hall_log}
use Rattle.hall.specs.Lasting.{Lasting}
use Rattle.hall.specs.Rules.{step_fault}
use Rattle.hall.specs.View.{steps_of}
use Rattle.hall.proofs.Enters.{entered}
use Rattle.hall.proofs.Kept.{kept}
use Rattle.hall.proofs.KeptByEnter.{lasts_enter}
use Rattle.hall.proofs.board.Board.enter.Goals as goal

pub invariant_of-self-clause-lasting : goal.invariant_of-self-clause-lasting
invariant_of-self-clause-lasting c =
    let b = c.args.self.now in
    let ss = c.args.steps.now in
    let room : length (hall_log b).vehicles < 24 = omega (arith, length-map (take b.count b.vehicles) steps_of, length-take b.count b.vehicles) in
    let some : 1 ≤ length ss = grind arith in
    let none : step_fault 0 ss ≡ None = grind arith in
    subst (λ l. ∥ Lasting l ∥₁) (sym (entered b.vehicles b.count b.minute c.booked.result ss (omega arith) c.booked.ensures.steps))
    ∣ lasts_enter (hall_log b) ss (kept b) room some (omega arith) none ∣₁
