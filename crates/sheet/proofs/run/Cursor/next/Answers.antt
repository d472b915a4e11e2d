use Rattle.std.proofs.Common.{Err, ap, ◌∙◌, arith, rules}
use Rattle.std.proofs.lemmas.Result.{err_from_is_err_and, IfOk-at_ok}
use Rattle.hall.specs.Hall.{hall_log}
use Rattle.sheet.specs.declared.fault.SheetFault.TheVariants.{AtLine}
use Rattle.sheet.specs.Reading.{on_ok}
use Rattle.sheet.specs.Run.{number}
use Rattle.sheet.proofs.Contexts.{beside_ok, beside_err}
use Rattle.sheet.proofs.Running.{next_refused, next_accepted}
use Rattle.sheet.proofs.run.Cursor.next.Goals as goal

pub returns-in_err-kind-clause-answer : goal.returns-in_err-kind-clause-answer
returns-in_err-kind-clause-answer c =
    let k = number c.args.self.now in
    let d = c.in_err-kind.field-0.0 in
    let told = beside_err k (λ f d h. search rules) c.run.result c.map_err.result d c.map_err.ensures.cases c.in_err-kind.was in
    let p = err_from_is_err_and c.from_residual.result c.from_residual.ensures.1 in
    p.1 ∙ ap Err p.2 ∙ ap (λ i. Err (AtLine i d.1)) told.1
    ∙ next_refused c.args.text.now c.args.self.now.at c.find-end.result k (hall_log c.args.board.now) (omega arith) c.find-end.ensures.is
    (on_ok (λ a. a.1) c.run.result) c.run.ensures.called.answer d.1 (ap (on_ok (λ a. a.1)) told.0)

pub returns-clause-answer : goal.returns-clause-answer
returns-clause-answer c =
    let k = number c.args.self.now in
    let told = beside_ok k (λ f d h. search rules) c.run.result c.map_err.result (c.in_ok-kind.kind, c.in_ok-kind.answer) c.map_err.ensures.cases c.in_ok-kind.was in
    next_accepted c.args.text.now c.args.self.now.at c.find-end.result k (hall_log c.args.board.now) (omega arith) c.find-end.ensures.is
    (on_ok (λ a. a.1) c.run.result) c.run.ensures.called.answer c.in_ok-kind.answer c.in_ok-kind.kind (ap (on_ok (λ a. a.1)) told) (IfOk-at_ok _ told c.run.ensures.kind)
