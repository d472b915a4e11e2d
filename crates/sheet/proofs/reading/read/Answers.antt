use Rattle.std.proofs.Common.{Some, Ok, Err, sym, ap, ◌∙◌, arith}
use Rattle.std.proofs.lemmas.Result.{err_from_is_err_and}
use Rattle.sheet.specs.Reading.{on_ok, call_of}
use Rattle.sheet.proofs.Readings.{read_unknown, read_letter, read_numbers_may, read_count, read_values}
use Rattle.sheet.proofs.reading.read.Goals as goal

pub returns-in_err-kind-clause-call : goal.returns-in_err-kind-clause-call
returns-in_err-kind-clause-call c =
    let p = err_from_is_err_and c.from_residual.result c.from_residual.ensures.1 in
    ap (on_ok call_of) (p.1 ∙ ap Err p.2) ∙ read_unknown c.args.bytes.now c.find-end.result c.find-end.ensures.is c.in_err-kind.field-0.0 (sym c.in_err-kind.ensures)

pub returns-then-not-fits-clause-call : goal.returns-then-not-fits-clause-call
returns-then-not-fits-clause-call c =
    read_count c.args.bytes.now c.find-end.result c.find-end.ensures.is c.in_ok-kind.kind (sym c.in_ok-kind.ensures) c.count.result c.count.ensures c.if-not-fits.ensures

pub read_numbers-requires : goal.read_numbers-requires
read_numbers-requires c =
    let may = read_numbers_may c.args.bytes.now c.find-end.result c.find-end.ensures.is c.in_ok-kind.kind (sym c.in_ok-kind.ensures) c.count.result c.count.ensures c.if-not-fits.ensures in
    record { empty = c.empty-numbers.ensures.items; few = may.1.0; some = omega (arith, may.0, c.count.ensures); kind = may.1.1 }

pub returns-in_err-read_numbers-clause-call : goal.returns-in_err-read_numbers-clause-call
returns-in_err-read_numbers-clause-call c =
    let p = err_from_is_err_and c.from_residual-in_err-read_numbers.result c.from_residual-in_err-read_numbers.ensures.1 in
    ap (on_ok call_of) (p.1 ∙ ap Err p.2)
    ∙ read_values c.args.bytes.now c.find-end.result c.find-end.ensures.is c.in_ok-kind.kind (sym c.in_ok-kind.ensures) c.count.result c.count.ensures
    (Err c.in_err-read_numbers.field-0.0) c.if-not-fits.ensures c.in_err-read_numbers.ensures.value

pub returns-clause-call : goal.returns-clause-call
returns-clause-call c =
    ap Ok c.asked.ensures.call
    ∙ read_values c.args.bytes.now c.find-end.result c.find-end.ensures.is c.in_ok-kind.kind (sym c.in_ok-kind.ensures) c.count.result c.count.ensures
    (Ok c.read_numbers.new.numbers.items) c.if-not-fits.ensures c.in_ok-read_numbers.ensures.value

pub returns-clause-kind : goal.returns-clause-kind
returns-clause-kind c =
    read_letter c.args.bytes.now c.find-end.result c.find-end.ensures.is c.in_ok-kind.kind (sym c.in_ok-kind.ensures) c.count.result c.count.ensures ∙ ap Some (sym c.asked.ensures.kind)
