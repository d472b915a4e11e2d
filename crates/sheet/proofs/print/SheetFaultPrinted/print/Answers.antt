use Rattle.std.proofs.Common.{arith}
use Rattle.sheet.specs.Texts.{fault_text}
use Rattle.sheet.proofs.Printing.{printed_as, fault_line, fault_short}
use Rattle.sheet.proofs.print.SheetFaultPrinted.print.Goals as goal

pub returns : goal.returns
returns c =
    let f = c.args.self.now in
    let r = c.report-report.result in
    let printed = printed_as _ (fault_text f) c.args.place.now c.print_cells.new.place c.print_cells.result c.print_cells.ensures.answer c.print_cells.ensures.after
    (fault_line f r c.fault_cells.result c.report-report.ensures c.fault_cells.ensures) in
    record {
      answer = printed.0;
      after = printed.1;
      short = fault_short f r c.report-report.ensures (omega arith) (omega arith) (omega arith) (omega arith);
    }
