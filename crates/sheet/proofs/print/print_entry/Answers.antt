use Rattle.std.proofs.Common.{arith}
use Rattle.sheet.specs.Texts.{lettered_text}
use Rattle.sheet.proofs.Printing.{printed_as, lettered_line, lettered_short}
use Rattle.sheet.proofs.print.print_entry.Goals as goal

pub returns : goal.returns
returns c =
    let printed = printed_as _ (lettered_text c.args.line c.args.letter c.args.answer) c.args.place.now c.print_cells.new.place c.print_cells.result
    c.print_cells.ensures.answer c.print_cells.ensures.after (lettered_line c.args.line c.args.letter c.args.answer _ cc) in
    record { answer = printed.0; after = printed.1; short = lettered_short c.args.line c.args.letter c.args.answer (omega arith) (omega arith) }
