use Rattle.std.proofs.Common.{◌≡◌, ap, ◌∙◌, arith}
use Rattle.sheet.specs.Texts.{lettered_text, entry_text}
use Rattle.sheet.proofs.Printing.{printed_as, entry_lettered, entry_short}
use Rattle.sheet.proofs.print.EntryPrinted.print.Goals as goal

pub returns : goal.returns
returns c =
    let e = c.args.self.now in
    let same : lettered_text e.line c.letter.result e.answer ≡ entry_text e = ap (λ l. lettered_text e.line l e.answer) c.letter.ensures.value ∙ entry_lettered e in
    let printed = printed_as _ (entry_text e) c.args.place.now c.print_entry.new.place c.print_entry.result c.print_entry.ensures.answer c.print_entry.ensures.after same in
    record { answer = printed.0; after = printed.1; short = entry_short e (omega arith) (omega arith) }
