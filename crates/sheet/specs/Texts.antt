-- The bytes of what is printed.
use Rattle.std.specs.Prelude.{ℕ, List, [], ◌∷◌, Result}
use Rattle.std.specs.Result.{result_map_both}
use Rattle.text.specs.Cells.{line_text}
use Rattle.text.specs.declared.cells.Cell.{Cell}
use Rattle.text.specs.declared.cells.Cell.TheVariants.{Number, Symbol}
use Rattle.text.specs.declared.cells.PrintFault.{PrintFault}
use Rattle.sheet.specs.declared.fault.FaultReport.{FaultReport}
use Rattle.sheet.specs.declared.fault.SheetFault.{SheetFault}
use Rattle.sheet.specs.declared.fault.SheetFault.TheVariants.{NoRoom}
use Rattle.sheet.specs.declared.run.Entry.{Entry}
use Rattle.sheet.specs.Faults.{layer_number, sheet_report_of}
use Rattle.sheet.specs.Reading.{letter_of}

-- the numbers of a fault, in the order in which they are printed
abbrev pub fault_cells : FaultReport → List Cell
fault_cells r = Number r.line ∷ Number (layer_number r.layer) ∷ Number r.refusal ∷ Number r.field ∷ Number r.offset ∷ []

-- the letter E and the numbers of a fault
unfoldable pub fault_text : SheetFault → List ℕ
fault_text f = line_text (Symbol 69) (fault_cells (sheet_report_of f))

-- the letter of an accepted line's kind and its call's answer
abbrev pub entry_cells : Entry → List Cell
entry_cells e = Symbol (letter_of e.kind) ∷ Number e.answer ∷ []

-- the number of an accepted line, its letter and its call's answer
unfoldable pub entry_text : Entry → List ℕ
entry_text e = line_text (Number e.line) (entry_cells e)

-- the same of a letter that may be any byte
unfoldable pub lettered_text : ℕ → ℕ → ℕ → List ℕ
lettered_text line letter answer = line_text (Number line) (Symbol letter ∷ Number answer ∷ [])

-- what printing answers, with its refusal as the sheet's
abbrev pub sheet_answer : Result ℕ PrintFault → Result ℕ SheetFault
sheet_answer r = result_map_both (λ n. n) (λ e. NoRoom) r
