-- The lines of faults and entries, and what printing them answers.
use Rattle.std.proofs.Common.{◌≡◌, ◌*◌, ◌^◌, ◌<◌, ◌≤◌, List, [], ◌∷◌, length, refl, ap, ◌∙◌, arith, ℕ, Result}
use Rattle.std.proofs.lemmas.List.{length-append}
use Rattle.std.specs.List.{flat_map, AllByRecursion}
use Rattle.text.proofs.Texts.{cell_short, length-line_text}
use Rattle.text.specs.Cells.{cell_text, cell_field, line_text}
use Rattle.text.specs.Print.{printed_into}
use Rattle.text.specs.declared.cells.Cell.{Cell}
use Rattle.text.specs.declared.cells.Cell.TheVariants.{Number, Symbol}
use Rattle.sheet.specs.declared.fault.FaultReport.{FaultReport}
use Rattle.sheet.specs.declared.fault.Layer.{Layer}
use Rattle.sheet.specs.declared.fault.Layer.TheVariants as layer
use Rattle.sheet.specs.declared.fault.SheetFault.{SheetFault}
use Rattle.sheet.specs.declared.run.Entry.{Entry}
use Rattle.sheet.specs.Faults.{layer_number, sheet_report_of}
use Rattle.sheet.specs.Reading.{letter_of}
use Rattle.sheet.specs.Texts.{fault_cells, fault_text, lettered_text, entry_cells, entry_text, sheet_answer}

-- what printing the bytes t answers and leaves, where they are those of u
pub printed_as : (t u xs ys : List ℕ) (r : Result ℕ SheetFault) → r ≡ sheet_answer (printed_into t xs).0 → ys ≡ (printed_into t xs).1 → t ≡ u
    → (r ≡ sheet_answer (printed_into u xs).0) × (ys ≡ (printed_into u xs).1)
printed_as t u xs ys r h l is = (h ∙ ap (λ b. sheet_answer (printed_into b xs).0) is, l ∙ ap (λ b. (printed_into b xs).1) is)

-- the line of a letter and an answer
pub lettered_line : (line letter answer : ℕ) (cs : List Cell) → cs ≡ Symbol letter ∷ Number answer ∷ [] → line_text (Number line) cs ≡ lettered_text line letter answer
unfolding lettered_text
lettered_line line letter answer cs q = ap (line_text (Number line)) q

-- the line of an entry
pub entry_line : (e : Entry) (cs : List Cell) → cs ≡ entry_cells e → line_text (Number e.line) cs ≡ entry_text e
unfolding entry_text
entry_line e cs q = ap (line_text (Number e.line)) q

-- an accepted line's is that of its kind's letter
pub entry_lettered : (e : Entry) → lettered_text e.line (letter_of e.kind) e.answer ≡ entry_text e
unfolding lettered_text
entry_lettered e = entry_line e (entry_cells e) refl

-- the line of a fault
pub fault_line : (f : SheetFault) (r : FaultReport) (cs : List Cell) → r ≡ sheet_report_of f → cs ≡ fault_cells r → line_text (Symbol 69) cs ≡ fault_text f
unfolding fault_text
fault_line f r cs e q = ap (line_text (Symbol 69)) (q ∙ ap fault_cells e)

-- a cell whose number fits 64 bits
abbrev Fits : Cell → Type 0
Fits (Number n) = n < 2 ^ 64
Fits (Symbol b) = Unit {0}

fits_short : (c : Cell) → Fits c → length (cell_text c) ≤ 20
fits_short (Number n) h = cell_short n h
fits_short (Symbol b) h = omega arith

joined_short : (cs : List Cell) → AllByRecursion Fits cs → length (flat_map cell_field cs) ≤ 21 * length cs
joined_short [] h = omega arith
joined_short (c ∷ cs) h =
    omega (arith, length-append (cell_field c) (flat_map cell_field cs), fits_short c h.0, joined_short cs h.1)

pub lettered_short : (line letter answer : ℕ) → line < 2 ^ 64 → answer < 2 ^ 64 → length (lettered_text line letter answer) ≤ 44
unfolding lettered_text
lettered_short line letter answer l a =
    omega (
      arith,
      length-line_text (Number line) (Symbol letter ∷ Number answer ∷ []),
      length-append (cell_field (Symbol letter)) (flat_map cell_field (Number answer ∷ [])),
      cell_short line l,
      joined_short (Number answer ∷ []) (a, tt),
    )

pub entry_short : (e : Entry) → e.line < 2 ^ 64 → e.answer < 2 ^ 64 → length (entry_text e) ≤ 44
entry_short e l a = omega (arith, lettered_short e.line (letter_of e.kind) e.answer l a, ap length (entry_lettered e))

layer_small : (l : Layer) → layer_number l < 2 ^ 64
layer_small layer.Text = omega arith
layer_small layer.Record = omega arith
layer_small layer.Board = omega arith
layer_small layer.Sheet = omega arith

pub fault_short : (f : SheetFault) (r : FaultReport) → r ≡ sheet_report_of f → r.line < 2 ^ 64 → r.refusal < 2 ^ 64
    → r.field < 2 ^ 64 → r.offset < 2 ^ 64 → length (fault_text f) ≤ 107
unfolding fault_text
fault_short f r e a c d g =
    omega (arith, ap (λ x. length (line_text (Symbol 69) (fault_cells x))) e, length-line_text (Symbol 69) (fault_cells r), joined_short (fault_cells r) (a, (layer_small r.layer, (c, (d, (g, tt))))))
