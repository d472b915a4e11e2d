-- The numbers by which a fault is told, and a fault with its context.
use Rattle.std.specs.Prelude.{ℕ}
use Rattle.hall.specs.Faults.{refusal_of, field_of}
use Rattle.sheet.specs.declared.fault.FaultReport.{FaultReport}
use Rattle.sheet.specs.declared.fault.Layer.{Layer}
use Rattle.sheet.specs.declared.fault.Layer.TheVariants as layer
use Rattle.sheet.specs.declared.fault.LineFault.{LineFault}
use Rattle.sheet.specs.declared.fault.LineFault.TheVariants.{Number, KindUnknown, FieldCount, Board}
use Rattle.sheet.specs.declared.fault.SheetFault.{SheetFault}
use Rattle.sheet.specs.declared.fault.SheetFault.TheVariants.{TooLong, NoRoom, AtLine}

-- the number of a layer
abbrev pub layer_number : Layer → ℕ
layer_number layer.Text = 1
layer_number layer.Record = 2
layer_number layer.Board = 3
layer_number layer.Sheet = 4

-- what is told of a fault that is about no field
abbrev pub whole_report : ℕ → Layer → ℕ → FaultReport
whole_report line layer refusal = record { line = line; layer = layer; refusal = refusal; field = 0; offset = 0 }

-- the fault of line k
abbrev pub report_of : ℕ → LineFault → FaultReport
report_of k (Number e spot) = record { line = k; layer = layer.Text; refusal = 1; field = spot.field; offset = spot.offset }
report_of k KindUnknown = whole_report k layer.Record 2
report_of k FieldCount = whole_report k layer.Record 3
report_of k (Board e at) = record { line = k; layer = layer.Board; refusal = refusal_of e; field = field_of e; offset = at }

-- the fault of a sheet
abbrev pub sheet_report_of : SheetFault → FaultReport
sheet_report_of TooLong = whole_report 0 layer.Sheet 5
sheet_report_of NoRoom = whole_report 0 layer.Sheet 35
sheet_report_of (AtLine k f) = report_of k f
