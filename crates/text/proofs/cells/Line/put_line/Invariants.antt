use Rattle.std.proofs.Common.{◌+◌, ◌≤◌, length, take, drop}
use Rattle.std.specs.List.{flat_map}
use Rattle.text.specs.Cells.{cell_field}
use Rattle.text.specs.Print.{Puts}
use Rattle.text.proofs.cells.Line.put_line.Given as goal

-- the cells passed are written, and there is room for the others and the line feed
abbrev pub invariant-loop-cell : goal.invariant-loop-cell
invariant-loop-cell l = record {
  within : l.initial.self.end ≤ length l.initial.self.place.now;
  written : Puts l.initial.self l.self (flat_map cell_field (take l.cell-index l.rest));
  room : l.self.end + (length (flat_map cell_field (drop l.cell-index l.rest)) + 1) ≤ length l.self.place.now;
}
