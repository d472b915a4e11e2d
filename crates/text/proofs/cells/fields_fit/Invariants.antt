use Rattle.std.proofs.Common.{◌≡◌, ◌+◌, length, drop}
use Rattle.std.specs.List.{flat_map}
use Rattle.text.specs.Cells.{cell_field}
use Rattle.text.proofs.cells.fields_fit.Given as goal

-- the room that is taken is that of the cells passed
abbrev pub invariant-loop-cell : goal.invariant-loop-cell
invariant-loop-cell l = l.left + length (flat_map cell_field l.cells) ≡ l.room + length (flat_map cell_field (drop l.cell-index l.cells))
