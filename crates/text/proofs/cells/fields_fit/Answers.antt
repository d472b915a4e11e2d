use Rattle.std.proofs.Common.{length, sym, ap, arith}
use Rattle.std.proofs.lemmas.List.{at_drop_all}
use Rattle.std.proofs.lemmas.Bool.{le-leb, lt-leb}
use Rattle.std.specs.List.{flat_map}
use Rattle.text.specs.declared.cells.Cell.TheVariants.{Number}
use Rattle.text.specs.Cells.{cell_field}
use Rattle.text.proofs.Texts.{joined_left}
use Rattle.text.proofs.cells.fields_fit.Goals as goal

pub returns-then-wide-left : goal.returns-then-wide-left
returns-then-wide-left c =
    sym (lt-leb (length (flat_map cell_field c.args.cells.now)) c.args.room (omega (arith, joined_left cell_field c.args.cells.now c.loop-cell.cell-index (Number 0) (omega arith))))

pub loop-cell-preserved : goal.loop-cell-preserved
loop-cell-preserved c = omega (arith, joined_left cell_field c.args.cells.now c.loop-cell.cell-index (Number 0) (omega arith))

pub returns : goal.returns
returns c =
    sym (le-leb (length (flat_map cell_field c.args.cells.now)) c.args.room (omega (arith, ap length (at_drop_all (flat_map cell_field) c.args.cells.now c.loop-cell.cell-index (omega arith)))))
