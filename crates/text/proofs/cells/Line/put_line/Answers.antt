use Rattle.std.proofs.Common.{◌≡◌, [], ◌∷◌, slice_index_or, take, sym, subst, arith}
use Rattle.std.proofs.lemmas.List.{take_all}
use Rattle.std.specs.List.{flat_map}
use Rattle.text.specs.declared.cells.Cell.TheVariants.{Number}
use Rattle.text.specs.Cells.{cell_text, cell_field, line_text}
use Rattle.text.specs.Print.{Puts}
use Rattle.text.proofs.Puts.{put_none, put_length, put_then}
use Rattle.text.proofs.Texts.{length-line_text, joined_left, joined_take}
use Rattle.text.proofs.cells.Line.put_line.Goals as goal

pub put_cell-requires : goal.put_cell-requires
put_cell-requires c = omega (arith, length-line_text c.args.first c.args.rest.now)

pub loop-cell-init : goal.loop-cell-init
loop-cell-init c =
    let all = length-line_text c.args.first c.args.rest.now in
    let same = put_length _ _ (cell_text c.args.first) (omega arith) c.put_cell.ensures in
    record { within = omega (arith, c.put_cell.ensures.end); written = put_none c.put_cell.new.self; room = omega (arith, c.put_cell.ensures.end) }

pub put_cell-requires-in-loop-cell : goal.put_cell-requires-in-loop-cell
put_cell-requires-in-loop-cell c =
    let left = joined_left cell_field c.args.rest.now c.loop-cell.cell-index (Number 0) (omega arith) in
    omega (arith, c.put.ensures.end, put_length _ _ (9 ∷ []) (omega arith) c.put.ensures)

pub loop-cell-preserved : goal.loop-cell-preserved
loop-cell-preserved c =
    let i = c.loop-cell.cell-index in
    let x = slice_index_or c.args.rest.now i (Number 0) in
    let left = joined_left cell_field c.args.rest.now i (Number 0) (omega arith) in
    let more = joined_take cell_field c.args.rest.now i (Number 0) (omega arith) in
    let tab = put_length _ _ (9 ∷ []) (omega arith) c.put.ensures in
    let cell = put_length _ _ (cell_text x) (omega (arith, c.put.ensures.end)) c.put_cell-in-loop-cell.ensures in
    let field : Puts c.loop-cell.self c.put_cell-in-loop-cell.new.self (cell_field x) = put_then _ _ _ (9 ∷ []) (cell_text x) (omega arith) c.put.ensures c.put_cell-in-loop-cell.ensures in
    record {
      within = c.loop-cell.invariant.within;
      written = subst (Puts c.put_cell.new.self c.put_cell-in-loop-cell.new.self) (sym more) (put_then _ _ _ (flat_map cell_field (take i c.args.rest.now)) (cell_field x) c.loop-cell.invariant.within c.loop-cell.invariant.written field);
      room = omega (arith, c.put.ensures.end, c.put_cell-in-loop-cell.ensures.end);
    }

pub returns : goal.returns
unfolding line_text
returns c =
    let all : take c.loop-cell.cell-index c.args.rest.now ≡ c.args.rest.now = take_all c.loop-cell.cell-index c.args.rest.now (omega arith) in
    let written = subst (λ l. Puts c.put_cell.new.self c.loop-cell.self (flat_map cell_field l)) all c.loop-cell.invariant.written in
    put_then _ _ _ (cell_text c.args.first) _ (omega arith) c.put_cell.ensures (put_then _ _ _ (flat_map cell_field c.args.rest.now) (10 ∷ []) c.loop-cell.invariant.within written c.put-2.ensures)
