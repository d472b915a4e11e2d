use Rattle.std.proofs.Common.{Ok, vec_items, sym, ap, ◌∙◌}
use Rattle.hall.specs.Hall.{hall_log}
use Rattle.sheet.specs.Run.{left, number}
use Rattle.replay.proofs.Showing.{shows_more}
use Rattle.replay.proofs.replaying.run.Goals as goal

pub loop-entry-preserved : goal.loop-entry-preserved
loop-entry-preserved c =
    let bs = c.args.text.now in
    let next = c.in_ok-entry.ensures in
    shows_more (vec_items c.loop-entry.shown) _ _ (number c.loop-entry.cursor) _ (left bs c.loop-entry.cursor) _ (hall_log c.loop-entry.board) _
    c.in-Some.entry (ap Ok (sym c.in-Some.is) ∙ next.answer) c.in_ok-add.ensures next.counted next.rest next.log c.loop-entry.invariant
