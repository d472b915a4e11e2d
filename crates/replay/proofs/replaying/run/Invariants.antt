use Rattle.std.proofs.Common.{◌≡◌, ◌++◌, length, vec_items}
use Rattle.hall.specs.Hall.{hall_log}
use Rattle.sheet.specs.Run.{left, number}
use Rattle.replay.specs.Replay.{lines_text, replay_text}
use Rattle.replay.proofs.replaying.run.Given as goal

-- what is shown, with the text of the lines that are left, is the whole text
abbrev pub invariant-loop-entry : goal.invariant-loop-entry
invariant-loop-entry l =
    vec_items l.shown ++ lines_text (number l.cursor) (left l.text l.cursor) (hall_log l.board)
    ≡ vec_items l.initial.shown ++ replay_text l.text

abbrev pub decreases-loop-entry : goal.decreases-loop-entry
decreases-loop-entry l = length (left l.text l.cursor)
