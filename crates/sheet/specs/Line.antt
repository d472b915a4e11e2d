-- What a line of a sheet does on the board.
use Rattle.std.specs.Prelude.{ℕ, List, Ok, Err, Result}
use Rattle.std.specs.Result.{result_map_both}
use Rattle.hall.specs.declared.board.Board.{Board}
use Rattle.hall.specs.declared.fault.BoardFault.{BoardFault}
use Rattle.hall.specs.Faults.{field_of}
use Rattle.hall.specs.Hall.{hall_log, Answered}
use Rattle.hall.specs.Log.{Log}
use Rattle.hall.specs.Rules.{Call, answer_to, log_after}
use Rattle.text.specs.Split.{parted}
use Rattle.sheet.specs.declared.fault.LineFault.{LineFault}
use Rattle.sheet.specs.declared.fault.LineFault.TheVariants as fault
use Rattle.sheet.specs.Reading.{offset_of, reading_of}

-- the board's answer, with a fault put at the byte offset of its field
abbrev pub placed_of : List (List ℕ) → Result ℕ BoardFault → Result ℕ LineFault
placed_of fs r = result_map_both (λ n. n) (λ e. fault.Board e (offset_of fs (field_of e))) r

-- what a line with these fields answers, once it is read
abbrev pub answer_read : Log → List (List ℕ) → Result Call LineFault → Result ℕ LineFault
answer_read l fs (Ok c) = placed_of fs (answer_to l c)
answer_read l fs (Err f) = Err f

-- the log after it
abbrev pub log_read : Log → Result Call LineFault → Log
log_read l (Ok c) = log_after l c
log_read l (Err f) = l

-- what a line answers on a hall with this log
abbrev pub line_answer : Log → List ℕ → Result ℕ LineFault
line_answer l bs = answer_read l (parted 9 bs) (reading_of bs)

-- the log after a line: one that cannot be read writes nothing
abbrev pub line_log : Log → List ℕ → Log
line_log l bs = log_read l (reading_of bs)

-- a line that is run on board b answered r and left board b'
abbrev pub LineCalled : Board → List ℕ → Result ℕ LineFault → Board → Type 0
LineCalled b bs r b' = Answered b (line_answer (hall_log b) bs) (line_log (hall_log b) bs) r b'
