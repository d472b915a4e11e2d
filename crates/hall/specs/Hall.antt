-- The hall log that a board stands for, and what a call promises of board and log.
use Rattle.std.specs.Prelude.{◌≡◌, ℕ, List, take, IfErr, Result}
use Rattle.hall.specs.Log.{Log}
use Rattle.hall.specs.Rules.{Call, answer_to, log_after}
use Rattle.hall.specs.View.{log_of}
use Rattle.hall.specs.declared.board.Board.{Board}
use Rattle.hall.specs.declared.vehicle.Vehicle.{Vehicle}
use Rattle.hall.specs.declared.fault.BoardFault.{BoardFault}

abbrev pub hall_log : Board → Log
hall_log b = log_of b.vehicles b.count b.minute

-- the records of the vehicles in the hall, in the order of their numbers
abbrev pub fleet_of : Board → List Vehicle
fleet_of b = take b.count b.vehicles

-- a call on board b answered r and left board b': it answered what was due, the log is the one that was due, and where
-- it refused, the whole board is as it was
pub record Answered {E : Type 0} (b : Board) (answer_due : Result ℕ E) (log_due : Log) (r : Result ℕ E) (b' : Board) : Type 0 where
  pub answer : r ≡ answer_due
  pub log : hall_log b' ≡ log_due
  pub unchanged : IfErr r (λ _. b' ≡ b)

-- a call of the board does what the rules make of it
abbrev pub Called : Board → Call → Result ℕ BoardFault → Board → Type 0
Called b c r b' = Answered b (answer_to (hall_log b) c) (log_after (hall_log b) c) r b'
