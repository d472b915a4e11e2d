-- Series of calls on a board, and the laws over them.
use Rattle.std.specs.Prelude.{◌≡◌, ℕ, List, [], ◌∷◌, map, Ok, Result}
use Rattle.std.specs.List.{AllByRecursion}
use Rattle.hall.specs.declared.board.Board.{Board}
use Rattle.hall.specs.declared.fault.BoardFault.{BoardFault}
use Rattle.hall.specs.Automaton.{starting, Run}
use Rattle.hall.specs.Hall.{hall_log, Called}
use Rattle.hall.specs.Job.{Config, hall_automaton, jobs_of, config_of}
use Rattle.hall.specs.Rules.{Call, enter, begin, finish, pass, log_after_all}

-- a call that was made: its arguments, its answer and the board that it left
pub record Made : Type 0 where
  pub call : Call
  pub answer : Result ℕ BoardFault
  pub board : Board

-- calls made one after another from board b on, each as its own contract says
abbrev pub Led : Board → List Made → Type 0
Led b [] = Unit {0}
Led b (m ∷ ms) = Called b m.call m.answer m.board × Led m.board ms

-- the board that they leave
abbrev pub left : Board → List Made → Board
left b [] = b
left b (m ∷ ms) = left m.board ms

-- the log is kept from the arguments of the calls alone, whatever was answered
abbrev pub KeptFromArguments : Board → Type 0
KeptFromArguments b =
    (ms : List Made) → Led b ms → hall_log (left b ms) ≡ log_after_all (hall_log b) (map (λ m. m.call) ms)

-- a call that was accepted
abbrev pub Accepted : Made → Type 0
Accepted m = (n : ℕ) × (m.answer ≡ Ok n)

-- a call that enters a vehicle, and one that does not
abbrev pub Enters : Call → Type 0
Enters (enter ss) = Unit {0}
Enters (begin v) = ⊥
Enters (finish v) = ⊥
Enters (pass m) = ⊥

abbrev pub Works : Call → Type 0
Works (enter ss) = ⊥
Works (begin v) = Unit {0}
Works (finish v) = Unit {0}
Works (pass m) = Unit {0}

-- the minutes that a call takes
abbrev pub duration_of : Call → ℕ
duration_of (enter ss) = 0
duration_of (begin v) = 0
duration_of (finish v) = 0
duration_of (pass m) = m

-- what a call is in a run: its minutes, and the configuration that it leads to
abbrev pub run_step : Made → ℕ × Config
run_step m = (duration_of m.call, config_of (hall_log m.board))

-- from configuration x, the calls make a run of the composition of the log's jobs
abbrev pub RunFrom : Board → Config → List Made → Type 0
RunFrom b x ms = Run (hall_automaton (jobs_of (hall_log b))) x (map run_step ms)

-- enter vehicles on board b: the composition of their jobs starts in the board's configuration. Then make calls of
-- begin, finish and pass that are all accepted: from there, the composition makes the same run
abbrev pub RunsAsComposed : Board → Type 0
RunsAsComposed b =
    (es ms : List Made) → Led b es → AllByRecursion (λ m. Enters m.call) es
    → Led (left b es) ms → AllByRecursion (λ m. Works m.call × Accepted m) ms
    → (config_of (hall_log (left b es)) ≡ starting (hall_automaton (jobs_of (hall_log (left b es)))))
    × RunFrom (left b es) (starting (hall_automaton (jobs_of (hall_log (left b es))))) ms
