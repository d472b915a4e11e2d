-- A vehicle's job as a timed automaton with one clock, the composition of the jobs in the hall, and its steps.
use Rattle.std.specs.Prelude.{◌≡◌, ℕ, ◌+◌, ◌-◌, ◌<◌, ◌≤◌, true, false, if◌then◌else◌, ◌⊎◌, List, map, length, Some, None, Option, Result, MatchResult, nat_le, nat_lt, slice_index_or}
use Rattle.hall.specs.declared.fault.BoardFault.{BoardFault}
use Rattle.hall.specs.declared.step.Step.{Step}
use Rattle.hall.specs.declared.step.StepRecord.{StepRecord}
use Rattle.hall.specs.Automaton.{Transition, Automaton, Configuration, Discrete, Elapses}
use Rattle.hall.specs.Composition.{composition}
use Rattle.hall.specs.Log.{Log, vehicle_at, blank, next_step, running_step, begin_of, least_time}

-- a state of a job: it waits for step j, or runs it, or all is done. States go by the step's number, so that a
-- vehicle may come to one station more than once
pub data Place : Type 0 where
  waits : ℕ → Place
  runs : ℕ → Place
  final : Place

-- the state of a job of k steps before its step j
abbrev pub before : ℕ → ℕ → Place
before k j = if nat_lt j k then waits j else final

-- step j of a job; past its last there is none
abbrev pub step_of : List Step → ℕ → Step
step_of ss j = slice_index_or ss j (record { station = 0; length = 0 })

-- to begin step j is always allowed, and resets the clock
abbrev pub beginning : ℕ → Transition Place (Unit {0})
beginning j = record { from = waits j; guard = λ clock. true; resets = λ c. true; to = runs j }

-- to finish it is allowed once the clock has reached the step's least time
abbrev pub finishing : List Step → ℕ → Transition Place (Unit {0})
finishing ss j = record {
  from = runs j;
  guard = λ clock. nat_le (least_time (step_of ss j).length) (clock tt);
  resets = λ c. false;
  to = before (length ss) (j + 1);
}

pub record JobHas (ss : List Step) (m : Transition Place (Unit {0})) : Type 0 where
  pub step : ℕ
  pub within : step < length ss
  pub which : (m ≡ beginning step) ⊎ (m ≡ finishing ss step)

abbrev pub job : List Step → Automaton Place (Unit {0})
job ss = record { start = before (length ss) 0; final = final; Has = JobHas ss }

-- a job uses the station of the step that it runs
abbrev pub station : List Step → Place → Option ℕ
station ss (waits j) = None
station ss (runs j) = Some (step_of ss j).station
station ss final = None

-- the composition of the hall's jobs; a vehicle that is not there has no steps, and its job no transition
abbrev pub hall_automaton : (ℕ → List Step) → Automaton (ℕ → Place) (ℕ × Unit {0})
hall_automaton jobs = composition (λ v. job (jobs v)) (λ v. station (jobs v))

abbrev pub Config : Type 0
Config = Configuration (ℕ → Place) (ℕ × Unit {0})

-- the jobs in a hall log
abbrev pub booking_of : StepRecord → Step
booking_of r = record { station = r.station; length = r.length }

abbrev pub jobs_of : Log → ℕ → List Step
jobs_of l v = map booking_of (vehicle_at l v)

-- a vehicle with a running step runs it; any other waits for its next step, or has none left
abbrev pub place_of : List StepRecord → Place
place_of rs = if nat_lt (running_step rs) (length rs) then runs (running_step rs) else before (length rs) (next_step rs)

-- when the vehicle last began a step, 0 where it has not
abbrev pub last_begin : List StepRecord → ℕ
last_begin rs = begin_of (slice_index_or rs (next_step rs - 1) blank).progress

-- its clock has counted from there
abbrev pub clock_of : ℕ → List StepRecord → ℕ
clock_of minute rs = minute - last_begin rs

-- the configuration of the composition that a log stands for
abbrev pub config_of : Log → Config
config_of l = record { state = λ v. place_of (vehicle_at l v); clocks = λ d. clock_of l.minute (vehicle_at l d.0) }

-- from the log's configuration the composition has a discrete step to y in which vehicle v begins its step n. It may
-- do so in the minute in which another step ends: a step takes no time
pub record Begins (l : Log) (v n : ℕ) (y : Config) : Type 0 where
  pub step : Discrete (hall_automaton (jobs_of l)) (config_of l) y
  pub waited : (config_of l).state v ≡ waits n
  pub started : y.state v ≡ runs n

-- one in which vehicle v finishes its step n
pub record Finishes (l : Log) (v n : ℕ) (y : Config) : Type 0 where
  pub step : Discrete (hall_automaton (jobs_of l)) (config_of l) y
  pub ran : (config_of l).state v ≡ runs n
  pub went_on : y.state v ≡ before (length (jobs_of l v)) (n + 1)

-- a time step of m minutes to y, at minute n; it is limited to 1 to 1,440 minutes, and ends by minute 1,000,000
pub record Passes (l : Log) (m n : ℕ) (y : Config) : Type 0 where
  pub step : Elapses m (config_of l) y
  pub some : 1 ≤ m
  pub most : m ≤ 1440
  pub ends : n ≡ l.minute + m
  pub day : n ≤ 1000000

-- a call that answered r and left the configuration y: it was accepted exactly where there is such a step, and y is
-- the step's target
abbrev pub Exactly : (ℕ → Config → Type 0) → Result ℕ BoardFault → Config → Type 0
Exactly Takes r y = MatchResult r (λ n. Takes n y) (λ _. (n : ℕ) (z : Config) → Takes n z → ⊥)
