-- The hall log: a minute, which is now, and the steps of each vehicle with the begins and ends recorded of them.
use Rattle.std.specs.Prelude.{ℕ, Bool, true, false, not, ◌&&◌, List, [], ◌==◌, slice_index_or, slice_set}
use Rattle.std.specs.List.{list_any, position_or_len}
use Rattle.hall.specs.declared.step.Progress.{Progress}
use Rattle.hall.specs.declared.step.Progress.TheVariants.{Waiting, Running, Done}
use Rattle.hall.specs.declared.step.StepRecord.{StepRecord}

pub record Log : Type 0 where
  pub minute : ℕ
  pub vehicles : List (List StepRecord)

-- the log of a hall that opens: minute 0 and no vehicle
abbrev pub empty_log : Log
empty_log = record { minute = 0; vehicles = [] }

-- a step waits until it is begun
abbrev pub waiting : Progress → Bool
waiting Waiting = true
waiting (Running b) = false
waiting (Done b e) = false

-- it runs, and takes its station, from its begin until its end is recorded
abbrev pub running : Progress → Bool
running Waiting = false
running (Running b) = true
running (Done b e) = false

abbrev pub done : Progress → Bool
done Waiting = false
done (Running b) = false
done (Done b e) = true

-- the recorded begin, 0 where there is none
abbrev pub begin_of : Progress → ℕ
begin_of Waiting = 0
begin_of (Running b) = b
begin_of (Done b e) = b

-- the recorded end, 0 where there is none
abbrev pub end_of : Progress → ℕ
end_of Waiting = 0
end_of (Running b) = 0
end_of (Done b e) = e

abbrev pub finished : StepRecord → Bool
finished r = done r.progress

abbrev pub begun : StepRecord → Bool
begun r = not (waiting r.progress)

abbrev pub idle : StepRecord → Bool
idle r = not (running r.progress)

-- the least time that a step of this length has to run before it may be finished: its whole length
abbrev pub least_time : ℕ → ℕ
least_time length = length

-- the number of the vehicle's next step, which is the first that waits; the number of its steps where none is left
abbrev pub next_step : List StepRecord → ℕ
next_step rs = position_or_len (λ r. waiting r.progress) rs

-- the number of the vehicle's running step, or the number of its steps where none runs
abbrev pub running_step : List StepRecord → ℕ
running_step rs = position_or_len (λ r. running r.progress) rs

-- what is read past a vehicle's last step: a step that waits
abbrev pub blank : StepRecord
blank = record { station = 0; length = 0; progress = Waiting }

abbrev pub vehicle_at : Log → ℕ → List StepRecord
vehicle_at l v = slice_index_or l.vehicles v []

abbrev pub step_at : Log → ℕ → ℕ → StepRecord
step_at l v j = slice_index_or (vehicle_at l v) j blank

-- some step of the vehicle runs on the station
abbrev pub occupies : ℕ → List StepRecord → Bool
occupies s rs = list_any (λ r. running r.progress && r.station == s) rs

-- some step of a vehicle runs on the station
abbrev pub taken : ℕ → List (List StepRecord) → Bool
taken s vs = list_any (occupies s) vs

-- the step record with another progress
abbrev pub reached : StepRecord → Progress → StepRecord
reached r p = record { station = r.station; length = r.length; progress = p }

-- a vehicle's steps with another progress at step j
abbrev pub steps_with : List StepRecord → ℕ → Progress → List StepRecord
steps_with rs j p = slice_set rs j (reached (slice_index_or rs j blank) p)

-- the log with another progress at step j of vehicle v
abbrev pub marked : Log → ℕ → ℕ → Progress → Log
marked l v j p = record { minute = l.minute; vehicles = slice_set l.vehicles v (steps_with (vehicle_at l v) j p) }
