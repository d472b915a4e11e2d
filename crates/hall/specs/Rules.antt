-- The rules of the four calls, by the hall log alone: what each call answers, and what it writes into the log.
use Rattle.std.specs.Prelude.{ℕ, ◌+◌, if◌then◌else◌, List, [], ◌∷◌, ◌++◌, map, length, Some, None, Ok, Err, fold, Option, Result, nat_le, nat_lt}
use Rattle.hall.specs.Log.{Log, vehicle_at, step_at, marked, next_step, running_step, taken, begin_of, least_time}
use Rattle.hall.specs.declared.fault.BoardFault.{BoardFault}
use Rattle.hall.specs.declared.fault.BoardFault.TheVariants.{VehicleUnknown, StepRuns, NoStepLeft, StationTaken, NoStepRuns, TooEarly, MinutesOutside, BeyondLastMinute, BoardFull, StepCount, StationUnknown, LengthOutside}
use Rattle.hall.specs.declared.step.Progress.TheVariants.{Waiting, Running, Done}
use Rattle.hall.specs.declared.step.Step.{Step}
use Rattle.hall.specs.declared.step.StepRecord.{StepRecord}

-- a call of the board with its arguments
pub data Call : Type 0 where
  enter : List Step → Call
  begin : ℕ → Call
  finish : ℕ → Call
  pass : ℕ → Call

-- begin answers the number of the vehicle's next step
abbrev pub begin_answer : Log → ℕ → Result ℕ BoardFault
begin_answer l v =
    if nat_le (length l.vehicles) v then Err VehicleUnknown
    else if nat_lt (running_step (vehicle_at l v)) (length (vehicle_at l v)) then Err StepRuns
    else if nat_le (length (vehicle_at l v)) (next_step (vehicle_at l v)) then Err NoStepLeft
    else if taken (step_at l v (next_step (vehicle_at l v))).station l.vehicles then Err StationTaken
    else Ok (next_step (vehicle_at l v))

-- and writes now as the begin of that step
abbrev pub begin_log : Log → ℕ → Log
begin_log l v = marked l v (next_step (vehicle_at l v)) (Running l.minute)

-- the begin and the length of the vehicle's running step
abbrev pub running_begin : Log → ℕ → ℕ
running_begin l v = begin_of (step_at l v (running_step (vehicle_at l v))).progress

abbrev pub running_length : Log → ℕ → ℕ
running_length l v = (step_at l v (running_step (vehicle_at l v))).length

-- finish answers the number of the vehicle's running step
abbrev pub finish_answer : Log → ℕ → Result ℕ BoardFault
finish_answer l v =
    if nat_le (length l.vehicles) v then Err VehicleUnknown
    else if nat_le (length (vehicle_at l v)) (running_step (vehicle_at l v)) then Err NoStepRuns
    else if nat_lt l.minute (running_begin l v + least_time (running_length l v)) then Err TooEarly
    else Ok (running_step (vehicle_at l v))

-- and writes now as the end of that step
abbrev pub finish_log : Log → ℕ → Log
finish_log l v = marked l v (running_step (vehicle_at l v)) (Done (running_begin l v) l.minute)

-- pass answers the new minute
abbrev pub pass_answer : Log → ℕ → Result ℕ BoardFault
pass_answer l m =
    if nat_lt m 1 then Err MinutesOutside
    else if nat_lt 1440 m then Err MinutesOutside
    else if nat_lt 1000000 (l.minute + m) then Err BeyondLastMinute
    else Ok (l.minute + m)

abbrev pub pass_log : Log → ℕ → Log
pass_log l m = record { minute = l.minute + m; vehicles = l.vehicles }

-- the first fault of a booking's steps, which are numbered from k on
abbrev pub step_fault : ℕ → List Step → Option BoardFault
step_fault k [] = None
step_fault k (s ∷ ss) =
    if nat_lt 15 s.station then Some (StationUnknown k)
    else if nat_lt s.length 1 then Some (LengthOutside k)
    else if nat_lt 1440 s.length then Some (LengthOutside k)
    else step_fault (k + 1) ss

-- the answer, unless there is a fault
abbrev pub unless : {A : Type 0} → Option BoardFault → A → Result A BoardFault
unless None n = Ok n
unless (Some e) n = Err e

-- enter answers the number of the new vehicle
abbrev pub enter_answer : Log → List Step → Result ℕ BoardFault
enter_answer l ss =
    if nat_le 24 (length l.vehicles) then Err BoardFull
    else if nat_lt (length ss) 1 then Err StepCount
    else if nat_lt 8 (length ss) then Err StepCount
    else unless (step_fault 0 ss) (length l.vehicles)

-- a booked step as it is entered
abbrev pub booked : Step → StepRecord
booked s = record { station = s.station; length = s.length; progress = Waiting }

-- and adds the vehicle, no step of it begun
abbrev pub enter_log : Log → List Step → Log
enter_log l ss = record { minute = l.minute; vehicles = l.vehicles ++ (map booked ss ∷ []) }

-- what a call answers on a hall with this log
abbrev pub answer_to : Log → Call → Result ℕ BoardFault
answer_to l (enter ss) = enter_answer l ss
answer_to l (begin v) = begin_answer l v
answer_to l (finish v) = finish_answer l v
answer_to l (pass m) = pass_answer l m

-- what a call that is accepted writes
abbrev pub written : Log → Call → Log
written l (enter ss) = enter_log l ss
written l (begin v) = begin_log l v
written l (finish v) = finish_log l v
written l (pass m) = pass_log l m

-- a call that is refused writes nothing
abbrev pub after : {E : Type 0} → Result ℕ E → Log → Log → Log
after (Ok n) new old = new
after (Err e) new old = old

-- the log after a call
abbrev pub log_after : Log → Call → Log
log_after l c = after (answer_to l c) (written l c) l

-- the log after a series of calls: it is kept from their arguments alone
abbrev pub log_after_all : Log → List Call → Log
log_after_all l cs = fold log_after l cs
