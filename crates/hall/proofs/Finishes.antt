-- What finish answers.
use Rattle.std.proofs.Common.{◌≡◌, ℕ, ◌+◌, ◌<◌, ◌≤◌, length, Ok, arith}
use Rattle.hall.specs.Log.{Log, vehicle_at, step_at, running_step, begin_of, least_time}
use Rattle.hall.specs.Rules.{finish_answer}

-- what is known of a finish that is accepted
pub record MayFinish (l : Log) (v n : ℕ) : Type 0 where
  pub known : v < length l.vehicles
  pub step : n ≡ running_step (vehicle_at l v)
  pub within : n < length (vehicle_at l v)
  pub late : begin_of (step_at l v n).progress + least_time (step_at l v n).length ≤ l.minute

pub may_finish : (l : Log) (v n : ℕ) → Ok n ≡ finish_answer l v → MayFinish l v n
may_finish l v n h = record { known = grind arith; step = grind arith; within = grind arith; late = grind arith }

-- and it is enough
pub finish_ok : (l : Log) (v n : ℕ) → MayFinish l v n → Ok n ≡ finish_answer l v
finish_ok l v n m = grind arith
