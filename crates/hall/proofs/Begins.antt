-- What begin answers.
use Rattle.std.proofs.Common.{◌≡◌, ℕ, ◌<◌, ◌≤◌, false, length, Ok, arith}
use Rattle.hall.specs.Log.{Log, vehicle_at, step_at, running_step, next_step, taken}
use Rattle.hall.specs.Rules.{begin_answer}

-- what is known of a begin that is accepted
pub record MayBegin (l : Log) (v n : ℕ) : Type 0 where
  pub known : v < length l.vehicles
  pub none_runs : length (vehicle_at l v) ≤ running_step (vehicle_at l v)
  pub next : n ≡ next_step (vehicle_at l v)
  pub left : n < length (vehicle_at l v)
  pub free : taken (step_at l v n).station l.vehicles ≡ false

pub may_begin : (l : Log) (v n : ℕ) → Ok n ≡ begin_answer l v → MayBegin l v n
may_begin l v n h = record { known = grind arith; none_runs = grind arith; next = grind arith; left = grind arith; free = grind arith }

-- and it is enough
pub begin_ok : (l : Log) (v n : ℕ) → MayBegin l v n → Ok n ≡ begin_answer l v
begin_ok l v n m = grind arith
