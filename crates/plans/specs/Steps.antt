-- The steps of a hall log, by the number of the vehicle and the number of the step.
use Rattle.std.specs.Prelude.{◌≡◌, ℕ, ◌<◌, true, not, length}
use Rattle.hall.specs.Log.{Log, vehicle_at, step_at, waiting, running, done, next_step}
use Rattle.hall.specs.declared.step.Progress.{Progress}

-- how many vehicles there are, and how many steps a vehicle has
unfoldable pub fleet : Log → ℕ
fleet L = length L.vehicles

unfoldable pub count : Log → ℕ → ℕ
count L v = length (vehicle_at L v)

-- step k of vehicle v is a step of the log
pub record IsStep (L : Log) (v k : ℕ) : Type 0 where
  pub known : v < fleet L
  pub within : k < count L v

unfoldable pub station_of : Log → ℕ → ℕ → ℕ
station_of L v k = (step_at L v k).station

unfoldable pub length_of : Log → ℕ → ℕ → ℕ
length_of L v k = (step_at L v k).length

unfoldable pub progress_of : Log → ℕ → ℕ → Progress
progress_of L v k = (step_at L v k).progress

-- a step is begun, and then it runs or it is finished
abbrev pub Begun : Progress → Type 0
Begun p = not (waiting p) ≡ true

abbrev pub Runs : Progress → Type 0
Runs p = running p ≡ true

abbrev pub Finished : Progress → Type 0
Finished p = done p ≡ true

-- how many steps of a vehicle are begun: they stand in front of its next step
unfoldable pub begun_of : Log → ℕ → ℕ
begun_of L v = next_step (vehicle_at L v)
