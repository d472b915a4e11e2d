-- What the board's table stands for.
use Rattle.std.specs.Prelude.{ℕ, List, map, take}
use Rattle.hall.specs.Log.{Log}
use Rattle.hall.specs.declared.step.StepRecord.{StepRecord}
use Rattle.hall.specs.declared.vehicle.Vehicle.{Vehicle}

-- the steps of a vehicle
abbrev pub steps_of : Vehicle → List StepRecord
steps_of v = v.steps.items

-- the log of a table of which the first records are vehicles
abbrev pub log_of : List Vehicle → ℕ → ℕ → Log
log_of vs count minute = record { minute = minute; vehicles = map steps_of (take count vs) }
