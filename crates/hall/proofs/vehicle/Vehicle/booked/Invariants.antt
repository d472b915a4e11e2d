use Rattle.std.proofs.Common.{◌≡◌, map, take}
use Rattle.hall.specs.Rules.{booked}
use Rattle.hall.proofs.vehicle.Vehicle.booked.Given as goal

-- the steps before this one are booked
abbrev pub invariant-loop-step : goal.invariant-loop-step
invariant-loop-step l = l.list.items ≡ map booked (take l.step-index l.steps)
