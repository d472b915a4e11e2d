-- The board's refusals: for each case its number, and the field of the call that it is about.
-- Field 0 is the call itself; its arguments are counted from 1, the steps of a booking by two fields each.
use Rattle.std.specs.Prelude.{ℕ, ◌+◌, ◌*◌}
use Rattle.hall.specs.declared.fault.BoardFault.{BoardFault}
use Rattle.hall.specs.declared.fault.BoardFault.TheVariants.{VehicleUnknown, StepRuns, NoStepLeft, StationTaken, NoStepRuns, TooEarly, MinutesOutside, BeyondLastMinute, BoardFull, StepCount, StationUnknown, LengthOutside}

abbrev pub refusal_of : BoardFault → ℕ
refusal_of VehicleUnknown = 10
refusal_of StepRuns = 11
refusal_of NoStepLeft = 12
refusal_of StationTaken = 13
refusal_of NoStepRuns = 14
refusal_of TooEarly = 15
refusal_of MinutesOutside = 16
refusal_of BeyondLastMinute = 17
refusal_of BoardFull = 20
refusal_of StepCount = 21
refusal_of (StationUnknown k) = 22
refusal_of (LengthOutside k) = 23

abbrev pub field_of : BoardFault → ℕ
field_of VehicleUnknown = 1
field_of StepRuns = 1
field_of NoStepLeft = 1
field_of StationTaken = 1
field_of NoStepRuns = 1
field_of TooEarly = 1
field_of MinutesOutside = 1
field_of BeyondLastMinute = 1
field_of BoardFull = 0
field_of StepCount = 0
field_of (StationUnknown k) = 1 + 2 * k
field_of (LengthOutside k) = 2 + 2 * k
