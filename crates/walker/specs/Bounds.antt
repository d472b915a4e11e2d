-- The finishes that the bound of a position scores.
use Rattle.std.specs.Prelude.{ℕ, ◌+◌, max, List, map, length, drop, sum_by, if◌then◌else◌, nat_lt}
use Rattle.std.specs.List.{range_with_len}
use Rattle.goals.specs.Finishes.{scored}
use Rattle.hall.specs.View.{steps_of}
use Rattle.hall.specs.declared.step.StepRecord.{StepRecord}
use Rattle.hall.specs.declared.vehicle.Vehicle.{Vehicle}
use Rattle.plans.specs.Meanings.{Goal}
use Rattle.walker.specs.declared.position.Position.{Position}
use Rattle.walker.specs.Moves.{vehicle_in, begun_in, free_in}

-- the lengths of steps together
abbrev pub total_length : List StepRecord → ℕ
total_length steps = sum_by (λ (s : StepRecord). s.length) steps

-- the lengths of the vehicle's steps from k on
abbrev pub lengths_left : Vehicle → ℕ → ℕ
lengths_left w k = total_length (drop k (steps_of w))

-- the least minute at which vehicle v, which is w, can finish
abbrev pub finish_by : Vehicle → Position → ℕ → ℕ
finish_by w p v =
    if nat_lt (begun_in p v) (length (steps_of w))
    then max p.clock (free_in p v) + lengths_left w (begun_in p v)
    else free_in p v

abbrev pub finish_in : List Vehicle → Position → ℕ → ℕ
finish_in J p v = finish_by (vehicle_in J v) p v

abbrev pub bound_in : {S : Type 0} → Goal S → List Vehicle → Position → S
bound_in G J p = scored G.add G.start (map (finish_in J p) (range_with_len 0 (length J)))
