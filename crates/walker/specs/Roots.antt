-- The root position as the code makes it, vehicle by vehicle.
use Rattle.std.specs.Prelude.{ℕ, zero, suc, ◌-◌, ◌<◌, ◌≤◌, max, List, length, replicate, if◌then◌else◌, nat_lt, slice_index, slice_set}
use Rattle.hall.specs.Log.{Log, begin_of}
use Rattle.hall.specs.View.{steps_of}
use Rattle.hall.specs.declared.vehicle.Vehicle.{Vehicle}
use Rattle.plans.specs.Steps.{begun_of}
use Rattle.plans.specs.Plan.{end_by}
use Rattle.plans.specs.Position.{runs_until}
use Rattle.walker.specs.declared.position.Position.{Position}
use Rattle.walker.specs.Moves.{vehicle_in, step_in, no_standing, free_in, RecordOk}

-- the position with vehicle v added, of whose steps k are begun
abbrev pub stood : ℕ → Vehicle → ℕ → ℕ → Position → Position
stood now w v k p =
    if nat_lt 0 k
    then record {
      vehicles = slice_set p.vehicles v (record { begun = k; free = end_by now (step_in w (k - 1)).length (step_in w (k - 1)).progress });
      stations = slice_set p.stations (step_in w (k - 1)).station
          (max (slice_index p.stations (step_in w (k - 1)).station) (runs_until now (step_in w (k - 1)).length (step_in w (k - 1)).progress));
      clock = p.clock;
    }
    else record { vehicles = slice_set p.vehicles v (record { begun = k; free = free_in p v }); stations = p.stations; clock = p.clock }

abbrev pub bare : ℕ → Position
bare now = record { vehicles = replicate 24 no_standing; stations = replicate 16 0; clock = now }

abbrev pub stood_upto : Log → List Vehicle → ℕ → Position
stood_upto L J zero = bare L.minute
stood_upto L J (suc n) = stood L.minute (vehicle_in J n) n (begun_of L n) (stood_upto L J n)

-- no recorded begin is late
pub record Past (now : ℕ) (w : Vehicle) : Type 0 where
  pub low : now ≤ 1000000
  pub ok : RecordOk w
  pub begins : (k : ℕ) → k < length (steps_of w) → begin_of (step_in w k).progress ≤ 1000000
