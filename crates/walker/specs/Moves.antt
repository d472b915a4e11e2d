-- What the code's positions hold, and what a move writes into them.
use Rattle.std.specs.Prelude.{◌≡◌, ℕ, zero, suc, ◌+◌, ◌-◌, ◌<◌, ◌≤◌, max, Bool, List, [], length, None, Option, if◌then◌else◌, nat_lt, slice_index, slice_index_or, slice_set}
use Rattle.hall.specs.Log.{blank}
use Rattle.hall.specs.View.{steps_of}
use Rattle.hall.specs.declared.step.StepRecord.{StepRecord}
use Rattle.hall.specs.declared.vehicle.Vehicle.{Vehicle}
use Rattle.plans.specs.declared.row.Row.{Row}
use Rattle.walker.specs.declared.position.Position.{Position}
use Rattle.walker.specs.declared.position.Standing.{Standing}

-- the hours' answer: the least permitted begin on a station, from a minute on, for a length
abbrev pub Query : Type 0
Query = ℕ → ℕ → ℕ → Option ℕ

abbrev pub no_vehicle : Vehicle
no_vehicle = record { steps = record { items = []; rest = [] } }

abbrev pub vehicle_in : List Vehicle → ℕ → Vehicle
vehicle_in J v = slice_index_or J v no_vehicle

abbrev pub step_in : Vehicle → ℕ → StepRecord
step_in w k = slice_index_or (steps_of w) k blank

abbrev pub no_standing : Standing
no_standing = record { begun = 0; free = 0 }

-- where the vehicle stands: its begun steps, and the minute from which it is free
abbrev pub standing_in : Position → ℕ → Standing
standing_in p v = slice_index_or p.vehicles v no_standing

abbrev pub begun_in : Position → ℕ → ℕ
begun_in p v = (standing_in p v).begun

abbrev pub free_in : Position → ℕ → ℕ
free_in p v = (standing_in p v).free

-- the vehicle's next step
abbrev pub next_in : List Vehicle → Position → ℕ → StepRecord
next_in J p v = step_in (vehicle_in J v) (begun_in p v)

abbrev pub has_step : List Vehicle → Position → ℕ → Bool
has_step J p v = nat_lt (begun_in p v) (length (steps_of (vehicle_in J v)))

-- the minute from which a begin is sought
abbrev pub from_minute : List Vehicle → Position → ℕ → ℕ
from_minute J p v = max (max p.clock (free_in p v)) (slice_index p.stations (next_in J p v).station)

abbrev pub begin_in : Query → List Vehicle → Position → ℕ → Option ℕ
begin_in E J p v = if has_step J p v then E (next_in J p v).station (from_minute J p v) (next_in J p v).length else None

-- the position after the vehicle's next step begins at b
abbrev pub advanced : List Vehicle → Position → ℕ → ℕ → Position
advanced J p v b = record {
  vehicles = slice_set p.vehicles v (record { begun = begun_in p v + 1; free = b + (next_in J p v).length });
  stations = slice_set p.stations (next_in J p v).station (b + (next_in J p v).length);
  clock = b;
}

abbrev pub row_in : List Vehicle → Position → ℕ → ℕ → Row
row_in J p v b = record {
  vehicle = v;
  step = begun_in p v;
  station = (next_in J p v).station;
  begin = b;
  end = b + (next_in J p v).length;
}

-- the limits of the vehicles: at most 24, of at most 8 steps, on stations below 16
pub record RecordOk (w : Vehicle) : Type 0 where
  pub few : length (steps_of w) ≤ 8
  pub stations : (k : ℕ) → k < length (steps_of w) → (step_in w k).station < 16
  pub lengths : (k : ℕ) → k < length (steps_of w) → (step_in w k).length ≤ 1440

pub record FleetOk (J : List Vehicle) : Type 0 where
  pub few : length J ≤ 24
  pub each : (v : ℕ) → v < length J → RecordOk (vehicle_in J v)

pub record CanMove (J : List Vehicle) (p : Position) (v b : ℕ) : Type 0 where
  pub fleet : FleetOk J
  pub known : v < length J
  pub left : begun_in p v < length (steps_of (vehicle_in J v))
  pub ends : b + (next_in J p v).length ≤ 2000000

-- no minute of the position is above the limit
pub record Sane (p : Position) : Type 0 where
  pub clock : p.clock ≤ 2000000
  pub free : (v : ℕ) → free_in p v ≤ 2000000
  pub sized : length p.vehicles ≡ 24

-- the steps that the first n vehicles have left
abbrev pub steps_left : List Vehicle → Position → ℕ → ℕ
steps_left J p zero = 0
steps_left J p (suc n) = steps_left J p n + (length (steps_of (vehicle_in J n)) - begun_in p n)

-- no vehicle has begun more steps than it has
pub record BegunWithin (J : List Vehicle) (p : Position) : Type 0 where
  pub each : (v : ℕ) → v < length J → begun_in p v ≤ length (steps_of (vehicle_in J v))
  pub sized : length p.vehicles ≡ 24
