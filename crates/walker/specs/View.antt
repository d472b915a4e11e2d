-- What the code's positions and vehicles stand for in the walk over the hall log.
use Rattle.std.specs.Prelude.{◌≡◌, ℕ, ◌<◌, List, [], length, slice_index}
use Rattle.hall.specs.Log.{Log}
use Rattle.hall.specs.View.{steps_of}
use Rattle.hall.specs.declared.vehicle.Vehicle.{Vehicle}
use Rattle.plans.specs.declared.row.Row.{Row}
use Rattle.plans.specs.Steps.{fleet, count, station_of, length_of, progress_of}
use Rattle.plans.specs.Position.{Position as Place, root}
use Rattle.walker.specs.declared.position.Position.{Position}
use Rattle.walker.specs.Moves.{vehicle_in, step_in, begun_in, free_in}
use Rattle.walker.specs.Trail.{Due}

abbrev pub table : List ℕ → ℕ → ℕ
table xs i = slice_index xs i

abbrev pub place : (ℕ → ℕ) → (ℕ → ℕ) → (ℕ → ℕ) → ℕ → List Row → Place
place b v s c rs = record { begun = b; free_vehicle = v; free_station = s; clock = c; rows = rs }

-- the place of a position reached by the rows
abbrev pub view : Position → List Row → Place
view p rs = place (begun_in p) (free_in p) (table p.stations) p.clock rs

abbrev pub view_due : Due → Place
view_due d = view d.at d.rows

-- the arrays have their sizes
pub record Fits (p : Position) : Type 0 where
  pub vehicles : length p.vehicles ≡ 24
  pub stations : length p.stations ≡ 16

-- the records are the log's vehicles
pub record Tells (L : Log) (J : List Vehicle) : Type 0 where
  pub all : fleet L ≡ length J
  pub counts : (v : ℕ) → v < length J → count L v ≡ length (steps_of (vehicle_in J v))
  pub stations : (v k : ℕ) → v < length J → k < length (steps_of (vehicle_in J v)) → station_of L v k ≡ (step_in (vehicle_in J v) k).station
  pub lengths : (v k : ℕ) → v < length J → k < length (steps_of (vehicle_in J v)) → length_of L v k ≡ (step_in (vehicle_in J v) k).length
  pub progress : (v k : ℕ) → v < length J → k < length (steps_of (vehicle_in J v)) → progress_of L v k ≡ (step_in (vehicle_in J v) k).progress

-- the root position of the log
pub record RootOf (L : Log) (p : Position) : Type 0 where
  pub fits : Fits p
  pub is : view p [] ≡ root L
