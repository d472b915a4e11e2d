-- The code's walk stands for a state of the walk over positions.
use Rattle.std.specs.Prelude.{option_map, ◌≡◌, map}
use Rattle.std.specs.List.{AllByRecursion}
use Rattle.hall.specs.Log.{Log}
use Rattle.plans.specs.Meanings.{Goal}
use Rattle.plans.specs.Position.{Position as Place, bound}
use Rattle.plans.specs.Walk.{State}
use Rattle.walker.specs.Trail.{Due}
use Rattle.walker.specs.View.{view_due, Fits}
use Rattle.walker.specs.Visits.{Held, Stage}

-- the plan held at a position that ends it
abbrev pub held_at : {S : Type 0} → Goal S → Log → Place → Held S
held_at G L Q = record { score = bound G L Q; rows = Q.rows }

-- what the code holds due, held and counted is a state of the walk
pub record Sees {S : Type 0} (G : Goal S) (L : Log) (s : Stage S) (w : State) : Type 0 where
  pub due : map view_due s.due ≡ w.due
  pub best : s.best ≡ option_map (held_at G L) w.best
  pub made : s.made ≡ w.visits
  pub fit : AllByRecursion (λ (d : Due). Fits d.at) s.due
