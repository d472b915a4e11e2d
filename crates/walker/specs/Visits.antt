-- One visit, k visits, and the state of the walk that a walker stands for.
use Rattle.std.specs.Prelude.{ℕ, zero, suc, ◌+◌, ◌≤◌, if◌then◌else◌, List, [], ◌∷◌, ◌++◌, length, Some, Option, option_map, ◌==◌}
use Rattle.std.specs.Option.{ForSome}
use Rattle.walk.specs.Held.{beats}
use Rattle.hall.specs.declared.vehicle.Vehicle.{Vehicle}
use Rattle.plans.specs.declared.row.Row.{Row}
use Rattle.plans.specs.Meanings.{Hours, Goal}
use Rattle.walker.specs.declared.walker.ScoredPlan.{ScoredPlan}
use Rattle.walker.specs.declared.walker.Walker.{Walker}
use Rattle.walker.specs.Moves.{steps_left}
use Rattle.walker.specs.Bounds.{bound_in}
use Rattle.walker.specs.Trail.{Due, children_from, due_of, due_left, TrailOk}

-- a plan held, with its score
pub record Held (S : Type 0) : Type 0 where
  pub score : S
  pub rows : List Row

-- the positions due, first come first, the best plan held, and the visits made
pub record Stage (S : Type 0) : Type 0 where
  pub due : List Due
  pub best : Option (Held S)
  pub made : ℕ

abbrev pub stage : {S : Type 0} → List Due → Option (Held S) → ℕ → Stage S
stage ds h n = record { due = ds; best = h; made = n }

abbrev pub score_held : {S : Type 0} → Option (Held S) → Option S
score_held h = option_map (λ x. x.score) h

abbrev pub visit_top : {S : Type 0} → Hours → Goal S → List Vehicle → Due → List Due → Option (Held S) → ℕ → Stage S
visit_top H G J d ds h n =
    if beats G.no_worse (score_held h) (bound_in G J d.at) then stage ds h (n + 1)
    else (if steps_left J d.at (length J) == 0 then stage ds (Some (record { score = bound_in G J d.at; rows = d.rows })) (n + 1)
    else stage (children_from H.earliest J d.at d.rows 0 ++ ds) h (n + 1))

abbrev pub visit_due : {S : Type 0} → Hours → Goal S → List Vehicle → List Due → Option (Held S) → ℕ → Stage S
visit_due H G J [] h n = stage [] h n
visit_due H G J (d ∷ ds) h n = visit_top H G J d ds h n

-- the first due position is visited
abbrev pub visit_once : {S : Type 0} → Hours → Goal S → List Vehicle → Stage S → Stage S
visit_once H G J s = visit_due H G J s.due s.best s.made

abbrev pub visits_of : {S : Type 0} → Hours → Goal S → List Vehicle → ℕ → Stage S → Stage S
visits_of H G J zero s = s
visits_of H G J (suc k) s = visits_of H G J k (visit_once H G J s)

-- what a plan in the code is: its score, and its rows
abbrev pub held_of : {S : Type 0} → ScoredPlan S → Held S
held_of p = record { score = p.score; rows = p.rows.items }

abbrev pub held_in : {S : Type 0} → Walker S → Option (Held S)
held_in w = option_map held_of w.best

abbrev pub stage_of : {S : Type 0} → Hours → List Vehicle → Walker S → Stage S
stage_of H J w = stage (due_of H.earliest J w.trail) (held_in w) w.visits

-- the same where the top frame is visited
abbrev pub stage_left : {S : Type 0} → Hours → List Vehicle → Walker S → Stage S
stage_left H J w = stage (due_left H.earliest J w.trail) (held_in w) w.visits

-- the trail is in order, and the plan held has a row for no more than the steps to begin
pub record WalkerOk {S : Type 0} (J : List Vehicle) (w : Walker S) : Type 0 where
  pub trail : TrailOk J w.trail
  pub fits : ForSome w.best (λ p. length p.rows.items ≤ w.trail.steps)
