-- What enter writes.
use Rattle.std.proofs.Common.{◌≡◌, ℕ, ◌+◌, ◌<◌, List, [], ◌∷◌, ◌++◌, map, length, take, set, ap, ◌∙◌}
use Rattle.std.proofs.lemmas.List.{take_more_set, map_push}
use Rattle.hall.specs.declared.step.Step.{Step}
use Rattle.hall.specs.declared.step.StepRecord.{StepRecord}
use Rattle.hall.specs.declared.vehicle.Vehicle.{Vehicle}
use Rattle.hall.specs.Log.{Log}
use Rattle.hall.specs.Rules.{enter_log, booked}
use Rattle.hall.specs.View.{steps_of, log_of}

-- the log at minute m of these vehicles
abbrev pub log : ℕ → List (List StepRecord) → Log
log m vs = record { minute = m; vehicles = vs }

-- one more record in the table is one more vehicle in the log
pub entered : (vs : List Vehicle) (n m : ℕ) (w : Vehicle) (ss : List Step) → n < length vs → steps_of w ≡ map booked ss
    → log_of (set vs n w) (n + 1) m ≡ enter_log (log_of vs n m) ss
entered vs n m w ss lt e =
    ap (log m) (ap (map steps_of) (take_more_set vs n w lt)
    ∙ (map_push steps_of (take n vs) w ∙ ap (λ r. map steps_of (take n vs) ++ (r ∷ [])) e))
