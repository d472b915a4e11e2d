-- What the code answers of where the walk stands.
use Rattle.std.specs.Prelude.{if◌then◌else◌, List, ◌++◌, length, drop, Some, None, Option, ◌==◌}
use Rattle.plans.specs.declared.answer.Outcome.{Outcome}
use Rattle.plans.specs.declared.answer.Outcome.TheVariants.{Best, NoPlan, UnfinishedWith, UnfinishedWithout}
use Rattle.plans.specs.declared.row.Row.{Row}
use Rattle.walker.specs.declared.walker.Walker.{Walker}
use Rattle.walker.specs.Visits.{Held, held_in, score_held}

abbrev pub ended : {S : Type 0} → Option S → Outcome S
ended None = NoPlan
ended (Some s) = Best s

abbrev pub unended : {S : Type 0} → Option S → Outcome S
unended None = UnfinishedWithout
unended (Some s) = UnfinishedWith s

abbrev pub outcome_in : {S : Type 0} → Walker S → Outcome S
outcome_in w = if length w.trail.frames.items == 0 then ended (score_held (held_in w)) else unended (score_held (held_in w))

-- the rows of the plan held stand in front; without a plan nothing is written
abbrev pub written_by : {S : Type 0} → Option (Held S) → List Row → List Row
written_by None out = out
written_by (Some h) out = h.rows ++ drop (length h.rows) out
