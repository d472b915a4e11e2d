use Rattle.std.proofs.Common.{◌≡◌, List}
use Rattle.plans.specs.declared.row.Row.{Row}
use Rattle.plans.specs.Meanings.{hours_of}
use Rattle.walker.specs.Trail.{children_from}
use Rattle.walker.proofs.trail.Frame.next_move.Given as goal

abbrev pub invariant-loop-v : goal.invariant-loop-v
invariant-loop-v g l =
    (rs : List Row)
    → children_from (hours_of (g.H.Hours.permits l.by.hours.now)).earliest l.by.fleet.now l.self.at rs l.self.next
    ≡ children_from (hours_of (g.H.Hours.permits l.by.hours.now)).earliest l.by.fleet.now l.self.at rs l.v
