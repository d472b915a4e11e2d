use Rattle.std.proofs.Common.{◌≡◌, ◌+◌, ◌-◌}
use Rattle.plans.specs.Meanings.{hours_of, goal_of}
use Rattle.walker.specs.Visits.{WalkerOk, stage_of, visits_of}
use Rattle.walker.proofs.walker.Walker.go_on.Given as goal

abbrev pub invariant-loop : goal.invariant-loop
invariant-loop g l =
    let H = hours_of (g.H.Hours.permits l.by.hours.now) in
    let G = goal_of (g.G.Goal.starting l.by.goal.now) (g.G.Goal.adding l.by.goal.now) (g.G.Goal.no_worse l.by.goal.now) in
    WalkerOk l.by.fleet.now l.self
    × (l.self.visits ≡ l.initial.self.visits + l.counter)
    × (l.self.trail.steps ≡ l.initial.self.trail.steps)
    × (visits_of H G l.by.fleet.now (l.budget - l.counter) (stage_of H l.by.fleet.now l.self) ≡ visits_of H G l.by.fleet.now l.budget (stage_of H l.by.fleet.now l.initial.self))
