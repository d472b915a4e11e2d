use Rattle.std.proofs.Common.{◌≡◌, length}
use Rattle.plans.specs.Meanings.{hours_of}
use Rattle.walker.specs.Trail.{due_left, TrailOk}
use Rattle.walker.proofs.trail.Trail.settle.Given as goal

abbrev pub invariant-loop-top : goal.invariant-loop-top
invariant-loop-top g l =
    let E = (hours_of (g.H.Hours.permits l.by.hours.now)).earliest in
    TrailOk l.by.fleet.now l.self
    × (l.self.steps ≡ l.initial.self.steps)
    × (due_left E l.by.fleet.now l.self ≡ due_left E l.by.fleet.now l.initial.self)

abbrev pub decreases-loop-top : goal.decreases-loop-top
decreases-loop-top g l = length l.self.frames.items
