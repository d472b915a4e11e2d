use Rattle.std.proofs.Common.{◌+◌, length, Some, sym, ap, ◌∙◌, refl, arith}
use Rattle.plans.specs.Meanings.{hours_of, goal_of}
use Rattle.walker.proofs.Visited.{step_dropped, step_recorded, step_opened, leaf_below, leaf_at}
use Rattle.walker.proofs.walker.Walker.decide.Goals as goal

pub returns-then-beats-clause-step : goal.returns-then-beats-clause-step
returns-then-beats-clause-step g c =
    let m = c.args.by.now.goal.now in
    let G = goal_of (g.G.Goal.starting m) (g.G.Goal.adding m) (g.G.Goal.no_worse m) in
    step_dropped (hours_of (g.H.Hours.permits c.args.by.now.hours.now)) G c.args.by.now.fleet.now c.args.self.now _
    c.requires.some c.requires.ok.trail refl _ _ c.top.ensures.value c.bound-bound.ensures.value
    c.pop.ensures.value refl (sym c.beats.ensures.value ∙ c.if-beats.true)

pub returns-then-as_slice-self-clause-step : goal.returns-then-as_slice-self-clause-step
returns-then-as_slice-self-clause-step g c =
    let J = c.args.by.now.fleet.now in
    let w = c.args.self.now in
    let m = c.args.by.now.goal.now in
    let G = goal_of (g.G.Goal.starting m) (g.G.Goal.adding m) (g.G.Goal.no_worse m) in
    step_opened (hours_of (g.H.Hours.permits c.args.by.now.hours.now)) G J w _
    c.requires.some c.requires.ok.trail refl _ _ c.top.ensures.value c.bound-bound.ensures.value
    c.open.ensures.value refl (sym c.beats.ensures.value ∙ c.if-beats.false)
    (leaf_below J w.trail c.requires.ok.trail c.requires.some (omega (arith, ap length c.as_slice.ensures.items)))

pub returns-clause-step : goal.returns-clause-step
returns-clause-step g c =
    let J = c.args.by.now.fleet.now in
    let w = c.args.self.now in
    let m = c.args.by.now.goal.now in
    let G = goal_of (g.G.Goal.starting m) (g.G.Goal.adding m) (g.G.Goal.no_worse m) in
    step_recorded (hours_of (g.H.Hours.permits c.args.by.now.hours.now)) G J w
    (record { trail = c.pop-2.new.self; best = Some (record { score = c.bound-bound.result; rows = w.trail.path }); visits = w.visits + 1 })
    c.requires.some c.requires.ok.trail refl _ _ c.top.ensures.value c.bound-bound.ensures.value
    c.pop-2.ensures.value refl (sym c.beats.ensures.value ∙ c.if-beats.false)
    (leaf_at J w.trail c.requires.ok.trail c.requires.some (omega (arith, ap length c.as_slice.ensures.items)))
