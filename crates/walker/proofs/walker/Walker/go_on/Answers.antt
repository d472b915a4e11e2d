use Rattle.std.proofs.Common.{◌-◌, length, sym, ap, ◌∙◌}
use Rattle.plans.specs.Meanings.{hours_of, goal_of}
use Rattle.std.proofs.lemmas.Bool.{eqb-true}
use Rattle.walker.proofs.Visited.{visits_end}
use Rattle.walker.proofs.walker.Walker.go_on.Goals as goal

pub returns-then-is_empty-clause-walk : goal.returns-then-is_empty-clause-walk
returns-then-is_empty-clause-walk g c =
    let m = c.args.by.now.goal.now in
    let H = hours_of (g.H.Hours.permits c.args.by.now.hours.now) in
    let G = goal_of (g.G.Goal.starting m) (g.G.Goal.adding m) (g.G.Goal.no_worse m) in
    let none = eqb-true _ _ (sym c.is_empty.ensures ∙ c.if-is_empty.true) in
    sym (visits_end H G c.args.by.now.fleet.now c.loop.self (c.args.budget - c.loop.counter) (ap length (sym c.as_slice.ensures.items) ∙ none)) ∙ c.loop.invariant.3
