use Rattle.std.proofs.Common.{◌+◌, ◌++◌, sym, ap, ◌∙◌}
use Rattle.plans.specs.Meanings.{hours_of}
use Rattle.walker.specs.Trail.{child_by, children_from}
use Rattle.walker.proofs.Queries.{answer_ends}
use Rattle.walker.proofs.Children.{children_more, can_move}
use Rattle.walker.proofs.trail.Frame.next_move.Goals as goal

pub returns-in-Some : goal.returns-in-Some
returns-in-Some g c =
    let permits = g.H.Hours.permits c.args.by.now.hours.now in
    let E = (hours_of permits).earliest in
    let J = c.args.by.now.fleet.now in
    let p = c.args.self.now.at in
    let v = c.loop-v.v in
    let e = c.in-Some.ensures.value in
    record {
      found = (
        can_move E J p v c.in-Some.begin (answer_ends permits (g.met.H.Hours.limits c.args.by.now.hours.now)) c.args.by.now.ok c.loop-v-test.true (sym e),
        λ rs. c.loop-v.invariant rs ∙ children_more E J p rs v c.loop-v-test.true ∙ ap (λ o. child_by J p rs v o ++ children_from E J p rs (v + 1)) (sym e),
      );
    }

pub loop-v-preserved : goal.loop-v-preserved
loop-v-preserved g c =
    let E = (hours_of (g.H.Hours.permits c.args.by.now.hours.now)).earliest in
    let J = c.args.by.now.fleet.now in
    let p = c.args.self.now.at in
    let v = c.loop-v.v in
    let e = c.in_default.ensures.value in
    λ rs. c.loop-v.invariant rs ∙ children_more E J p rs v c.loop-v-test.true ∙ ap (λ o. child_by J p rs v o ++ children_from E J p rs (v + 1)) (sym e)
