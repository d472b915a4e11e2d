use Rattle.std.proofs.Common.{Some, None, ◌∙◌, arith}
use Rattle.plans.specs.Meanings.{hours_of}
use Rattle.walker.proofs.Trails.{due_pushed, below_popped, found_top, room, popped_ok, pushed_ok}
use Rattle.walker.proofs.trail.Trail.settle.Goals as goal

pub push-requires-clause-frames : goal.push-requires-clause-frames
push-requires-clause-frames g c =
    let E = (hours_of (g.H.Hours.permits c.args.by.now.hours.now)).earliest in
    let J = c.args.by.now.fleet.now in
    let s = c.loop-top.self in
    let found = found_top E J s _ _ (Some c.in-Some-next_move.m) c.as_slice.ensures.items c.in-Some.ensures.value c.in-Some-next_move.ensures.found in
    room J s s c.in-Some-next_move.m c.loop-top.invariant.0 found.0 found.1.0

pub push-requires-clause-path : goal.push-requires-clause-path
push-requires-clause-path g c =
    let E = (hours_of (g.H.Hours.permits c.args.by.now.hours.now)).earliest in
    let J = c.args.by.now.fleet.now in
    let s = c.loop-top.self in
    let found = found_top E J s _ _ (Some c.in-Some-next_move.m) c.as_slice.ensures.items c.in-Some.ensures.value c.in-Some-next_move.ensures.found in
    omega (arith, c.loop-top.invariant.0.rows, room J s s c.in-Some-next_move.m c.loop-top.invariant.0 found.0 found.1.0)

pub returns-in-Some-next_move-clause-ok : goal.returns-in-Some-next_move-clause-ok
returns-in-Some-next_move-clause-ok g c =
    let E = (hours_of (g.H.Hours.permits c.args.by.now.hours.now)).earliest in
    let J = c.args.by.now.fleet.now in
    let s = c.loop-top.self in
    let m = c.in-Some-next_move.m in
    let found = found_top E J s _ _ (Some m) c.as_slice.ensures.items c.in-Some.ensures.value c.in-Some-next_move.ensures.found in
    pushed_ok J s c.push.new.self m c.push.ensures.value c.loop-top.invariant.0 found.0 found.1.0

pub returns-in-Some-next_move-clause-due : goal.returns-in-Some-next_move-clause-due
returns-in-Some-next_move-clause-due g c =
    let E = (hours_of (g.H.Hours.permits c.args.by.now.hours.now)).earliest in
    let J = c.args.by.now.fleet.now in
    let s = c.loop-top.self in
    let m = c.in-Some-next_move.m in
    let found = found_top E J s _ _ (Some m) c.as_slice.ensures.items c.in-Some.ensures.value c.in-Some-next_move.ensures.found in
    due_pushed E J s c.push.new.self m c.push.ensures.value c.loop-top.invariant.0 found.0 found.1 ∙ c.loop-top.invariant.2

pub loop-top-preserved : goal.loop-top-preserved
loop-top-preserved g c =
    let E = (hours_of (g.H.Hours.permits c.args.by.now.hours.now)).earliest in
    let J = c.args.by.now.fleet.now in
    let s = c.loop-top.self in
    let t = c.pop.new.self in
    let p = c.pop.ensures.value in
    let found = found_top E J s _ _ None c.as_slice.ensures.items c.in-Some.ensures.value c.in_default-next_move.ensures.found in (
      popped_ok J s t p c.loop-top.invariant.0,
      p.steps ∙ c.loop-top.invariant.1,
      below_popped E J s t p c.loop-top.invariant.0 found.0 found.1 ∙ c.loop-top.invariant.2,
    )
