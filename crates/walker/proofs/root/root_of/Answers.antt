use Rattle.std.proofs.Common.{◌≡◌, length, sym, ap, ◌∙◌, subst, arith}
use Rattle.hall.specs.Hall.{hall_log, fleet_of}
use Rattle.walker.specs.Roots.{stood_upto}
use Rattle.walker.specs.View.{RootOf}
use Rattle.walker.proofs.Ready.{stands_past, stands_more}
use Rattle.walker.proofs.Rooted.{rooted}
use Rattle.walker.proofs.root.root_of.Goals as goal

pub stand-requires-clause-past : goal.stand-requires-clause-past
stand-requires-clause-past c =
    stands_past c.args.board.now _ _ _ _ c.vehicles-fleet.ensures.value c.loop-v-test.true c.index-fleet-v.is c.minute-minute.ensures.value

pub loop-v-preserved : goal.loop-v-preserved
loop-v-preserved c =
    stands_more c.args.board.now _ _ _ _ c.vehicles-fleet.ensures.value c.loop-v-test.true c.index-fleet-v.is c.minute-minute.ensures.value
    _ _ c.loop-v.invariant c.stand.ensures.value

pub returns : goal.returns
returns c =
    let b = c.args.board.now in
    let size = ap length c.vehicles-fleet.ensures.value in
    let last : c.loop-v.v ≡ length (fleet_of b) = omega (arith, size, c.loop-v-test.false, c.loop-v.auto.v-end) in
    record { root = subst (RootOf (hall_log b)) (sym (c.loop-v.invariant ∙ ap (stood_upto (hall_log b) (fleet_of b)) last)) (rooted b) }
