use Rattle.std.proofs.Common.{sym, subst}
use Rattle.walker.specs.Moves.{FleetOk}
use Rattle.walker.proofs.Ready.{fleet_ok}
use Rattle.walker.proofs.setting.Setting.of.Goals as goal

pub invariant_of-result : goal.invariant_of-result
invariant_of-result g c = record { ok = subst FleetOk (sym c.vehicles.ensures.value) (fleet_ok c.args.board.now) }
