use Rattle.std.proofs.Common.{◌≡◌}
use Rattle.hall.specs.Hall.{hall_log, fleet_of}
use Rattle.walker.specs.Roots.{stood_upto}
use Rattle.walker.proofs.root.root_of.Given as goal

abbrev pub invariant-loop-v : goal.invariant-loop-v
invariant-loop-v l = l.position ≡ stood_upto (hall_log l.board) (fleet_of l.board) l.v
