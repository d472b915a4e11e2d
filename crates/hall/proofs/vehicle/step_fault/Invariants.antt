use Rattle.std.proofs.Common.{◌≡◌, drop}
use Rattle.hall.specs.Rules.{step_fault}
use Rattle.hall.proofs.vehicle.step_fault.Given as goal

-- the steps before k have no fault
abbrev pub invariant-loop-k : goal.invariant-loop-k
invariant-loop-k l = step_fault 0 l.steps ≡ step_fault l.k (drop l.k l.steps)
