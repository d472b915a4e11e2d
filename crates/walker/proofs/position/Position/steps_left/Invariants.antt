use Rattle.std.proofs.Common.{◌≡◌, ◌*◌, ◌≤◌}
use Rattle.walker.specs.Moves.{steps_left}
use Rattle.walker.proofs.position.Position.steps_left.Given as goal

abbrev pub invariant-loop-v : goal.invariant-loop-v
invariant-loop-v l = (l.sum ≡ steps_left l.fleet l.self l.v) × (l.sum ≤ 8 * l.v)
