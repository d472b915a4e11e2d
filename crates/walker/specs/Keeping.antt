-- What every search keeps.
use Rattle.std.specs.Prelude.{◌≡◌, ℕ, ◌≤◌}
use Rattle.hall.specs.Hall.{hall_log, fleet_of}
use Rattle.hall.specs.declared.board.Board.{Board}
use Rattle.plans.specs.Position.{root, left}
use Rattle.walker.specs.declared.walker.Walker.{Walker}
use Rattle.walker.specs.Visits.{WalkerOk}

pub record SearchOk {S : Type 0} (b : Board) (w : Walker S) (given : ℕ) : Type 0 where
  pub walker : WalkerOk (fleet_of b) w
  pub steps : w.trail.steps ≡ left (hall_log b) (root (hall_log b))
  pub made : w.visits ≤ given
  pub spent : given ≤ 1000000000
