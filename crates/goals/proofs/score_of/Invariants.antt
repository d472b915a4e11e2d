use Rattle.std.proofs.Common.{◌≡◌, drop}
use Rattle.goals.specs.Finishes.{scored_from, scored}
use Rattle.goals.proofs.score_of.Given as goal

-- the finishes left, added to the score, give that of all
abbrev pub invariant-loop-vehicle : goal.invariant-loop-vehicle
invariant-loop-vehicle g l =
    let m = g.G.Goal in
    scored_from (m.adding l.goal) l.score l.vehicle (drop l.vehicle l.finishes) ≡ scored (m.adding l.goal) (m.starting l.goal) l.finishes
