use Rattle.std.proofs.Common.{◌≡◌, ℕ, ◌<◌, ◌≤◌, map}
use Rattle.std.specs.List.{range_with_len}
use Rattle.walker.specs.Bounds.{finish_in}
use Rattle.walker.proofs.position.Position.bound.Given as goal

abbrev pub invariant-loop-v : goal.invariant-loop-v
invariant-loop-v g l =
    (l.finishes.items ≡ map (finish_in l.by.fleet.now l.self) (range_with_len 0 l.v))
    × ((k : ℕ) → k < l.v → finish_in l.by.fleet.now l.self k ≤ 2020000)
