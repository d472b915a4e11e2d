-- The walk over positions, as a machine of single visits.
use Rattle.std.specs.Prelude.{option_to_list, ◌≡◌, ℕ, zero, suc, ◌+◌, ◌^◌, ◌<◌, Bool, false, List, [], ◌∷◌, ◌++◌, Some, None, Option, if◌then◌else◌, ◌≢◌}
use Rattle.hall.specs.Log.{Log}
use Rattle.plans.specs.Steps.{fleet}
use Rattle.plans.specs.Meanings.{Hours, Goal}
use Rattle.plans.specs.Position.{Position, sum_below, root, move, left, is_leaf, bound}

-- the children of a position by the vehicles 0 to n - 1, in that order
unfoldable pub children_below : Hours → Log → Position → ℕ → List Position
children_below H L P zero = []
children_below H L P (suc n) = children_below H L P n ++ option_to_list (move H L P n)

unfoldable pub children : Hours → Log → Position → List Position
children H L P = children_below H L P (fleet L)

-- the positions due, the next to visit first, the best plan held, as the position that ends it, and the visits made
pub record State : Type 0 where
  pub due : List Position
  pub best : Option Position
  pub visits : ℕ

-- a best plan is held and its score is no worse than the position's bound
unfoldable pub dropped : {S : Type 0} → Goal S → Log → Option Position → Position → Bool
dropped G L None P = false
dropped G L (Some Q) P = G.no_worse (bound G L Q) (bound G L P)

-- what a visit makes of a position: the positions that become due, and the best plan held
pub record Effect : Type 0 where
  pub due : List Position
  pub best : Option Position

-- it is dropped; else, with no step left, its rows become the best plan; else its children are due
unfoldable pub effect : {S : Type 0} → Hours → Goal S → Log → Option Position → Position → Effect
effect H G L b P =
    if dropped G L b P then record { due = []; best = b }
    else (if is_leaf L P then record { due = []; best = Some P } else record { due = children H L P; best = b })

-- the first due position is visited, and what becomes due goes in front
unfoldable pub visit_first : {S : Type 0} → Hours → Goal S → Log → List Position → Option Position → ℕ → State
visit_first H G L [] b n = record { due = []; best = b; visits = n }
visit_first H G L (P ∷ ds) b n = record { due = (effect H G L b P).due ++ ds; best = (effect H G L b P).best; visits = suc n }

unfoldable pub visit : {S : Type 0} → Hours → Goal S → Log → State → State
visit H G L S = visit_first H G L S.due S.best S.visits

-- k visits, or fewer where nothing is due any more
unfoldable pub after : {S : Type 0} → Hours → Goal S → Log → ℕ → State → State
after H G L zero S = S
after H G L (suc k) S = after H G L k (visit H G L S)

-- at first the root is due
unfoldable pub begins : Log → State
begins L = record { due = root L ∷ []; best = None; visits = 0 }

-- the walk with a budget
unfoldable pub walk : {S : Type 0} → Hours → Goal S → Log → ℕ → State
walk H G L budget = after H G L budget (begins L)

-- 1 + n + .. + n ^ r
unfoldable pub tree : ℕ → ℕ → ℕ
tree n r = sum_below (suc r) (λ i. n ^ i)

-- the full walk, which has no budget, has n visits: then nothing is due, and before something is
pub record FullWalk {S : Type 0} (H : Hours) (G : Goal S) (L : Log) (n : ℕ) : Type 0 where
  pub ends : (walk H G L n).due ≡ []
  pub lasts : (k : ℕ) → k < n → (walk H G L k).due ≢ []

-- that number: no budget is used up beyond the whole tree of moves
unfoldable pub full_visits : {S : Type 0} → Hours → Goal S → Log → ℕ
full_visits H G L = (walk H G L (tree (fleet L) (left L (root L)))).visits

-- budgets add up: b visits more after the walk with budget a are the walk with a + b
abbrev pub BudgetsAddUp : Type 0 → Type 0
BudgetsAddUp S = (H : Hours) (G : Goal S) (L : Log) (a b : ℕ) → after H G L b (walk H G L a) ≡ walk H G L (a + b)
