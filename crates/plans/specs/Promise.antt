-- What an answer owes: it is the walk's, and what it says of whole plans.
use Rattle.std.specs.Prelude.{◌≡◌, ℕ, ◌<◌, ◌≤◌, min, true, ◌⊎◌, ◌↔◌, List, [], ◌∷◌, ◌++◌, length, drop, Some, None, Option}
use Rattle.hall.specs.Log.{Log}
use Rattle.plans.specs.declared.answer.Answer.{Answer}
use Rattle.plans.specs.declared.answer.Outcome.{Outcome}
use Rattle.plans.specs.declared.answer.Outcome.TheVariants.{Best, NoPlan, UnfinishedWith, UnfinishedWithout}
use Rattle.plans.specs.declared.row.Row.{Row}
use Rattle.plans.specs.Outcomes.{number_of, score_in}
use Rattle.plans.specs.Steps.{fleet}
use Rattle.plans.specs.Meanings.{Hours, Goal}
use Rattle.plans.specs.Plan.{Plan, WholePlan, planned, plan_score}
use Rattle.plans.specs.Position.{Position, root, left, bound, Immediate}
use Rattle.plans.specs.Walk.{walk, tree, FullWalk, full_visits}

-- the outcome of the walk, by what is due and the best plan held
abbrev pub outcome_of : {S : Type 0} → Goal S → Log → List Position → Option Position → Outcome S
outcome_of G L [] (Some Q) = Best (bound G L Q)
outcome_of G L [] None = NoPlan
outcome_of G L (P ∷ ds) (Some Q) = UnfinishedWith (bound G L Q)
outcome_of G L (P ∷ ds) None = UnfinishedWithout

-- the rows of the plan held stand in front; without a plan nothing is written
abbrev pub filled : Option Position → List Row → List Row
filled None out = out
filled (Some Q) out = Q.rows ++ drop (length Q.rows) out

-- answer and rows are those of the walk with the budget
pub record AsWalked {S : Type 0} (H : Hours) (G : Goal S) (L : Log) (budget : ℕ) (r : Answer S) (before after : List Row) : Type 0 where
  pub outcome : r.outcome ≡ outcome_of G L (walk H G L budget).due (walk H G L budget).best
  pub visits : r.visits ≡ (walk H G L budget).visits
  pub rows : after ≡ filled (walk H G L budget).best before

-- rs, which stand in front of the caller's records, are an immediate run of all steps to begin and make a whole plan with
-- the score answered
pub record Plans {S : Type 0} (H : Hours) (G : Goal S) (L : Log) (r : Answer S) (before after rs : List Row) : Type 0 where
  pub stands : after ≡ rs ++ drop (length rs) before
  pub all : length rs ≡ left L (root L)
  pub immediate : Immediate H L (root L) rs
  pub whole : WholePlan H L (planned L rs)
  pub score : score_in r.outcome ≡ Some (plan_score G L (planned L rs))

-- no whole plan is better than that of the rows
abbrev pub Unbeaten : {S : Type 0} → Hours → Goal S → Log → List Row → Type 0
Unbeaten H G L rs = (W : Plan) → WholePlan H L W → G.no_worse (plan_score G L (planned L rs)) (plan_score G L W) ≡ true

-- what the answer says of whole plans
pub record Promised {S : Type 0} (H : Hours) (G : Goal S) (L : Log) (budget : ℕ) (r : Answer S) (before after : List Row) : Type 0 where
  -- best: a whole plan with the score answered, no worse than every whole plan
  pub best : number_of r.outcome ≡ 1 → (rs : List Row) × Plans H G L r before after rs × Unbeaten H G L rs
  -- no plan: there is no whole plan
  pub no_plan : number_of r.outcome ≡ 2 → (W : Plan) → WholePlan H L W → ⊥
  -- unfinished with a plan: it is whole too
  pub so_far : number_of r.outcome ≡ 3 → (rs : List Row) × Plans H G L r before after rs
  -- without a plan there is no score, and the records are untouched
  pub without : (number_of r.outcome ≡ 2) ⊎ (number_of r.outcome ≡ 4) → (score_in r.outcome ≡ None) × (after ≡ before)
  -- unfinished exactly when the full walk has more visits than the budget; the visits are the lesser of the two
  pub full : FullWalk H G L (full_visits H G L)
  pub unfinished : ((number_of r.outcome ≡ 3) ⊎ (number_of r.outcome ≡ 4)) ↔ budget < full_visits H G L
  pub made : r.visits ≡ min budget (full_visits H G L)
  -- with n vehicles and R steps to begin, every budget of 1 + n + .. + n ^ R finishes
  pub enough : tree (fleet L) (left L (root L)) ≤ budget → (number_of r.outcome ≡ 1) ⊎ (number_of r.outcome ≡ 2)
