-- Whole plans of a hall log, and the plan that rows make.
use Rattle.std.specs.Prelude.{◌≡◌, ℕ, suc, ◌+◌, ◌-◌, ◌≤◌, max, true, ◌⊎◌, List, fold, if◌then◌else◌, ◌==◌}
use Rattle.hall.specs.Log.{Log, begin_of, end_of}
use Rattle.hall.specs.declared.step.Progress.{Progress}
use Rattle.hall.specs.declared.step.Progress.TheVariants.{Waiting, Running, Done}
use Rattle.plans.specs.declared.row.Row.{Row}
use Rattle.plans.specs.Steps.{fleet, count, IsStep, station_of, length_of, progress_of, Begun, Runs, Finished}
use Rattle.plans.specs.Meanings.{Hours, Goal, score_of}

-- a begin and an end for each step
pub record Plan : Type 0 where
  pub begin : ℕ → ℕ → ℕ
  pub end : ℕ → ℕ → ℕ

pub record WholePlan (H : Hours) (L : Log) (W : Plan) : Type 0 where
  -- a begun step has its recorded begin, a finished one its recorded end
  pub begun : (v k : ℕ) → IsStep L v k → Begun (progress_of L v k) → W.begin v k ≡ begin_of (progress_of L v k)
  pub ended : (v k : ℕ) → IsStep L v k → Finished (progress_of L v k) → W.end v k ≡ end_of (progress_of L v k)
  -- a running step ends no earlier than now and than begin plus length
  pub runs : (v k : ℕ) → IsStep L v k → Runs (progress_of L v k)
      → (L.minute ≤ W.end v k) × (W.begin v k + length_of L v k ≤ W.end v k)
  -- a step not yet begun begins now or later, at a permitted minute, and ends no earlier than begin plus length
  pub comes : (v k : ℕ) → IsStep L v k → progress_of L v k ≡ Waiting
      → (L.minute ≤ W.begin v k) × (H.permits (station_of L v k) (W.begin v k) (length_of L v k) ≡ true)
      × (W.begin v k + length_of L v k ≤ W.end v k)
  -- no minute is above 2,000,000
  pub small : (v k : ℕ) → IsStep L v k → (W.begin v k ≤ 2000000) × (W.end v k ≤ 2000000)
  -- a step begins no earlier than the end of the vehicle's step before it
  pub follows : (v k : ℕ) → IsStep L v (suc k) → W.end v k ≤ W.begin v (suc k)
  -- of two steps on one station one ends no later than the other begins
  pub apart : (v k w j : ℕ) → IsStep L v k → IsStep L w j → station_of L v k ≡ station_of L w j → ¬ ((v ≡ w) × (k ≡ j))
      → (W.end v k ≤ W.begin w j) ⊎ (W.end w j ≤ W.begin v k)

-- a vehicle's finish: the end of its last step
unfoldable pub finish : Log → Plan → ℕ → ℕ
finish L W v = W.end v (count L v - 1)

-- a plan's score: the goal's score of all finishes
unfoldable pub plan_score : {S : Type 0} → Goal S → Log → Plan → S
plan_score G L W = score_of G (fleet L) (finish L W)

-- the end of a begun step as a plan has it: recorded, or for a running one the later of now and begin plus length
abbrev pub end_by : ℕ → ℕ → Progress → ℕ
end_by now length Waiting = 0
end_by now length (Running b) = max now (b + length)
end_by now length (Done b e) = e

-- f with x at i
unfoldable pub put : {A : Type 0} → (ℕ → A) → ℕ → A → ℕ → A
put f i x j = if i == j then x else f j

-- the begins and ends that the log gives the begun steps
unfoldable pub logged : Log → Plan
logged L = record { begin = λ v k. begin_of (progress_of L v k); end = λ v k. end_by L.minute (length_of L v k) (progress_of L v k) }

-- a plan with the begin and end of one row
abbrev pub with_row : Plan → Row → Plan
with_row W r = record {
  begin = put W.begin r.vehicle (put (W.begin r.vehicle) r.step r.begin);
  end = put W.end r.vehicle (put (W.end r.vehicle) r.step r.end);
}

-- the plan meant by rows: theirs for the steps to begin, the log's for the begun ones
unfoldable pub planned : Log → List Row → Plan
planned L rs = fold with_row (logged L) rs
