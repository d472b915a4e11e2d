-- The steps that stand begun at the root: those in front of each vehicle's first waiting step.
use Rattle.std.proofs.Common.{◌≡◌, ℕ, zero, suc, ◌<◌, ◌≤◌, false, not, ◌⊎◌, sym, refl, subst, inl, inr, arith}
use Rattle.std.proofs.lemmas.Bool.{true≢false, false≢true, cases_lt}
use Rattle.std.proofs.lemmas.List.Sums.{prefix_len-le-length}
use Rattle.hall.specs.Log.{Log, vehicle_at, blank, begun, waiting}
use Rattle.hall.specs.declared.step.Progress.{Progress}
use Rattle.hall.specs.declared.step.Progress.TheVariants.{Waiting, Running, Done}
use Rattle.hall.proofs.Leading.{leading_below, leading_at}
use Rattle.plans.specs.Steps.{count, IsStep, progress_of, Begun, Finished, begun_of}
use Rattle.plans.proofs.Logs.{LogOk}

pub root_begun : (L : Log) (v k : ℕ) → k < begun_of L v → Begun (progress_of L v k)
unfolding begun_of progress_of
root_begun L v k h = leading_below begun (vehicle_at L v) k blank h

pub root_within : (L : Log) (v : ℕ) → begun_of L v ≤ count L v
unfolding begun_of count
root_within L v = prefix_len-le-length begun (vehicle_at L v)

waits : (p : Progress) → not (waiting p) ≡ false → p ≡ Waiting
waits Waiting e = refl
waits (Running b) e = absurd (true≢false e)
waits (Done b c) e = absurd (true≢false e)

root_stops : (L : Log) (v : ℕ) → begun_of L v < count L v → progress_of L v (begun_of L v) ≡ Waiting
unfolding begun_of count progress_of
root_stops L v h = waits _ (leading_at begun (vehicle_at L v) blank h)

-- no step is begun past a step that waits
waits_on : (L : Log) → LogOk L → (v k : ℕ) → IsStep L v (suc k) → progress_of L v k ≡ Waiting
    → progress_of L v (suc k) ≡ Waiting
waits_on L ok v k i e = by (progress_of L v (suc k)) refl
  where
    no : Begun (progress_of L v (suc k)) → ⊥
    no b = false≢true (subst Finished e (ok.ordered v k i b).0)

    by : (p : Progress) → progress_of L v (suc k) ≡ p → p ≡ Waiting
    by Waiting x = refl
    by (Running b) x = absurd (no (subst Begun (sym x) refl))
    by (Done b c) x = absurd (no (subst Begun (sym x) refl))

waits_at : (L : Log) (v k : ℕ) → IsStep L v k → begun_of L v ≡ k → progress_of L v k ≡ Waiting
waits_at L v k i e = let w = i.within in subst (λ x. progress_of L v x ≡ Waiting) e (root_stops L v (omega arith))

pub root_waits : (L : Log) → LogOk L → (v k : ℕ) → IsStep L v k → begun_of L v ≤ k → progress_of L v k ≡ Waiting
root_waits L ok v zero i h = waits_at L v 0 i (omega arith)
root_waits L ok v (suc k) i h =
    by (λ (x : begun_of L v ≤ k). root_waits L ok v k (record { known = i.known; within = omega arith }) x)
    (cases_lt k (begun_of L v))
  where
    by : (begun_of L v ≤ k → progress_of L v k ≡ Waiting) → (k < begun_of L v) ⊎ (begun_of L v ≤ k)
        → progress_of L v (suc k) ≡ Waiting
    by ih (inl l) = waits_at L v (suc k) i (omega arith)
    by ih (inr l) = waits_on L ok v k i (ih l)
