-- Until when a station is taken at the root: only a vehicle's last begun step can run.
use Rattle.std.proofs.Common.{◌≡◌, ℕ, suc, ◌<◌, ◌≤◌, Bool, true, false, cond, eqb, ◌⊎◌, refl, ap, inl, inr, arith}
use Rattle.std.proofs.lemmas.Bool.{cases_order, cond-false, ne_eqb, false≢true}
use Rattle.hall.specs.Log.{Log}
use Rattle.hall.specs.declared.step.Progress.{Progress}
use Rattle.hall.specs.declared.step.Progress.TheVariants.{Waiting, Running, Done}
use Rattle.plans.specs.Steps.{fleet, count, station_of, length_of, progress_of, Finished, begun_of}
use Rattle.plans.specs.Position.{max_below, runs_until, taken_until, station_free}
use Rattle.plans.proofs.Base.{max_below_ge, max_below_le}
use Rattle.plans.proofs.Logs.{LogOk}
use Rattle.plans.proofs.Root.{root_begun, root_within, root_waits}

pub done_idle : (now len : ℕ) (p : Progress) → Finished p → runs_until now len p ≡ 0
done_idle now len Waiting d = refl
done_idle now len (Running b) d = absurd (false≢true d)
done_idle now len (Done b e) d = refl

pub idle : (L : Log) (s v k : ℕ) → runs_until L.minute (length_of L v k) (progress_of L v k) ≡ 0 → taken_until L s v k ≡ 0
unfolding taken_until
idle L s v k e = by (eqb (station_of L v k) s)
  where
    by : (b : Bool) → cond b (runs_until L.minute (length_of L v k) (progress_of L v k)) 0 ≡ 0
    by true = e
    by false = refl

pub waits_idle : (L : Log) (s v k : ℕ) → progress_of L v k ≡ Waiting → taken_until L s v k ≡ 0
waits_idle L s v k e = idle L s v k (ap (runs_until L.minute (length_of L v k)) e)

-- only the last begun step can run
pub none_taken : (L : Log) → LogOk L → (s v : ℕ) → v < fleet L → begun_of L v ≡ 0 → max_below (count L v) (taken_until L s v) ≡ 0
none_taken L ok s v h e =
    let m = max_below_le (count L v) (taken_until L s v) 0 (λ k l. let z = waits_idle L s v k (root_waits L ok v k (record { known = h; within = l }) (omega arith)) in omega arith) in
    omega arith

pub last_taken : (L : Log) → LogOk L → (s v j : ℕ) → v < fleet L → begun_of L v ≡ suc j → max_below (count L v) (taken_until L s v) ≡ taken_until L s v j
last_taken L ok s v j h e =
    let w = root_within L v in
    let g = max_below_ge (count L v) (taken_until L s v) j (omega arith) in
    let m = max_below_le (count L v) (taken_until L s v) (taken_until L s v j) (λ k l. by k l (cases_order k j)) in
    omega arith
  where
    by : (k : ℕ) → k < count L v → (k ≡ j) ⊎ ((k < j) ⊎ (j < k)) → taken_until L s v k ≤ taken_until L s v j
    by k l (inl q) = let z = ap (taken_until L s v) q in omega arith
    by k l (inr (inl q)) =
        let w = root_within L v in
        let d = (ok.ordered v k (record { known = h; within = omega arith }) (root_begun L v (suc k) (omega arith))).0 in
        let z = idle L s v k (done_idle L.minute (length_of L v k) (progress_of L v k) d) in
        omega arith
    by k l (inr (inr q)) = let z = waits_idle L s v k (root_waits L ok v k (record { known = h; within = l }) (omega arith)) in omega arith

-- stations above 15 are never taken
pub far_free : (L : Log) → LogOk L → (s : ℕ) → 16 ≤ s → station_free L s ≡ 0
unfolding station_free taken_until
far_free L ok s far =
    let m = max_below_le (fleet L) (λ v. max_below (count L v) (taken_until L s v)) 0 (λ v h. max_below_le (count L v) (taken_until L s v) 0 (λ k l.
    let p = ok.placed v k (record { known = h; within = l }) in
    let z = cond-false (eqb (station_of L v k) s) (runs_until L.minute (length_of L v k) (progress_of L v k)) 0 (ne_eqb _ _ (λ q. omega arith)) in
    omega arith)) in
    omega arith
