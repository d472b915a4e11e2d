-- Begin is accepted exactly where the composition has that step.
use Rattle.std.proofs.Common.{◌≡◌, ℕ, suc, ◌<◌, true, false, not, ◌&&◌, eqb, ltb, List, [], ◌∷◌, length, get_or, Some, Ok, sym, refl, ap, ◌∙◌, subst, inl, ⊎_elim, arith}
use Rattle.std.proofs.lemmas.List.{get_or_past, length-map}
use Rattle.std.proofs.lemmas.Bool.{cases_lt, cases_eq, cases_Bool, cond-true, and_parts, or_from, both_ways, eqb-true, lt-ltb}
use Rattle.hall.specs.declared.step.Progress.TheVariants.{Running}
use Rattle.hall.specs.declared.step.StepRecord.{StepRecord}
use Rattle.hall.specs.Job.{Place, waits, runs, beginning, station, Config, booking_of, jobs_of, place_of, clock_of, config_of, Begins}
use Rattle.hall.specs.Lasting.{Lasting}
use Rattle.hall.specs.Log.{Log, vehicle_at, step_at, blank, marked, begun, idle, running, taken, occupies, begin_of, steps_with}
use Rattle.hall.specs.Rules.{begin_answer}
use Rattle.hall.proofs.Begins.{MayBegin, begin_ok}
use Rattle.hall.proofs.Configurations.{booked_step, moves, by_vehicle}
use Rattle.hall.proofs.Keeping.{lasts_begin, begin_waits, begin_before, begin_after}
use Rattle.hall.proofs.Leading.{leading_all}
use Rattle.hall.proofs.Stages.{Between, Within, begun_within, between_place, within_place, within_last, place_waits, running_within}

module _ (l : Log) (v n : ℕ) (k : Lasting l) (m : MayBegin l v n) where
  between : Between (vehicle_at l v) n
  between = record {
    few = omega (arith, m.left);
    earlier = begin_before l v n k m;
    later = λ b ge. ⊎_elim
        (λ e. subst (λ i. begun (step_at l v i) ≡ false) (sym e) (begin_waits l v n k m))
        (λ ne. ⊎_elim (λ h. absurd (begin_after l v n k m b (omega arith) h)) (λ h. h) (cases_Bool (begun (step_at l v b))))
        (cases_eq b n);
  }

  now_runs : Within (steps_with (vehicle_at l v) n (Running l.minute)) n l.minute
  now_runs = begun_within (vehicle_at l v) n l.minute m.left between

  from : (config_of l).state v ≡ waits n
  from = between_place (vehicle_at l v) n between ∙ cond-true (ltb n (length (vehicle_at l v))) _ _ (lt-ltb _ _ m.left)

  to : place_of (steps_with (vehicle_at l v) n (Running l.minute)) ≡ runs n
  to = within_place _ n l.minute now_runs

  clock : clock_of l.minute (steps_with (vehicle_at l v) n (Running l.minute)) ≡ 0
  clock = omega (arith, within_last _ n l.minute now_runs)

  in_job : n < length (jobs_of l v)
  in_job = omega (arith, m.left, length-map (vehicle_at l v) booking_of)

  pub begins : Begins l v n (config_of (marked l v n (Running l.minute)))
  begins =
      let s = moves l v n (Running l.minute) m.known k (lasts_begin l v n k m) (beginning n)
      (record { step = n; within = in_job; which = inl refl }) from refl to clock in
      record { step = s.0; waited = from; started = s.1 }

-- a station on which no step runs is free
free_of_row : (s : ℕ) (rs : List StepRecord)
    → ((i : ℕ) → running (get_or rs i blank).progress ≡ true → (get_or rs i blank).station ≡ s → ⊥) → occupies s rs ≡ false
free_of_row s [] h = refl
free_of_row s (r ∷ rs) h =
    or_from (running r.progress && eqb r.station s) (occupies s rs)
    (⊎_elim (λ t. let p = and_parts (running r.progress) (eqb r.station s) t in absurd (h 0 p.0 (eqb-true _ _ p.1))) (λ f. f)
    (cases_Bool (running r.progress && eqb r.station s)))
    (free_of_row s rs (λ i. h (suc i)))

free_of_all : (s : ℕ) (vs : List (List StepRecord))
    → ((u i : ℕ) → running (get_or (get_or vs u []) i blank).progress ≡ true → (get_or (get_or vs u []) i blank).station ≡ s → ⊥) → taken s vs ≡ false
free_of_all s [] h = refl
free_of_all s (v ∷ vs) h =
    or_from (occupies s v) (taken s vs) (free_of_row s v (h 0)) (free_of_all s vs (λ u. h (suc u)))

waits_runs : (p : Place) (n : ℕ) → p ≡ waits n → p ≡ runs n → ⊥
waits_runs p n a b = cc

-- the vehicle of a state other than final is in the hall
pub known_by_steps : (l : Log) (v i : ℕ) → i < length (vehicle_at l v) → v < length l.vehicles
known_by_steps l v i h =
    ⊎_elim (λ lt. lt) (λ ge. absurd (omega (arith, ap length (get_or_past l.vehicles v [] ge)))) (cases_lt v (length l.vehicles))

pub only_begins : (l : Log) → Lasting l → (v n : ℕ) (z : Config) → Begins l v n z → Ok n ≡ begin_answer l v
only_begins l k v n z b =
    let w = place_waits (vehicle_at l v) n b.waited in
    let x = by_vehicle (jobs_of l) (config_of l) z v b.step (λ e. waits_runs (z.state v) n (e ∙ b.waited) b.started) in
    let known = known_by_steps l v n w.2 in
    let uses : station (jobs_of l v) (z.state v) ≡ Some (step_at l v n).station
    = ap (station (jobs_of l v)) b.started ∙ ap (λ s. Some s.station) (booked_step (vehicle_at l v) n) in
    let clash : (u i : ℕ) → running (step_at l u i).progress ≡ true → (step_at l u i).station ≡ (step_at l v n).station → ⊥
    = λ u i r e.
    let ne : u ≡ v → ⊥ = λ q. both_ways _
    (ap not (subst (λ a. running (step_at l a i).progress ≡ true) q r)) (leading_all idle (vehicle_at l v) i blank refl w.0) in
    let at : z.state u ≡ runs i = x.others u ne ∙ within_place (vehicle_at l u) i (begin_of (step_at l u i).progress) (running_within l k u i r) in
    ne (x.free u v (step_at l v n).station
    (ap (station (jobs_of l u)) at ∙ (ap (λ s. Some s.station) (booked_step (vehicle_at l u) i) ∙ ap Some e)) uses) in
    let free : taken (step_at l v n).station l.vehicles ≡ false = free_of_all (step_at l v n).station l.vehicles clash in
    begin_ok l v n (record { known = known; none_runs = w.0; next = sym w.1; left = w.2; free = free })
