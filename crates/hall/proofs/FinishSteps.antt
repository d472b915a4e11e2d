-- Finish is accepted exactly where the composition has that step.
use Rattle.std.proofs.Common.{◌≡◌, ℕ, ◌+◌, ◌-◌, ◌≤◌, true, leb, List, length, Ok, sym, refl, ap, ◌∙◌, inr, ⊎_elim, arith}
use Rattle.std.proofs.lemmas.List.{length-map}
use Rattle.std.proofs.lemmas.Bool.{le-leb, leb-true}
use Rattle.hall.specs.declared.step.Progress.TheVariants.{Done}
use Rattle.hall.specs.declared.step.Step.{Step}
use Rattle.hall.specs.Automaton.{Transition}
use Rattle.hall.specs.Job.{Place, waits, runs, before, step_of, finishing, JobHas, Config, booking_of, jobs_of, place_of, clock_of, config_of, Finishes}
use Rattle.hall.specs.Lasting.{Lasting}
use Rattle.hall.specs.Log.{Log, vehicle_at, step_at, marked, begin_of, least_time, steps_with}
use Rattle.hall.specs.Rules.{finish_answer}
use Rattle.hall.proofs.BeginSteps.{known_by_steps}
use Rattle.hall.proofs.Configurations.{booked_step, place_running, moves, by_vehicle}
use Rattle.hall.proofs.Finishes.{MayFinish, finish_ok}
use Rattle.hall.proofs.Keeping.{lasts_finish, finish_runs}
use Rattle.hall.proofs.Stages.{Between, Within, finished_between, between_place, between_last, within_place, within_last, place_runs, running_within}
use Rattle.hall.proofs.Spots.{length-steps_with, step-steps_with}

module _ (l : Log) (v n : ℕ) (k : Lasting l) (m : MayFinish l v n) where
  within : Within (vehicle_at l v) n (begin_of (step_at l v n).progress)
  within = running_within l k v n (finish_runs l v n k m)

  between : Between (steps_with (vehicle_at l v) n (Done (begin_of (step_at l v n).progress) l.minute)) (n + 1)
  between = finished_between (vehicle_at l v) n (begin_of (step_at l v n).progress) l.minute within

  from : (config_of l).state v ≡ runs n
  from = within_place (vehicle_at l v) n (begin_of (step_at l v n).progress) within

  allowed : leb (least_time (step_of (jobs_of l v) n).length) (clock_of l.minute (vehicle_at l v)) ≡ true
  allowed = le-leb _ _ (omega (
    arith,
    m.late,
    ap (λ s. s.length) (booked_step (vehicle_at l v) n),
    within_last (vehicle_at l v) n (begin_of (step_at l v n).progress) within,
  ))

  to : place_of (steps_with (vehicle_at l v) n (Done (begin_of (step_at l v n).progress) l.minute)) ≡ before (length (jobs_of l v)) (n + 1)
  to = between_place _ (n + 1) between
      ∙ ap (λ c. before c (n + 1)) (length-steps_with (vehicle_at l v) n (Done (begin_of (step_at l v n).progress) l.minute) ∙ sym (length-map (vehicle_at l v) booking_of))

  clock : clock_of l.minute (steps_with (vehicle_at l v) n (Done (begin_of (step_at l v n).progress) l.minute)) ≡ clock_of l.minute (vehicle_at l v)
  clock =
      ap (λ b. l.minute - b) (between_last _ n between
      ∙ (ap (λ r. begin_of r.progress) (step-steps_with (vehicle_at l v) n (Done (begin_of (step_at l v n).progress) l.minute) m.within)
      ∙ sym (within_last (vehicle_at l v) n (begin_of (step_at l v n).progress) within)))

  has : JobHas (jobs_of l v) (finishing (jobs_of l v) n)
  has = record { step = n; within = omega (arith, m.within, length-map (vehicle_at l v) booking_of); which = inr refl }

  pub finishes : Finishes l v n (config_of (marked l v n (Done (begin_of (step_at l v n).progress) l.minute)))
  finishes =
      let p = Done (begin_of (step_at l v n).progress) l.minute in
      let s = moves l v n p m.known k (lasts_finish l v n k m) (finishing (jobs_of l v) n) has from allowed to clock in
      record { step = s.0; ran = from; went_on = s.1 }

before_runs : (c j i : ℕ) (p : Place) → p ≡ before c j → p ≡ runs i → ⊥
before_runs c j i p a b = grind arith

-- a job leaves the state in which it runs step n only once the step's least time has passed
late_enough : (ss : List Step) (m : Transition Place (Unit {0})) (n c : ℕ) → JobHas ss m → runs n ≡ m.from → m.guard (λ d. c) ≡ true
    → least_time (step_of ss n).length ≤ c
late_enough ss m n c h from allowed =
    ⊎_elim
    (λ e. absurd (let f : runs n ≡ waits h.step = from ∙ ap (λ t. t.from) e in let z : ◌≡◌ {A = ℕ} 0 1 = cc in omega arith))
    (λ e.
    let f : runs n ≡ runs h.step = from ∙ ap (λ t. t.from) e in
    let s : n ≡ h.step = cc in
    leb-true (least_time (step_of ss n).length) c
    (ap (λ i. leb (least_time (step_of ss i).length) c) s ∙ (ap (λ t. t.guard (λ d. c)) (sym e) ∙ allowed)))
    h.which

pub only_finishes : (l : Log) → Lasting l → (v n : ℕ) (z : Config) → Finishes l v n z → Ok n ≡ finish_answer l v
only_finishes l k v n z f =
    let w = place_runs (vehicle_at l v) n f.ran in
    let in-hall = known_by_steps l v n w.1 in
    let x = by_vehicle (jobs_of l) (config_of l) z v f.step (λ e. before_runs _ (n + 1) n (z.state v) f.went_on (e ∙ f.ran)) in
    let r = place_running (vehicle_at l v) n f.ran in
    let since = within_last (vehicle_at l v) n (begin_of (step_at l v n).progress) (running_within l k v n r) in
    let long = late_enough (jobs_of l v) x.move n (clock_of l.minute (vehicle_at l v)) x.has (sym f.ran ∙ x.from) x.allowed in
    finish_ok l v n (record {
      known = in-hall;
      step = sym w.0;
      within = w.1;
      late = omega (arith, long, since, k.begins v n, ap (λ s. s.length) (booked_step (vehicle_at l v) n));
    })
