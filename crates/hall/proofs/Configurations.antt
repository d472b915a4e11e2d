-- The configuration of a log in which one step changes.
use Rattle.std.proofs.Common.{◌≡◌, ℕ, ◌<◌, true, false, cond, eqb, List, map, length, get_or, set, Some, sym, refl, ap, ◌∙◌, subst, ⊎_elim, arith}
use mathlib.Core.Path.{fun_ext}
use Rattle.std.proofs.lemmas.List.{get_or_past, get_or-map, length-map, map-set, set-get_or}
use Rattle.std.proofs.lemmas.Bool.{cases_lt, cases_eq, cond-true, cond-false, eq-eqb, ne_eqb}
use Rattle.hall.specs.declared.step.Progress.{Progress}
use Rattle.hall.specs.declared.step.Step.{Step}
use Rattle.hall.specs.declared.step.StepRecord.{StepRecord}
use Rattle.hall.specs.Automaton.{Transition, Discrete}
use Rattle.hall.specs.Composition.{put, Free, alone}
use Rattle.hall.specs.Job.{Place, waits, runs, final, JobHas, step_of, station, hall_automaton, Config, booking_of, jobs_of, place_of, clock_of, config_of}
use Rattle.hall.specs.Lasting.{Lasting}
use Rattle.hall.specs.Log.{Log, vehicle_at, step_at, blank, reached, marked, idle, running, steps_with}
use Rattle.hall.proofs.Keeping.{idle_running}
use Rattle.hall.proofs.Leading.{leading_at}
use Rattle.hall.proofs.Spots.{row_of, other_row}
use Rattle.hall.proofs.Stages.{place_runs}

-- a family with another member at one place
pub put_here : {X : Type 0} (f : ℕ → X) (a : ℕ) (x : X) (b : ℕ) → b ≡ a → put f a x b ≡ x
put_here f a x b e = cond-true (eqb b a) x (f b) (eq-eqb _ _ e)

pub put_there : {X : Type 0} (f : ℕ → X) (a : ℕ) (x : X) (b : ℕ) → (b ≡ a → ⊥) → put f a x b ≡ f b
put_there f a x b ne = cond-false (eqb b a) x (f b) (ne_eqb _ _ ne)

-- what is read of each vehicle changes where its step does
pub read_marked : {X : Type 0} (f : List StepRecord → X) (l : Log) (v j : ℕ) (p : Progress) (x : X) → v < length l.vehicles
    → f (steps_with (vehicle_at l v) j p) ≡ x
    → (u : ℕ) → f (vehicle_at (marked l v j p) u) ≡ put (λ w. f (vehicle_at l w)) v x u
read_marked f l v j p x known h u =
    ⊎_elim
    (λ e. ap (λ w. f (vehicle_at (marked l v j p) w)) e ∙ (ap f (row_of l v j p known) ∙ (h ∙ sym (put_here (λ w. f (vehicle_at l w)) v x u e))))
    (λ ne. ap f (other_row l v j p known u ne) ∙ sym (put_there (λ w. f (vehicle_at l w)) v x u ne))
    (cases_eq u v)

-- step j of a vehicle's job
pub booked_step : (rs : List StepRecord) (j : ℕ) → step_of (map booking_of rs) j ≡ booking_of (get_or rs j blank)
booked_step rs j =
    ⊎_elim (λ lt. get_or-map booking_of rs j blank (record { station = 0; length = 0 }) lt)
    (λ ge. get_or_past (map booking_of rs) j (record { station = 0; length = 0 }) (omega (arith, length-map rs booking_of))
    ∙ ap booking_of (sym (get_or_past rs j blank ge)))
    (cases_lt j (length rs))

same_job : (rs : List StepRecord) (j : ℕ) (p : Progress) → map booking_of (steps_with rs j p) ≡ map booking_of rs
same_job rs j p =
    map-set booking_of rs j (reached (get_or rs j blank) p)
    ∙ (ap (set (map booking_of rs) j) (sym (booked_step rs j)) ∙ set-get_or (map booking_of rs) j (record { station = 0; length = 0 }))

-- the jobs stay
pub same_jobs : (l : Log) (v j : ℕ) (p : Progress) → v < length l.vehicles → jobs_of (marked l v j p) ≡ jobs_of l
same_jobs l v j p known =
    fun_ext (λ u.
    read_marked (map booking_of) l v j p (jobs_of l v) known (same_job (vehicle_at l v) j p) u
    ∙ ⊎_elim (λ e. put_here (jobs_of l) v (jobs_of l v) u e ∙ ap (jobs_of l) (sym e)) (put_there (jobs_of l) v (jobs_of l v) u) (cases_eq u v))

-- a job that uses a station runs a step on it
pub uses_runs : (ss : List Step) (p : Place) (s : ℕ) → station ss p ≡ Some s → (i : ℕ) × (p ≡ runs i) × ((step_of ss i).station ≡ s)
uses_runs ss (waits i) s h = cc
uses_runs ss (runs i) s h = (i, refl, cc)
uses_runs ss final s h = cc

pub place_running : (rs : List StepRecord) (i : ℕ) → place_of rs ≡ runs i → running (get_or rs i blank).progress ≡ true
place_running rs i h =
    let k = place_runs rs i h in
    idle_running _ (subst (λ q. idle (get_or rs q blank) ≡ false) k.0 (leading_at idle rs blank (omega (arith, k.0, k.1))))

-- the step that a vehicle runs, where it uses a station
on_station : (l : Log) (u s : ℕ) → station (jobs_of l u) (place_of (vehicle_at l u)) ≡ Some s
    → (i : ℕ) × (running (step_at l u i).progress ≡ true) × ((step_at l u i).station ≡ s)
on_station l u s h =
    let k = uses_runs (jobs_of l u) (place_of (vehicle_at l u)) s h in
    (k.0, place_running (vehicle_at l u) k.0 k.1, ap (λ x. x.station) (sym (booked_step (vehicle_at l u) k.0)) ∙ k.2)

-- a log that is kept is a configuration without conflict
pub free_config : (l : Log) → Lasting l → Free (λ v. station (jobs_of l v)) (config_of l).state
free_config l k a b s f g =
    let x = on_station l a s f in
    let y = on_station l b s g in
    ⊎_elim (λ e. e) (λ ne. absurd (k.exclusive a b x.0 y.0 (λ e _. ne e) x.1 y.1 (x.2 ∙ sym y.2))) (cases_eq a b)

-- one step of vehicle v changes as a transition of its job says: that is a discrete step of the composition
module _ (l : Log) (v j : ℕ) (p : Progress) (known : v < length l.vehicles) (old : Lasting l) (new : Lasting (marked l v j p))
    (m : Transition Place (Unit {0})) (has : JobHas (jobs_of l v) m) (from : (config_of l).state v ≡ m.from)
    (allowed : m.guard (λ c. (config_of l).clocks (v, c)) ≡ true)
    (to : place_of (steps_with (vehicle_at l v) j p) ≡ m.to)
    (clock : clock_of l.minute (steps_with (vehicle_at l v) j p) ≡ cond (m.resets tt) 0 (clock_of l.minute (vehicle_at l v))) where
  state_after : (config_of (marked l v j p)).state ≡ put (config_of l).state v m.to
  state_after = fun_ext (read_marked place_of l v j p m.to known to)

  clock_after : (u : ℕ) → clock_of l.minute (vehicle_at (marked l v j p) u)
      ≡ cond (cond (eqb u v) (m.resets tt) false) 0 (clock_of l.minute (vehicle_at l u))
  clock_after u =
      let f : ℕ → ℕ = λ w. clock_of l.minute (vehicle_at l w) in
      let x = cond (m.resets tt) 0 (clock_of l.minute (vehicle_at l v)) in
      read_marked (clock_of l.minute) l v j p x known clock u
      ∙ ⊎_elim
      (λ e. put_here f v x u e
      ∙ (ap (λ w. cond (m.resets tt) 0 (clock_of l.minute (vehicle_at l w))) (sym e)
      ∙ ap (λ t. cond t 0 (clock_of l.minute (vehicle_at l u))) (sym (cond-true (eqb u v) (m.resets tt) false (eq-eqb _ _ e)))))
      (λ ne. put_there f v x u ne
      ∙ ap (λ t. cond t 0 (clock_of l.minute (vehicle_at l u))) (sym (cond-false (eqb u v) (m.resets tt) false (ne_eqb _ _ ne))))
      (cases_eq u v)

  pub moves : Discrete (hall_automaton (jobs_of l)) (config_of l) (config_of (marked l v j p)) × ((config_of (marked l v j p)).state v ≡ m.to)
  moves = (
    record {
      move = alone (config_of l).state v m;
      has = record {
        who = v;
        move = m;
        has = has;
        from = from;
        is = refl;
        free_from = free_config l old;
        free_to = subst (Free (λ w. station (jobs_of l w))) state_after
            (subst (λ J. Free (λ w. station (J w)) (config_of (marked l v j p)).state) (same_jobs l v j p known) (free_config (marked l v j p) new));
      };
      leaves = refl;
      allowed = allowed;
      enters = state_after;
      clocks = fun_ext (λ d. clock_after d.0);
    },
    ap (λ q. q v) state_after ∙ put_here (config_of l).state v m.to v refl,
  )

-- a discrete step of the composition that changes the state of vehicle v is one of its job
pub record ByVehicle (jobs : ℕ → List Step) (x y : Config) (v : ℕ) : Type 0 where
  pub move : Transition Place (Unit {0})
  pub has : JobHas (jobs v) move
  pub from : x.state v ≡ move.from
  pub allowed : move.guard (λ c. x.clocks (v, c)) ≡ true
  pub others : (u : ℕ) → (u ≡ v → ⊥) → y.state u ≡ x.state u
  pub free : Free (λ w. station (jobs w)) y.state

pub by_vehicle : (jobs : ℕ → List Step) (x y : Config) (v : ℕ) → Discrete (hall_automaton jobs) x y → (y.state v ≡ x.state v → ⊥)
    → ByVehicle jobs x y v
by_vehicle jobs x y v s changes =
    let c = s.has in
    let to : y.state ≡ put x.state c.who c.move.to
    = s.enters ∙ (ap (λ t. t.to) c.is ∙ ap (λ q. put q c.who c.move.to) (sym s.leaves)) in
    let who : c.who ≡ v
    = ⊎_elim (λ e. e)
    (λ ne. absurd (changes (ap (λ q. q v) to ∙ put_there x.state c.who c.move.to v (λ e. ne (sym e)))))
    (cases_eq c.who v) in
    record {
      move = c.move;
      has = subst (λ w. JobHas (jobs w) c.move) who c.has;
      from = ap x.state (sym who) ∙ (ap (λ q. q c.who) s.leaves ∙ c.from);
      allowed = subst (λ w. c.move.guard (λ d. x.clocks (w, d)) ≡ true) who (ap (λ t. t.guard x.clocks) (sym c.is) ∙ s.allowed);
      others = λ u ne. ap (λ q. q u) to ∙ put_there x.state c.who c.move.to u (λ e. ne (e ∙ who));
      free = subst (Free (λ w. station (jobs w))) (sym s.enters) c.free_to;
    }
