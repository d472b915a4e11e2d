-- The rows of a leaf, with what is recorded, are a whole plan.
use Rattle.std.proofs.Common.{◌≡◌, ℕ, suc, ◌+◌, ◌-◌, ◌<◌, ◌≤◌, max, true, eqb, ◌⊎◌, sym, refl, ap, ◌∙◌, subst, ap₂, subst₂, inl, inr, arith}
use Rattle.std.proofs.lemmas.Bool.{false≢true, eq-eqb, cases_lt, cases_eq, cond-true}
use Rattle.std.proofs.lemmas.List.Sums.{fold_push}
use Rattle.hall.specs.Log.{Log, begin_of, end_of}
use Rattle.hall.specs.declared.step.Progress.{Progress}
use Rattle.hall.specs.declared.step.Progress.TheVariants.{Waiting, Running, Done}
use Rattle.plans.specs.Steps.{fleet, count, IsStep, station_of, length_of, progress_of, Begun, Runs, Finished, begun_of}
use Rattle.plans.specs.Meanings.{Hours, Goal}
use Rattle.plans.specs.Plan.{Plan, WholePlan, finish, plan_score, end_by, put, logged, with_row, planned}
use Rattle.plans.specs.Position.{max_below, Position, free_after, runs_until, taken_until, station_free, root, ready, row_of, moved, left, bound_finish, bound}
use Rattle.plans.proofs.Base.{put_same, put_at, put_other, max_below_ge, sum_below_zero}
use Rattle.plans.proofs.Logs.{LogOk}
use Rattle.plans.proofs.Opening.{HoursOk}
use Rattle.plans.proofs.Reaching.{Child, Leaf, reach_keeps}
use Rattle.plans.proofs.Moves.{moving}
use Rattle.plans.proofs.Root.{root_begun, root_within, root_waits}
use Rattle.plans.proofs.Scores.{same_score}
use Rattle.plans.proofs.Bounds.{finish_none, begun_same, begun_other, free_same, free_other, station_same, station_other, clock_is, ready_clock}

-- a begin and an end that suit one step
pub record StepOk (H : Hours) (now s l : ℕ) (p : Progress) (b e : ℕ) : Type 0 where
  pub begun : Begun p → b ≡ begin_of p
  pub ended : Finished p → e ≡ end_of p
  pub runs : Runs p → (now ≤ e) × (b + l ≤ e)
  pub comes : p ≡ Waiting → (now ≤ b) × (H.permits s b l ≡ true) × (b + l ≤ e)
  pub small : (b ≤ 2000000) × (e ≤ 2000000)

-- the plan's begin and end of step k of vehicle v suit it
abbrev Suits : Hours → Log → Plan → ℕ → ℕ → Type 0
Suits H L W v k = StepOk H L.minute (station_of L v k) (length_of L v k) (progress_of L v k) (W.begin v k) (W.end v k)

-- the begun steps of P keep the conditions of a whole plan
pub record Kept (H : Hours) (L : Log) (P : Position) : Type 0 where
  pub within : (v : ℕ) → P.begun v ≤ count L v
  pub waits : (v k : ℕ) → IsStep L v k → P.begun v ≤ k → progress_of L v k ≡ Waiting
  pub later : L.minute ≤ P.clock
  pub each : (v k : ℕ) → IsStep L v k → k < P.begun v → Suits H L (planned L P.rows) v k
  pub follows : (v k : ℕ) → IsStep L v (suc k) → suc k < P.begun v
      → (planned L P.rows).end v k ≤ (planned L P.rows).begin v (suc k)
  pub apart : (v k w j : ℕ) → IsStep L v k → IsStep L w j → k < P.begun v → j < P.begun w
      → station_of L v k ≡ station_of L w j → ¬ ((v ≡ w) × (k ≡ j))
      → ((planned L P.rows).end v k ≤ (planned L P.rows).begin w j)
      ⊎ ((planned L P.rows).end w j ≤ (planned L P.rows).begin v k)
  pub free : (v k : ℕ) → IsStep L v k → suc k ≡ P.begun v → (planned L P.rows).end v k ≡ P.free_vehicle v
  pub taken : (v k : ℕ) → IsStep L v k → k < P.begun v
      → (planned L P.rows).end v k ≤ max P.clock (P.free_station (station_of L v k))

-- a table of two indices, changed at one place
put2_same : (f : ℕ → ℕ → ℕ) (v k x : ℕ) → put f v (put (f v) k x) v k ≡ x
put2_same f v k x = ap (λ g. g k) (put_same f v (put (f v) k x)) ∙ put_same (f v) k x

put2_other : (f : ℕ → ℕ → ℕ) (v k x w j : ℕ) → ¬ ((v ≡ w) × (k ≡ j)) → put f v (put (f v) k x) w j ≡ f w j
put2_other f v k x w j h = by (cases_eq v w)
  where
    by : (v ≡ w) ⊎ (v ≡ w → ⊥) → put f v (put (f v) k x) w j ≡ f w j
    by (inl e) =
        ap (λ g. g j) (put_at f v w (put (f v) k x) e) ∙ (put_other (f v) k j x (λ i. h (e, i)) ∙ ap (λ u. f u j) e)
    by (inr d) = ap (λ g. g j) (put_other f v w (put (f v) k x) d)

module _ (H : Hours) (ho : HoursOk H) (L : Log) (P : Position) (K : Kept H L P)
    (v : ℕ) (known : v < fleet L) (has : P.begun v < count L v) (b : ℕ) (from : ready L P v ≤ b)
    (may : H.permits (station_of L v (P.begun v)) b (length_of L v (P.begun v)) ≡ true) where
  abbrev Q : Position
  Q = moved L P v b

  abbrev k₀ : ℕ
  k₀ = P.begun v

  abbrev W : Plan
  W = planned L P.rows

  abbrev W' : Plan
  W' = planned L Q.rows

  abbrev New : ℕ → ℕ → Type 0
  New w j = (v ≡ w) × (k₀ ≡ j)

  -- the plan after the move is the plan before it with the new row
  moved_plan : W' ≡ with_row W (row_of L P v b)
  unfolding planned moved
  moved_plan = fold_push with_row (logged L) P.rows (row_of L P v b)

  new_begin : W'.begin v k₀ ≡ b
  new_begin = ap (λ (X : Plan). X.begin v k₀) moved_plan ∙ put2_same W.begin v k₀ b

  new_end : W'.end v k₀ ≡ b + length_of L v k₀
  new_end = ap (λ (X : Plan). X.end v k₀) moved_plan ∙ put2_same W.end v k₀ (b + length_of L v k₀)

  old_begin : (w j : ℕ) → ¬ New w j → W'.begin w j ≡ W.begin w j
  old_begin w j h = ap (λ (X : Plan). X.begin w j) moved_plan ∙ put2_other W.begin v k₀ b w j h

  old_end : (w j : ℕ) → ¬ New w j → W'.end w j ≡ W.end w j
  old_end w j h = ap (λ (X : Plan). X.end w j) moved_plan ∙ put2_other W.end v k₀ (b + length_of L v k₀) w j h

  -- a step that Q has begun is the new one, or one that P has begun
  split : (w j : ℕ) → j < Q.begun w → New w j ⊎ ((j < P.begun w) × ¬ New w j)
  split w j h = by (cases_eq v w)
    where
      by : (v ≡ w) ⊎ (v ≡ w → ⊥) → New w j ⊎ ((j < P.begun w) × ¬ New w j)
      by (inl e) =
          let x = begun_same L P v b in
          let y = ap Q.begun e in
          let z = ap P.begun e in
          elim (cases_lt j k₀)
          [ inl l ↦ inr (omega arith, λ n. let m = n.1 in omega arith) | inr l ↦ inl (e, omega arith) ]
      by (inr d) = let x = begun_other L P v b w d in inr (omega arith, λ n. d n.0)

  not_new : (w j : ℕ) → j < P.begun w → ¬ New w j
  not_new w j h n = let x = ap P.begun n.0 in let y = n.1 in omega arith

  mine : IsStep L v k₀
  mine = record { known = known; within = has }

  waited : progress_of L v k₀ ≡ Waiting
  waited = K.waits v k₀ mine (omega arith)

  new_ok : StepOk H L.minute (station_of L v k₀) (length_of L v k₀) (progress_of L v k₀) b (b + length_of L v k₀)
  new_ok =
      let r = ready_clock L P v b from in
      let n = K.later in
      let z = ho.ends (station_of L v k₀) b (length_of L v k₀) may in
      record {
        begun = λ x. absurd (false≢true (subst Begun waited x));
        ended = λ x. absurd (false≢true (subst Finished waited x));
        runs = λ x. absurd (false≢true (subst Runs waited x));
        comes = λ _. (omega arith, may, omega arith);
        small = (omega arith, omega arith);
      }

  each' : (w j : ℕ) → IsStep L w j → j < Q.begun w → Suits H L W' w j
  each' w j i h = by (split w j h)
    where
      at : (x y a c : ℕ) → W'.begin x y ≡ a → W'.end x y ≡ c
          → StepOk H L.minute (station_of L x y) (length_of L x y) (progress_of L x y) a c → Suits H L W' x y
      at x y a c e f s = subst₂ (StepOk H L.minute (station_of L x y) (length_of L x y) (progress_of L x y)) (sym e) (sym f) s

      by : New w j ⊎ ((j < P.begun w) × ¬ New w j) → Suits H L W' w j
      by (inl n) = subst₂ (Suits H L W') n.0 n.1 (at v k₀ b (b + length_of L v k₀) new_begin new_end new_ok)
      by (inr o) = at w j (W.begin w j) (W.end w j) (old_begin w j o.1) (old_end w j o.1) (K.each w j i o.0)

  follows' : (w j : ℕ) → IsStep L w (suc j) → suc j < Q.begun w → W'.end w j ≤ W'.begin w (suc j)
  follows' w j i h = by (split w (suc j) h)
    where
      by : New w (suc j) ⊎ ((suc j < P.begun w) × ¬ New w (suc j)) → W'.end w j ≤ W'.begin w (suc j)
      by (inl n) =
          let x = ap P.begun n.0 in
          let e = n.1 in
          let y = old_end w j (λ m. let u = m.1 in omega arith) in
          let f = K.free w j (record { known = i.known; within = let t = i.within in omega arith }) (omega arith) in
          let g = ap P.free_vehicle n.0 in
          let r = (ready_clock L P v b from).1 in
          let z : W'.begin w (suc j) ≡ b = subst₂ (λ a c. W'.begin a c ≡ b) n.0 e new_begin in
          omega arith
      by (inr o) =
          let x = old_end w j (not_new w j (omega arith)) in
          let y = old_begin w (suc j) o.1 in
          let z = K.follows w j i o.0 in
          omega arith

  -- what P has begun on the station has ended when the new step begins
  cleared : (w j : ℕ) → IsStep L w j → j < P.begun w → station_of L v k₀ ≡ station_of L w j → W.end w j ≤ b
  cleared w j i h s =
      let x = K.taken w j i h in
      let y = ap P.free_station s in
      let r = ready_clock L P v b from in
      omega arith

  -- the new step and an old one on its station
  new_old : (w j x y : ℕ) → New x y → IsStep L w j → (j < P.begun w) × ¬ New w j → station_of L x y ≡ station_of L w j
      → W'.end w j ≤ W'.begin x y
  new_old w j x y n i o s =
      let a = old_end w j o.1 in
      let t : station_of L v k₀ ≡ station_of L w j = ap₂ (station_of L) n.0 n.1 ∙ s in
      let c = cleared w j i o.0 t in
      let z : W'.begin x y ≡ b = subst₂ (λ p q. W'.begin p q ≡ b) n.0 n.1 new_begin in
      omega arith

  apart' : (x y w j : ℕ) → IsStep L x y → IsStep L w j → y < Q.begun x → j < Q.begun w
      → station_of L x y ≡ station_of L w j → ¬ ((x ≡ w) × (y ≡ j))
      → (W'.end x y ≤ W'.begin w j) ⊎ (W'.end w j ≤ W'.begin x y)
  apart' x y w j i t h g s d = by (split x y h) (split w j g)
    where
      by : New x y ⊎ ((y < P.begun x) × ¬ New x y) → New w j ⊎ ((j < P.begun w) × ¬ New w j)
          → (W'.end x y ≤ W'.begin w j) ⊎ (W'.end w j ≤ W'.begin x y)
      by (inl n) (inl m) = absurd (d (sym n.0 ∙ m.0, sym n.1 ∙ m.1))
      by (inl n) (inr o) = inr (new_old w j x y n t o s)
      by (inr o) (inl m) = inl (new_old x y w j m i o (sym s))
      by (inr o) (inr p) =
          let a = old_end x y o.1 in
          let c = old_begin x y o.1 in
          let e = old_end w j p.1 in
          let f = old_begin w j p.1 in
          elim (K.apart x y w j i t o.0 p.0 s d) [ inl z ↦ inl (omega arith) | inr z ↦ inr (omega arith) ]

  free' : (w j : ℕ) → IsStep L w j → suc j ≡ Q.begun w → W'.end w j ≡ Q.free_vehicle w
  free' w j i h = by (cases_eq v w)
    where
      by : (v ≡ w) ⊎ (v ≡ w → ⊥) → W'.end w j ≡ Q.free_vehicle w
      by (inl e) =
          let x = begun_same L P v b in
          let y = ap Q.begun e in
          let z : k₀ ≡ j = omega arith in
          let u : W'.end w j ≡ b + length_of L v k₀ =
          subst₂ (λ p q. W'.end p q ≡ b + length_of L v k₀) e z new_end in
          let f = free_same L P v b in
          let g = ap Q.free_vehicle e in
          omega arith
      by (inr d) =
          let x = begun_other L P v b w d in
          let a = old_end w j (λ n. d n.0) in
          let f = K.free w j i (omega arith) in
          let g = free_other L P v b w d in
          omega arith

  taken' : (w j : ℕ) → IsStep L w j → j < Q.begun w
      → W'.end w j ≤ max Q.clock (Q.free_station (station_of L w j))
  taken' w j i h = by (split w j h)
    where
      by : New w j ⊎ ((j < P.begun w) × ¬ New w j) → W'.end w j ≤ max Q.clock (Q.free_station (station_of L w j))
      by (inl n) =
          let u : W'.end w j ≡ b + length_of L v k₀ =
          subst₂ (λ p q. W'.end p q ≡ b + length_of L v k₀) n.0 n.1 new_end in
          let s = station_same L P v b (station_of L w j) (ap₂ (station_of L) n.0 n.1) in
          omega arith
      by (inr o) = old (cases_eq (station_of L v k₀) (station_of L w j))
        where
          old : (station_of L v k₀ ≡ station_of L w j) ⊎ (station_of L v k₀ ≡ station_of L w j → ⊥)
              → W'.end w j ≤ max Q.clock (Q.free_station (station_of L w j))
          old (inl e) =
              let a = old_end w j o.1 in
              let c = cleared w j i o.0 e in
              let k = clock_is L P v b in
              omega arith
          old (inr d) =
              let a = old_end w j o.1 in
              let t = K.taken w j i o.0 in
              let s = station_other L P v b (station_of L w j) d in
              let k = clock_is L P v b in
              let r = (ready_clock L P v b from).0 in
              omega arith

  within' : (w : ℕ) → Q.begun w ≤ count L w
  within' w = by (cases_eq v w)
    where
      by : (v ≡ w) ⊎ (v ≡ w → ⊥) → Q.begun w ≤ count L w
      by (inl e) = let x = begun_same L P v b in let y = ap Q.begun e in let z = ap (count L) e in omega arith
      by (inr d) = let x = begun_other L P v b w d in let y = K.within w in omega arith

  waits' : (w j : ℕ) → IsStep L w j → Q.begun w ≤ j → progress_of L w j ≡ Waiting
  waits' w j i h = K.waits w j i (by (cases_eq v w))
    where
      by : (v ≡ w) ⊎ (v ≡ w → ⊥) → P.begun w ≤ j
      by (inl e) = let x = begun_same L P v b in let y = ap Q.begun e in let z = ap P.begun e in omega arith
      by (inr d) = let x = begun_other L P v b w d in omega arith

  kept' : Kept H L Q
  kept' =
      let n = K.later in
      let k = clock_is L P v b in
      let r = (ready_clock L P v b from).0 in
      record {
        within = within';
        waits = waits';
        later = omega arith;
        each = each';
        follows = follows';
        apart = apart';
        free = free';
        taken = taken';
      }

kept_child : (H : Hours) → HoursOk H → (L : Log) (P Q : Position) → Child H L P Q → Kept H L P → Kept H L Q
kept_child H ho L P Q c K =
    let m = moving H L P c.vehicle Q c.is in
    let f = ho.found _ _ _ _ m.answer in
    subst (Kept H L) m.gives (kept' H ho L P K c.vehicle c.known m.steps_left_is m.at f.0 f.1)

-- the root: what the log records
end_done : (now l : ℕ) (p : Progress) → Finished p → end_by now l p ≡ end_of p
end_done now l Waiting d = absurd (false≢true d)
end_done now l (Running b) d = absurd (false≢true d)
end_done now l (Done b e) d = refl

not_waiting : (p : Progress) → Begun p → p ≡ Waiting → ⊥
not_waiting p b e = false≢true (subst Begun e b)

module _ (H : Hours) (L : Log) (ok : LogOk L) where
  logged_ok : (v k : ℕ) → IsStep L v k → (p : Progress) → progress_of L v k ≡ p → Begun p
      → StepOk H L.minute (station_of L v k) (length_of L v k) p (begin_of p) (end_by L.minute (length_of L v k) p)
  logged_ok v k i Waiting e h = absurd (false≢true h)
  logged_ok v k i (Running b) e h =
      let p = ok.past v k i in
      let a = ap begin_of e in
      let s = ok.now_small in
      let l = ok.limits v k i in
      record {
        begun = λ _. refl;
        ended = λ x. absurd (false≢true x);
        runs = λ _. (omega arith, omega arith);
        comes = λ x. absurd (not_waiting (Running b) refl x);
        small = (omega arith, omega arith);
      }
  logged_ok v k i (Done b c) e h =
      let p = ok.past v k i in
      let a = ap begin_of e in
      let d = ap end_of e in
      let t = ok.took v k i (subst Finished (sym e) refl) in
      let s = ok.now_small in
      record {
        begun = λ _. refl;
        ended = λ _. refl;
        runs = λ x. absurd (false≢true x);
        comes = λ x. absurd (not_waiting (Done b c) refl x);
        small = (omega arith, omega arith);
      }

  logged_taken : (v k : ℕ) → IsStep L v k → (p : Progress) → progress_of L v k ≡ p
      → end_by L.minute (length_of L v k) p ≤ max L.minute (station_free L (station_of L v k))
  unfolding station_free taken_until
  logged_taken v k i Waiting e = omega arith
  logged_taken v k i (Done b c) e =
      let d = ap end_of e in
      let t = ok.took v k i (subst Finished (sym e) refl) in
      omega arith
  logged_taken v k i (Running b) e =
      let s = station_of L v k in
      let x = max_below_ge (fleet L) (λ w. max_below (count L w) (taken_until L s w)) v i.known in
      let y = max_below_ge (count L v) (taken_until L s v) k i.within in
      let c : taken_until L s v k ≡ runs_until L.minute (length_of L v k) (progress_of L v k) =
      cond-true (eqb (station_of L v k) s) _ 0 (eq-eqb _ _ refl) in
      let r = ap (runs_until L.minute (length_of L v k)) e in
      omega arith

  abbrev end_at : ℕ → ℕ → ℕ
  end_at v k = end_by L.minute (length_of L v k) (progress_of L v k)

  logged_follows : (v k : ℕ) → IsStep L v (suc k) → suc k < begun_of L v → end_at v k ≤ begin_of (progress_of L v (suc k))
  logged_follows v k i h =
      let o = ok.ordered v k i (root_begun L v (suc k) h) in
      let e = end_done L.minute (length_of L v k) (progress_of L v k) o.0 in
      omega arith

  logged_apart : (v k w j : ℕ) → IsStep L v k → IsStep L w j → k < begun_of L v → j < begun_of L w
      → station_of L v k ≡ station_of L w j → ¬ ((v ≡ w) × (k ≡ j))
      → (end_at v k ≤ begin_of (progress_of L w j)) ⊎ (end_at w j ≤ begin_of (progress_of L v k))
  logged_apart v k w j i t h g s d =
      elim (ok.apart v k w j i t s d (root_begun L v k h) (root_begun L w j g)) [
        | inl x ↦ inl (let e = end_done L.minute (length_of L v k) (progress_of L v k) x.0 in omega arith)
        | inr x ↦ inr (let e = end_done L.minute (length_of L w j) (progress_of L w j) x.0 in omega arith)
      ]

  kept_root : Kept H L (root L)
  unfolding root planned logged free_after
  kept_root = record {
    within = λ v. root_within L v;
    waits = λ v k i h. root_waits L ok v k i h;
    later = omega arith;
    each = λ v k i h. logged_ok v k i (progress_of L v k) refl (root_begun L v k h);
    follows = logged_follows;
    apart = logged_apart;
    free = λ v k i e. ap (free_after L v) e;
    taken = λ v k i h. logged_taken v k i (progress_of L v k) refl;
  }

  leaf_whole : (R : Position) → left L R ≡ 0 → Kept H L R → WholePlan H L (planned L R.rows)
  unfolding left
  leaf_whole R z K = record {
    begun = λ v k i. (K.each v k i (all v k i)).begun;
    ended = λ v k i. (K.each v k i (all v k i)).ended;
    runs = λ v k i. (K.each v k i (all v k i)).runs;
    comes = λ v k i. (K.each v k i (all v k i)).comes;
    small = λ v k i. (K.each v k i (all v k i)).small;
    follows = λ v k i. K.follows v k i (all v (suc k) i);
    apart = λ v k w j i t. K.apart v k w j i t (all v k i) (all w j t);
  }
    where
      all : (v k : ℕ) → IsStep L v k → k < R.begun v
      all v k i =
          let x = sum_below_zero (fleet L) (λ w. count L w - R.begun w) z v i.known in
          let y = i.within in
          omega arith

  leaf_finish : (R : Position) → left L R ≡ 0 → Kept H L R
      → (v : ℕ) → v < fleet L → bound_finish L R v ≡ finish L (planned L R.rows) v
  unfolding left finish
  leaf_finish R z K v l =
      let x = sum_below_zero (fleet L) (λ w. count L w - R.begun w) z v l in
      let w = K.within v in
      let f = ok.full v l in
      finish_none L R v (omega arith)
      ∙ sym (K.free v (count L v - 1) (record { known = l; within = omega arith }) (omega arith))

pub sound : {S : Type 0} (H : Hours) → HoursOk H → (G : Goal S) (L : Log) → LogOk L → (R : Position) → Leaf H L R
    → WholePlan H L (planned L R.rows) × (bound G L R ≡ plan_score G L (planned L R.rows))
unfolding bound plan_score
sound H ho G L ok R leaf =
    let K = reach_keeps H L (Kept H L) (kept_child H ho L) R (root L) leaf.reached (kept_root H L ok) in (
      leaf_whole H L ok R leaf.none_left K,
      same_score G (fleet L) (bound_finish L R) (finish L (planned L R.rows)) (leaf_finish H L ok R leaf.none_left K),
    )
