-- What a move changes, and that it makes no finish of the bound earlier.
use Rattle.std.proofs.Common.{◌≡◌, ℕ, suc, ◌+◌, ◌-◌, ◌<◌, ◌≤◌, max, ltb, ◌⊎◌, refl, ap, subst, inl, inr, arith}
use Rattle.std.proofs.lemmas.Bool.{lt-ltb, le-ltb, cases_lt, cases_eq, cond-true, cond-false}
use Rattle.hall.specs.Log.{Log}
use Rattle.plans.specs.Steps.{count, station_of, length_of}
use Rattle.plans.specs.Meanings.{Hours}
use Rattle.plans.specs.Position.{Position, ready, moved, lengths, bound_finish}
use Rattle.plans.proofs.Base.{put_same, put_at, put_other}
use Rattle.plans.proofs.Opening.{HoursOk}
use Rattle.plans.proofs.Reaching.{Child, Reach, here, go}
use Rattle.plans.proofs.Moves.{moving}

pub finish_left : (L : Log) (P : Position) (v : ℕ) → P.begun v < count L v
    → bound_finish L P v ≡ max P.clock (P.free_vehicle v) + lengths L v (P.begun v) (count L v - P.begun v)
unfolding bound_finish
finish_left L P v h = cond-true (ltb (P.begun v) (count L v)) _ _ (lt-ltb _ _ h)

pub finish_none : (L : Log) (P : Position) (v : ℕ) → count L v ≤ P.begun v → bound_finish L P v ≡ P.free_vehicle v
unfolding bound_finish
finish_none L P v h = cond-false (ltb (P.begun v) (count L v)) _ _ (le-ltb _ _ h)

lengths_more : (L : Log) (v k : ℕ) → k < count L v
    → lengths L v k (count L v - k) ≡ length_of L v k + lengths L v (suc k) (count L v - suc k)
unfolding lengths
lengths_more L v k h = let e : count L v - k ≡ suc (count L v - suc k) = omega arith in rw e refl

lengths_none : (L : Log) (v k : ℕ) → count L v ≤ k → lengths L v k (count L v - k) ≡ 0
unfolding lengths
lengths_none L v k h = let e : count L v - k ≡ 0 = omega arith in rw e refl

-- what a move changes, vehicle by vehicle
pub begun_same : (L : Log) (P : Position) (v b : ℕ) → (moved L P v b).begun v ≡ suc (P.begun v)
unfolding moved
begun_same L P v b = put_same P.begun v (suc (P.begun v))

pub begun_other : (L : Log) (P : Position) (v b w : ℕ) → (v ≡ w → ⊥) → (moved L P v b).begun w ≡ P.begun w
unfolding moved
begun_other L P v b w d = put_other P.begun v w (suc (P.begun v)) d

pub free_same : (L : Log) (P : Position) (v b : ℕ) → (moved L P v b).free_vehicle v ≡ b + length_of L v (P.begun v)
unfolding moved
free_same L P v b = put_same P.free_vehicle v (b + length_of L v (P.begun v))

pub free_other : (L : Log) (P : Position) (v b w : ℕ) → (v ≡ w → ⊥) → (moved L P v b).free_vehicle w ≡ P.free_vehicle w
unfolding moved
free_other L P v b w d = put_other P.free_vehicle v w (b + length_of L v (P.begun v)) d

pub station_same : (L : Log) (P : Position) (v b s : ℕ) → station_of L v (P.begun v) ≡ s
    → (moved L P v b).free_station s ≡ b + length_of L v (P.begun v)
unfolding moved
station_same L P v b s e = put_at P.free_station (station_of L v (P.begun v)) s (b + length_of L v (P.begun v)) e

pub station_other : (L : Log) (P : Position) (v b s : ℕ) → (station_of L v (P.begun v) ≡ s → ⊥)
    → (moved L P v b).free_station s ≡ P.free_station s
unfolding moved
station_other L P v b s d = put_other P.free_station (station_of L v (P.begun v)) s (b + length_of L v (P.begun v)) d

pub clock_is : (L : Log) (P : Position) (v b : ℕ) → (moved L P v b).clock ≡ b
unfolding moved
clock_is L P v b = refl

-- one move makes no bound's finish earlier
grows_same : (L : Log) (P : Position) (v b : ℕ) → P.begun v < count L v → P.clock ≤ b → P.free_vehicle v ≤ b
    → bound_finish L P v ≤ bound_finish L (moved L P v b) v
grows_same L P v b h c f = cases (cases_lt ((moved L P v b).begun v) (count L v))
  where
    cases : ((moved L P v b).begun v < count L v) ⊎ (count L v ≤ (moved L P v b).begun v)
        → bound_finish L P v ≤ bound_finish L (moved L P v b) v
    cases (inl l) =
        let p = finish_left L P v h in
        let m = lengths_more L v (P.begun v) h in
        let q = finish_left L (moved L P v b) v l in
        let e = ap (λ k. lengths L v k (count L v - k)) (begun_same L P v b) in
        let fr = free_same L P v b in
        omega arith
    cases (inr l) =
        let p = finish_left L P v h in
        let m = lengths_more L v (P.begun v) h in
        let q = finish_none L (moved L P v b) v l in
        let e = begun_same L P v b in
        let z = lengths_none L v (suc (P.begun v)) (omega arith) in
        let fr = free_same L P v b in
        omega arith

grows_other : (L : Log) (P : Position) (v b : ℕ) → P.clock ≤ b → (w : ℕ) → (v ≡ w → ⊥)
    → bound_finish L P w ≤ bound_finish L (moved L P v b) w
grows_other L P v b c w d = cases (cases_lt (P.begun w) (count L w))
  where
    cases : (P.begun w < count L w) ⊎ (count L w ≤ P.begun w) → bound_finish L P w ≤ bound_finish L (moved L P v b) w
    cases (inl l) =
        let e = begun_other L P v b w d in
        let p = finish_left L P w l in
        let q = finish_left L (moved L P v b) w (omega arith) in
        let x = ap (λ k. lengths L w k (count L w - k)) e in
        let fr = free_other L P v b w d in
        let k = clock_is L P v b in
        omega arith
    cases (inr l) =
        let e = begun_other L P v b w d in
        let p = finish_none L P w l in
        let q = finish_none L (moved L P v b) w (omega arith) in
        let fr = free_other L P v b w d in
        omega arith

finish_grows : (L : Log) (P : Position) (v b : ℕ) → P.begun v < count L v → P.clock ≤ b → P.free_vehicle v ≤ b
    → (w : ℕ) → bound_finish L P w ≤ bound_finish L (moved L P v b) w
finish_grows L P v b h c f w = cases (cases_eq v w)
  where
    cases : (v ≡ w) ⊎ (v ≡ w → ⊥) → bound_finish L P w ≤ bound_finish L (moved L P v b) w
    cases (inl e) = subst (λ u. bound_finish L P u ≤ bound_finish L (moved L P v b) u) e (grows_same L P v b h c f)
    cases (inr d) = grows_other L P v b c w d

pub ready_clock : (L : Log) (P : Position) (v b : ℕ) → ready L P v ≤ b
    → (P.clock ≤ b) × (P.free_vehicle v ≤ b) × (P.free_station (station_of L v (P.begun v)) ≤ b)
unfolding ready
ready_clock L P v b h = omega arith

child_grows : (H : Hours) → HoursOk H → (L : Log) (P Q : Position) → Child H L P Q
    → (w : ℕ) → bound_finish L P w ≤ bound_finish L Q w
child_grows H ho L P Q c w =
    let m = moving H L P c.vehicle Q c.is in
    let f = ho.found _ _ _ _ m.answer in
    let r = ready_clock L P c.vehicle m.at f.0 in
    subst (λ X. bound_finish L P w ≤ bound_finish L X w) m.gives
    (finish_grows L P c.vehicle m.at m.steps_left_is r.0 r.1 w)

pub reach_grows : (H : Hours) → HoursOk H → (L : Log) (R P : Position) → Reach H L R P
    → (w : ℕ) → bound_finish L P w ≤ bound_finish L R w
reach_grows H ho L R P here w = omega arith
reach_grows H ho L R P (go {Q = Q} c r) w =
    let a = child_grows H ho L P Q c w in
    let b = reach_grows H ho L R Q r w in
    omega arith
