-- The position that the code makes of a board is the root of its log.
use Rattle.std.proofs.Common.{◌≡◌, ℕ, zero, suc, ◌-◌, ◌<◌, ◌≤◌, max, eqb, ltb, ◌≢◌, ◌⊎◌, List, length, get_or, set, replicate, sym, refl, ap, ◌∙◌, subst, inl, inr, arith, length-set}
use mathlib.Core.Path.{fun_ext}
use Rattle.std.proofs.lemmas.Bool.{cases_eq, cases_lt, cond-true, cond-false, lt-ltb, eq-eqb, ne_eqb}
use Rattle.std.proofs.lemmas.List.{get_or-set_same, get_or-set_other, get_or_past}
use Rattle.hall.specs.Log.{Log}
use Rattle.hall.specs.Hall.{hall_log, fleet_of}
use Rattle.hall.specs.declared.board.Board.{Board}
use Rattle.hall.specs.declared.vehicle.Vehicle.{Vehicle}
use Rattle.plans.specs.Steps.{fleet, count, station_of, length_of, progress_of, begun_of}
use Rattle.plans.specs.Plan.{end_by}
use Rattle.plans.specs.Position.{max_below, root, free_after, runs_until, taken_until, station_free}
use Rattle.plans.proofs.Logs.{LogOk}
use Rattle.plans.proofs.Root.{root_within}
use Rattle.plans.proofs.Stations.{none_taken, last_taken, far_free}
use Rattle.walker.specs.declared.position.Position.{Position}
use Rattle.walker.specs.declared.position.Standing.{Standing}
use Rattle.walker.specs.Moves.{no_standing, standing_in, begun_in, free_in, vehicle_in, step_in}
use Rattle.walker.specs.View.{table, Fits, Tells, RootOf}
use Rattle.walker.specs.Roots.{stood, stood_upto}
use Rattle.walker.proofs.Views.{same_place, tells}
use Rattle.walker.proofs.Ready.{laws, begun_past, free_past}

same_throughout : {X : Type 0} (x : X) (n i : ℕ) → get_or (replicate n x) i x ≡ x
same_throughout x zero i = refl
same_throughout x (suc n) zero = refl
same_throughout x (suc n) (suc i) = same_throughout x n i

module _ (b : Board) where
  abbrev L : Log
  L = hall_log b

  abbrev J : List Vehicle
  J = fleet_of b

  abbrev now : ℕ
  now = L.minute

  ok : LogOk L
  ok = laws b

  t : Tells L J
  t = tells b

  taken : ℕ → ℕ → ℕ
  taken s v = max_below (count L v) (taken_until L s v)

  -- where vehicle u stands at the root
  abbrev place_of : ℕ → Standing
  place_of u = record { begun = begun_of L u; free = free_after L u (begun_of L u) }

  -- the first n vehicles stand at their places
  record Stands (n : ℕ) (p : Position) : Type 0 where
    pub fits : Fits p
    pub clock : p.clock ≡ now
    pub stands : (u : ℕ) → u < n → standing_in p u ≡ place_of u
    pub rest : (u : ℕ) → n ≤ u → standing_in p u ≡ no_standing
    pub stations : (s : ℕ) → s < 16 → table p.stations s ≡ max_below n (taken s)

  -- one write, read back below and past the vehicle
  below : (xs : List Standing) (n : ℕ) (x : Standing) (f : ℕ → Standing) → n < length xs → ((u : ℕ) → u < n → get_or xs u no_standing ≡ f u) → x ≡ f n
      → (u : ℕ) → u < suc n → get_or (set xs n x) u no_standing ≡ f u
  below xs n x f h all e u l = by (cases_eq u n)
    where
      lt_of : (u n : ℕ) → u < suc n → (u ≡ n → ⊥) → u < n
      lt_of u n l d = elim (cases_lt u n) [ inl a ↦ a | inr a ↦ absurd (d (omega arith)) ]

      by : (u ≡ n) ⊎ (u ≡ n → ⊥) → get_or (set xs n x) u no_standing ≡ f u
      by (inl q) = subst (λ i. get_or (set xs n x) i no_standing ≡ f i) (sym q) (get_or-set_same xs n x no_standing h ∙ e)
      by (inr d) = get_or-set_other xs n u x no_standing d ∙ all u (let a = lt_of u n l d in a)

  past : (xs : List Standing) (n : ℕ) (x : Standing) → ((u : ℕ) → n ≤ u → get_or xs u no_standing ≡ no_standing) → (u : ℕ) → suc n ≤ u → get_or (set xs n x) u no_standing ≡ no_standing
  past xs n x all u l = let ne : u ≢ n = omega arith in get_or-set_other xs n u x no_standing ne ∙ all u (omega arith)

  stands_none : (n : ℕ) (p : Position) → n < length J → begun_of L n ≡ 0 → Stands n p → Stands (suc n) (stood now (vehicle_in J n) n 0 p)
  unfolding max_below free_after taken
  stands_none n p h e s =
      let few = ok.few in
      let all = t.all in
      let ff = s.fits.vehicles in
      let x : Standing = record { begun = 0; free = free_in p n } in
      let here : x ≡ place_of n =
      ap (λ (y : Standing). record { begun = 0; free = y.free }) (s.rest n (omega arith))
      ∙ ap (λ k. record { begun = k; free = free_after L n k }) (sym e) in
      record {
        fits = record { vehicles = length-set p.vehicles n x ∙ s.fits.vehicles; stations = s.fits.stations };
        clock = s.clock;
        stands = below p.vehicles n x place_of (omega arith) s.stands here;
        rest = past p.vehicles n x s.rest;
        stations = λ i l. let o = s.stations i l in let z = none_taken L ok i n (omega arith) e in omega arith;
      }

  abbrev on : ℕ → Vehicle → ℕ → ℕ → ℕ → Position → Position
  on m w v k i p = record {
    vehicles = set p.vehicles v (record { begun = k; free = end_by m (step_in w i).length (step_in w i).progress });
    stations = set p.stations (step_in w i).station (max (get_or p.stations (step_in w i).station 0) (runs_until m (step_in w i).length (step_in w i).progress));
    clock = p.clock;
  }

  stands_on : (n j : ℕ) (p : Position) → n < length J → begun_of L n ≡ suc j → Stands n p → Stands (suc n) (on now (vehicle_in J n) n (suc j) j p)
  unfolding max_below free_after taken taken_until
  stands_on n j p h e s =
      let few = ok.few in
      let all = t.all in
      let within = root_within L n in
      let c = t.counts n h in
      let ff = s.fits.vehicles in
      let fs = s.fits.stations in
      let es = t.stations n j h (omega arith) in
      let el = t.lengths n j h (omega arith) in
      let ep = t.progress n j h (omega arith) in
      let low = ok.placed n j (record { known = omega arith; within = omega arith }) in
      let w = vehicle_in J n in
      let x : Standing = record { begun = suc j; free = end_by now (step_in w j).length (step_in w j).progress } in
      let here : x ≡ place_of n =
      ap (λ m. record { begun = suc j; free = m }) (ap (λ m. end_by now m (step_in w j).progress) (sym el) ∙ ap (end_by now (length_of L n j)) (sym ep))
      ∙ ap (λ k. record { begun = k; free = free_after L n k }) (sym e) in
      record {
        fits = record { vehicles = length-set p.vehicles n _ ∙ s.fits.vehicles; stations = length-set p.stations (step_in w j).station _ ∙ s.fits.stations };
        clock = s.clock;
        stands = below p.vehicles n x place_of (omega arith) s.stands here;
        rest = past p.vehicles n x s.rest;
        stations = λ i l. station i l (cases_eq i (step_in w j).station);
      }
    where
      runs : ℕ
      runs = runs_until now (step_in (vehicle_in J n) j).length (step_in (vehicle_in J n) j).progress

      same_runs : runs_until now (length_of L n j) (progress_of L n j) ≡ runs
      same_runs =
          let c = t.counts n h in
          let within = root_within L n in
          ap (λ x. runs_until now x (progress_of L n j)) (t.lengths n j h (omega arith)) ∙ ap (runs_until now (step_in (vehicle_in J n) j).length) (t.progress n j h (omega arith))

      same_station : station_of L n j ≡ (step_in (vehicle_in J n) j).station
      same_station = let c = t.counts n h in let within = root_within L n in t.stations n j h (omega arith)

      station : (i : ℕ) → i < 16 → (i ≡ (step_in (vehicle_in J n) j).station) ⊎ (i ≡ (step_in (vehicle_in J n) j).station → ⊥) → table (set p.stations (step_in (vehicle_in J n) j).station (max (get_or p.stations (step_in (vehicle_in J n) j).station 0) runs)) i ≡ max (max_below n (taken i)) (max_below (count L n) (taken_until L i n))
      station i l (inl q) =
          let all = t.all in
          let fs = s.fits.stations in
          let o = s.stations i l in
          let z = last_taken L ok i n j (omega arith) e in
          let y = cond-true (eqb (station_of L n j) i) (runs_until now (length_of L n j) (progress_of L n j)) 0 (eq-eqb _ _ (same_station ∙ sym q)) in
          let g = get_or-set_same p.stations (step_in (vehicle_in J n) j).station (max (get_or p.stations (step_in (vehicle_in J n) j).station 0) runs) 0 (omega arith) in
          let a = ap (table (set p.stations (step_in (vehicle_in J n) j).station (max (get_or p.stations (step_in (vehicle_in J n) j).station 0) runs))) q in
          let b = ap (table p.stations) q in
          let r = same_runs in
          omega arith
      station i l (inr d) =
          let all = t.all in
          let o = s.stations i l in
          let z = last_taken L ok i n j (omega arith) e in
          let y = cond-false (eqb (station_of L n j) i) (runs_until now (length_of L n j) (progress_of L n j)) 0 (ne_eqb _ _ (λ x. d (sym x ∙ same_station))) in
          let g = get_or-set_other p.stations (step_in (vehicle_in J n) j).station i (max (get_or p.stations (step_in (vehicle_in J n) j).station 0) runs) 0 d in
          omega arith

  stood_on : (v j : ℕ) (w : Vehicle) (p : Position) → stood now w v (suc j) p ≡ on now w v (suc j) j p
  stood_on v j w p =
      let i : suc j - 1 ≡ j = omega arith in
      cond-true (ltb 0 (suc j)) (on now w v (suc j) (suc j - 1) p) _ (lt-ltb 0 (suc j) (omega arith)) ∙ ap (λ x. on now w v (suc j) x p) i

  stands : (n : ℕ) → n ≤ length J → Stands n (stood_upto L J n)
  unfolding max_below
  stands zero h = record {
    fits = record { vehicles = refl; stations = refl };
    clock = refl;
    stands = λ u l. absurd (omega arith);
    rest = λ u l. same_throughout no_standing 24 u;
    stations = λ s l. same_throughout 0 16 s;
  }
  stands (suc n) h = by (begun_of L n) refl (stands n (omega arith))
    where
      by : (k : ℕ) → begun_of L n ≡ k → Stands n (stood_upto L J n) → Stands (suc n) (stood now (vehicle_in J n) n k (stood_upto L J n))
      by zero e s = stands_none n (stood_upto L J n) (omega arith) e s
      by (suc j) e s = subst (Stands (suc n)) (sym (stood_on n j (vehicle_in J n) (stood_upto L J n))) (stands_on n j (stood_upto L J n) (omega arith) e s)

  pub rooted : RootOf L (stood_upto L J (length J))
  unfolding root station_free taken
  rooted = record { fits = s.fits; is = same_place _ _ _ _ _ _ _ _ _ _ (fun_ext begun) (fun_ext free) (fun_ext station) s.clock refl }
    where
      s : Stands (length J) (stood_upto L J (length J))
      s = stands (length J) (omega arith)

      begun : (u : ℕ) → begun_in (stood_upto L J (length J)) u ≡ begun_of L u
      begun u = elim (cases_lt u (length J)) [
        | inl a ↦ ap (λ (x : Standing). x.begun) (s.stands u a)
        | inr a ↦ ap (λ (x : Standing). x.begun) (s.rest u a) ∙ sym (begun_past L u (let q = t.all in omega arith))
      ]

      free : (u : ℕ) → free_in (stood_upto L J (length J)) u ≡ free_after L u (begun_of L u)
      free u = elim (cases_lt u (length J)) [
        | inl a ↦ ap (λ (x : Standing). x.free) (s.stands u a)
        | inr a ↦ ap (λ (x : Standing). x.free) (s.rest u a) ∙ sym (free_past L u (let q = t.all in omega arith))
      ]

      station : (i : ℕ) → table (stood_upto L J (length J)).stations i ≡ max_below (fleet L) (λ v. max_below (count L v) (taken_until L i v))
      station i = elim (cases_lt i 16) [ inl a ↦ s.stations i a ∙ ap (λ n. max_below n (taken i)) (sym t.all) | inr a ↦ get_or_past _ i 0 (let q = s.fits.stations in omega arith) ∙ sym (far_free L ok i a) ]
