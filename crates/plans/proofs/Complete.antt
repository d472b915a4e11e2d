-- Each whole plan has a leaf none of whose finishes is later: always move the vehicle whose next step the plan begins first.
use Rattle.std.proofs.Common.{◌≡◌, ℕ, zero, suc, ◌+◌, ◌-◌, ◌<◌, ◌≤◌, max, true, eqb, ◌⊎◌, Some, None, Option, sym, refl, ap, ◌∙◌, subst, inl, inr, arith}
use Rattle.std.proofs.lemmas.Bool.{false≢true, eqb-true, cases_lt, cases_eq, cond_both}
use Rattle.hall.specs.Log.{Log, begin_of, end_of}
use Rattle.hall.specs.declared.step.Progress.{Progress}
use Rattle.hall.specs.declared.step.Progress.TheVariants.{Waiting, Running, Done}
use Rattle.plans.specs.Steps.{fleet, count, IsStep, station_of, length_of, progress_of, Begun, Runs, Finished, begun_of}
use Rattle.plans.specs.Meanings.{Hours}
use Rattle.plans.specs.Plan.{Plan, WholePlan, finish, end_by}
use Rattle.plans.specs.Position.{max_below, Position, free_after, runs_until, taken_until, station_free, root, ready, moved, left}
use Rattle.plans.proofs.Base.{below_suc, max_below_le, sum_below_zero, sum_below_none}
use Rattle.plans.proofs.Logs.{LogOk}
use Rattle.plans.proofs.Opening.{HoursOk}
use Rattle.plans.proofs.Reaching.{Child, Reach, here, go, Leaf}
use Rattle.plans.proofs.Moves.{asked, can_move, left_less}
use Rattle.plans.proofs.Root.{root_begun, root_within, root_waits}
use Rattle.plans.proofs.Bounds.{begun_same, begun_other, free_same, free_other, station_same, station_other, clock_is}

-- of the indices below n where a < c, one with the least f
pub record Least (a c f : ℕ → ℕ) (n : ℕ) : Type 0 where
  pub which : ℕ
  pub known : which < n
  pub has : a which < c which
  pub least : (w : ℕ) → w < n → a w < c w → f which ≤ f w

least_of : (a c f : ℕ → ℕ) (n : ℕ) → ((w : ℕ) → w < n → c w ≤ a w) ⊎ Least a c f n
least_of a c f zero = inl (λ w l. absurd (omega arith))
least_of a c f (suc n) = by (least_of a c f n) (cases_lt (a n) (c n))
  where
    at_last : (w : ℕ) → w < suc n → (X : ℕ → Type 0) → (w < n → X w) → X n → X w
    at_last w l X p q = elim (below_suc w n l) [ inl m ↦ p m | inr e ↦ subst X (sym e) q ]

    at_n : (a n < c n) → ((w : ℕ) → w < n → a w < c w → f n ≤ f w) → Least a c f (suc n)
    at_n l h = record {
      which = n;
      known = omega arith;
      has = l;
      least = λ w m. at_last w m (λ u. a u < c u → f n ≤ f u) (h w) (λ _. omega arith);
    }

    still : (r : Least a c f n) → (a n < c n → f r.which ≤ f n) → Least a c f (suc n)
    still r h = record {
      which = r.which;
      known = let k = r.known in omega arith;
      has = r.has;
      least = λ w m. at_last w m (λ u. a u < c u → f r.which ≤ f u) (r.least w) h;
    }

    by : ((w : ℕ) → w < n → c w ≤ a w) ⊎ Least a c f n → (a n < c n) ⊎ (c n ≤ a n)
        → ((w : ℕ) → w < suc n → c w ≤ a w) ⊎ Least a c f (suc n)
    by (inl h) (inl l) = inr (at_n l (λ w x y. let z = h w x in absurd (omega arith)))
    by (inl h) (inr l) = inl (λ w m. at_last w m (λ u. c u ≤ a u) (h w) l)
    by (inr r) (inr l) = inr (still r (λ x. absurd (omega arith)))
    by (inr r) (inl l) = elim (cases_lt (f n) (f r.which)) [
      | inl x ↦ inr (at_n l (λ w p q. let z = r.least w p q in omega arith))
      | inr x ↦ inr (still r (λ _. x))
    ]

-- nothing at P is later than the plan W has it
pub record Ahead (L : Log) (W : Plan) (P : Position) : Type 0 where
  pub waits : (v k : ℕ) → IsStep L v k → P.begun v ≤ k → progress_of L v k ≡ Waiting
  pub clocks : (v k : ℕ) → IsStep L v k → P.begun v ≤ k → P.clock ≤ W.begin v k
  pub frees : (v k : ℕ) → IsStep L v k → P.begun v ≤ k → P.free_vehicle v ≤ W.begin v k
  pub stations : (v k : ℕ) → IsStep L v k → P.begun v ≤ k → P.free_station (station_of L v k) ≤ W.begin v k
  pub finishes : (v : ℕ) → v < fleet L → count L v ≤ P.begun v → P.free_vehicle v ≤ finish L W v

module _ (H : Hours) (ho : HoursOk H) (L : Log) (ok : LogOk L) (W : Plan) (whole : WholePlan H L W) where
  -- in one vehicle the begins of Waiting steps rise
  rises : (v j k : ℕ) → IsStep L v k → ((i : ℕ) → IsStep L v i → j ≤ i → progress_of L v i ≡ Waiting) → j ≤ k
      → W.begin v j ≤ W.begin v k
  rises v j zero i h l = let e : j ≡ 0 = omega arith in subst (λ x. W.begin v x ≤ W.begin v 0) (sym e) (omega arith)
  rises v j (suc k) i h l =
      by (λ (x : j ≤ k). rises v j k (record { known = i.known; within = omega arith }) h x) (cases_lt k j)
    where
      by : (j ≤ k → W.begin v j ≤ W.begin v k) → (k < j) ⊎ (j ≤ k) → W.begin v j ≤ W.begin v (suc k)
      by ih (inl x) = let e : j ≡ suc k = omega arith in subst (λ x. W.begin v x ≤ W.begin v (suc k)) (sym e) (omega arith)
      by ih (inr x) =
          let s : IsStep L v k = record { known = i.known; within = omega arith } in
          let c = whole.comes v k s (h k s x) in
          let f = whole.follows v k i in
          let r = ih x in
          omega arith

  -- the plan's first coming step, moved at P no later than the plan begins it
  module _ (P : Position) (A : Ahead L W P) (v : ℕ) (known : v < fleet L) (has : P.begun v < count L v)
      (least : (w : ℕ) → w < fleet L → P.begun w < count L w → W.begin v (P.begun v) ≤ W.begin w (P.begun w))
      (b : ℕ) (early : b ≤ W.begin v (P.begun v)) where
    back : (w k : ℕ) → (moved L P v b).begun w ≤ k → P.begun w ≤ k
    back w k h = by (cases_eq v w)
      where
        by : (v ≡ w) ⊎ (v ≡ w → ⊥) → P.begun w ≤ k
        by (inl e) = let x = begun_same L P v b in let y = ap (moved L P v b).begun e in let z = ap P.begun e in omega arith
        by (inr d) = let x = begun_other L P v b w d in omega arith

    mine : IsStep L v (P.begun v)
    mine = record { known = known; within = has }

    mine_ends : W.begin v (P.begun v) + length_of L v (P.begun v) ≤ W.end v (P.begun v)
    mine_ends = (whole.comes v (P.begun v) mine (A.waits v (P.begun v) mine (omega arith))).2

    rises_from : (w k : ℕ) → IsStep L w k → P.begun w ≤ k → W.begin w (P.begun w) ≤ W.begin w k
    rises_from w k i h = rises w (P.begun w) k i (λ j s l. A.waits w j s l) h

    first_of_all : (w k : ℕ) → IsStep L w k → P.begun w ≤ k → W.begin v (P.begun v) ≤ W.begin w k
    first_of_all w k i h =
        let i' = i.within in
        let x = least w i.known (omega arith) in
        let y = rises_from w k i h in
        omega arith

    -- a later step of the same vehicle begins after this one's end
    same_after : (k : ℕ) → IsStep L v k → suc (P.begun v) ≤ k → W.end v (P.begun v) ≤ W.begin v k
    same_after k i h =
        let i' = i.within in
        let s : IsStep L v (suc (P.begun v)) = record { known = known; within = omega arith } in
        let x = rises v (suc (P.begun v)) k i (λ j t l. A.waits v j t (omega arith)) h in
        let y = whole.follows v (P.begun v) s in
        omega arith

    apart_after : (w k : ℕ) → IsStep L w k → (moved L P v b).begun w ≤ k
        → station_of L v (P.begun v) ≡ station_of L w k → W.end v (P.begun v) ≤ W.begin w k
    apart_after w k i h s = by (whole.apart v (P.begun v) w k mine i s other)
      where
        other : ¬ ((v ≡ w) × (P.begun v ≡ k))
        other p = let x = begun_same L P v b in let y = ap (moved L P v b).begun p.0 in let z = p.1 in omega arith

        by : (W.end v (P.begun v) ≤ W.begin w k) ⊎ (W.end w k ≤ W.begin v (P.begun v))
            → W.end v (P.begun v) ≤ W.begin w k
        by (inl x) = x
        by (inr x) =
            let m = back w k h in
            let f = first_of_all w k i m in
            let c = (whole.comes w k i (A.waits w k i m)).2 in
            let l = (ok.limits w k i).0 in
            absurd (omega arith)

    frees_at : (w k : ℕ) → IsStep L w k → (moved L P v b).begun w ≤ k → (moved L P v b).free_vehicle w ≤ W.begin w k
    frees_at w k i h = by (cases_eq v w)
      where
        by : (v ≡ w) ⊎ (v ≡ w → ⊥) → (moved L P v b).free_vehicle w ≤ W.begin w k
        by (inl e) =
            let i'' : IsStep L v k = subst (λ u. IsStep L u k) (sym e) i in
            let h' = begun_same L P v b in
            let y = ap (moved L P v b).begun e in
            let x = same_after k i'' (omega arith) in
            let f = free_same L P v b in
            let g = ap (moved L P v b).free_vehicle e in
            let m = mine_ends in
            let q = ap (λ u. W.begin u k) e in
            omega arith
        by (inr d) = let x = A.frees w k i (back w k h) in let f = free_other L P v b w d in omega arith

    stations_at : (w k : ℕ) → IsStep L w k → (moved L P v b).begun w ≤ k
        → (moved L P v b).free_station (station_of L w k) ≤ W.begin w k
    stations_at w k i h = by (cases_eq (station_of L v (P.begun v)) (station_of L w k))
      where
        by : (station_of L v (P.begun v) ≡ station_of L w k) ⊎ (station_of L v (P.begun v) ≡ station_of L w k → ⊥)
            → (moved L P v b).free_station (station_of L w k) ≤ W.begin w k
        by (inl e) =
            let x = apart_after w k i h e in
            let f = station_same L P v b (station_of L w k) e in
            let m = mine_ends in
            omega arith
        by (inr d) =
            let x = A.stations w k i (back w k h) in
            let f = station_other L P v b (station_of L w k) d in
            omega arith

    finishes_at : (w : ℕ) → w < fleet L → count L w ≤ (moved L P v b).begun w
        → (moved L P v b).free_vehicle w ≤ finish L W w
    unfolding finish
    finishes_at w l h = by (cases_eq v w)
      where
        by : (v ≡ w) ⊎ (v ≡ w → ⊥) → (moved L P v b).free_vehicle w ≤ W.end w (count L w - 1)
        by (inl e) =
            let x = begun_same L P v b in
            let y = ap (moved L P v b).begun e in
            let c = ap (count L) e in
            let z : P.begun v ≡ count L w - 1 = omega arith in
            let p = ap (W.end v) z in
            let q = ap (λ u. W.end u (count L w - 1)) e in
            let f = free_same L P v b in
            let g = ap (moved L P v b).free_vehicle e in
            let m = mine_ends in
            omega arith
        by (inr d) =
            let e = begun_other L P v b w d in
            let x = A.finishes w l (omega arith) in
            let f = free_other L P v b w d in
            omega arith

    step : Ahead L W (moved L P v b)
    step = record {
      waits = λ w k i h. A.waits w k i (back w k h);
      clocks = λ w k i h. let x = first_of_all w k i (back w k h) in let c = clock_is L P v b in omega arith;
      frees = frees_at;
      stations = stations_at;
      finishes = finishes_at;
    }

  -- the hours answer, and no later than the plan begins the step
  on_time : (P : Position) → Ahead L W P → (v : ℕ) → v < fleet L → P.begun v < count L v
      → (b : ℕ) × (asked H L P v ≡ Some b) × (b ≤ W.begin v (P.begun v))
  unfolding ready
  on_time P A v known has = by (asked H L P v) refl
    where
      s : ℕ
      s = station_of L v (P.begun v)

      l : ℕ
      l = length_of L v (P.begun v)

      mine' : IsStep L v (P.begun v)
      mine' = record { known = known; within = has }

      from : ready L P v ≤ W.begin v (P.begun v)
      from =
          let x = A.clocks v (P.begun v) mine' (omega arith) in
          let y = A.frees v (P.begun v) mine' (omega arith) in
          let z = A.stations v (P.begun v) mine' (omega arith) in
          omega arith

      may : H.permits s (W.begin v (P.begun v)) l ≡ true
      may = (whole.comes v (P.begun v) mine' (A.waits v (P.begun v) mine' (omega arith))).1

      by : (o : Option ℕ) → asked H L P v ≡ o → (b : ℕ) × (asked H L P v ≡ Some b) × (b ≤ W.begin v (P.begun v))
      by None e = absurd (ho.absent s (ready L P v) l e (W.begin v (P.begun v)) from may)
      by (Some b) e = (b, e, (ho.found s (ready L P v) l b e).2 (W.begin v (P.begun v)) from may)

  abbrev Led : Position → Type 0
  Led P = (R : Position) × Reach H L R P × (left L R ≡ 0) × ((v : ℕ) → v < fleet L → R.free_vehicle v ≤ finish L W v)

  leads : (r : ℕ) (P : Position) → left L P ≡ r → Ahead L W P → Led P
  unfolding left
  leads zero P e A =
      (P, here, e, λ v l. A.finishes v l (let z = sum_below_zero (fleet L) (λ w. count L w - P.begun w) e v l in omega arith))
  leads (suc r) P e A = by (leads r) (least_of P.begun (count L) (λ v. W.begin v (P.begun v)) (fleet L))
    where
      by : ((Q : Position) → left L Q ≡ r → Ahead L W Q → Led Q)
          → ((w : ℕ) → w < fleet L → count L w ≤ P.begun w) ⊎ Least P.begun (count L) (λ v. W.begin v (P.begun v)) (fleet L)
          → Led P
      by ih (inl all) =
          let z = sum_below_none (fleet L) (λ w. count L w - P.begun w) (λ w l. let a = all w l in omega arith) in
          absurd (omega arith)
      by ih (inr m) =
          let v = m.which in
          let t = on_time P A v m.known m.has in
          let Q = moved L P v t.0 in
          let x = left_less L P v t.0 m.known m.has in
          let z = ih Q (omega arith) (step P A v m.known m.has m.least t.0 t.2) in
          let c : Child H L P Q = record { vehicle = v; known = m.known; is = can_move H L P v t.0 m.has t.1 } in
          (z.0, go c z.1, z.2, z.3)

  -- the root: what is recorded as the plan has it, what runs no later than the plan ends it
  begun_ends : (v k : ℕ) → IsStep L v k → Begun (progress_of L v k)
      → end_by L.minute (length_of L v k) (progress_of L v k) ≤ W.end v k
  begun_ends v k i h = by (progress_of L v k) refl
    where
      by : (p : Progress) → progress_of L v k ≡ p → end_by L.minute (length_of L v k) p ≤ W.end v k
      by Waiting e = omega arith
      by (Running b) e =
          let r = whole.runs v k i (subst Runs (sym e) refl) in
          let g = whole.begun v k i h in
          let a = ap begin_of e in
          omega arith
      by (Done b c) e =
          let g = whole.ended v k i (subst Finished (sym e) refl) in
          let a = ap end_of e in
          omega arith

  root_frees : (v k : ℕ) → IsStep L v k → begun_of L v ≤ k → (c : ℕ) → begun_of L v ≡ c
      → free_after L v c ≤ W.begin v k
  unfolding free_after
  root_frees v k i h zero e = omega arith
  root_frees v k i h (suc j) e =
      let i' = i.within in
      let s : IsStep L v (suc j) = record { known = i.known; within = omega arith } in
      let t : IsStep L v j = record { known = i.known; within = omega arith } in
      let x = begun_ends v j t (root_begun L v j (omega arith)) in
      let y = whole.follows v j s in
      let z = rises v (suc j) k i (λ a u l. root_waits L ok v a u (omega arith)) (omega arith) in
      omega arith

  root_finishes : (v : ℕ) → v < fleet L → count L v ≤ begun_of L v → (c : ℕ) → begun_of L v ≡ c
      → free_after L v c ≤ finish L W v
  unfolding free_after finish
  root_finishes v l h zero e = omega arith
  root_finishes v l h (suc j) e =
      let w = root_within L v in
      let t : IsStep L v j = record { known = l; within = omega arith } in
      let x = begun_ends v j t (root_begun L v j (omega arith)) in
      let y : j ≡ count L v - 1 = omega arith in
      let z = ap (W.end v) y in
      omega arith

  root_taken : (v k : ℕ) → IsStep L v k → progress_of L v k ≡ Waiting → (w j : ℕ) → IsStep L w j
      → taken_until L (station_of L v k) w j ≤ W.begin v k
  unfolding taken_until
  root_taken v k i p w j t =
      cond_both (eqb (station_of L w j) (station_of L v k)) _ 0 (λ x. x ≤ W.begin v k)
      (λ e. by (progress_of L w j) refl (eqb-true _ _ e)) (λ _. omega arith)
    where
      by : (q : Progress) → progress_of L w j ≡ q → station_of L w j ≡ station_of L v k
          → runs_until L.minute (length_of L w j) q ≤ W.begin v k
      by Waiting e s = omega arith
      by (Done b c) e s = omega arith
      by (Running b) e s = either (whole.apart w j v k t i s other)
        where
          other : ¬ ((w ≡ v) × (j ≡ k))
          other x =
              let y : progress_of L w j ≡ progress_of L v k = ap (λ u. progress_of L u j) x.0 ∙ ap (progress_of L v) x.1 in
              false≢true (subst Runs (sym e ∙ (y ∙ p)) refl)

          either : (W.end w j ≤ W.begin v k) ⊎ (W.end v k ≤ W.begin w j)
              → max L.minute (b + length_of L w j) ≤ W.begin v k
          either (inl x) =
              let r = whole.runs w j t (subst Runs (sym e) refl) in
              let g = whole.begun w j t (subst Begun (sym e) refl) in
              let a = ap begin_of e in
              omega arith
          either (inr x) =
              let g = whole.begun w j t (subst Begun (sym e) refl) in
              let a = ok.past w j t in
              let c = whole.comes v k i p in
              let l = (ok.limits v k i).0 in
              absurd (omega arith)

  root_ahead : Ahead L W (root L)
  unfolding root station_free
  root_ahead = record {
    waits = λ v k i h. root_waits L ok v k i h;
    clocks = λ v k i h. (whole.comes v k i (root_waits L ok v k i h)).0;
    frees = λ v k i h. root_frees v k i h (begun_of L v) refl;
    stations = λ v k i h.
        max_below_le (fleet L) (λ w. max_below (count L w) (taken_until L (station_of L v k) w)) (W.begin v k)
        (λ w l. max_below_le (count L w) (taken_until L (station_of L v k) w) (W.begin v k)
        (λ j m. root_taken v k i (root_waits L ok v k i h) w j (record { known = l; within = m })));
    finishes = λ v l h. root_finishes v l h (begun_of L v) refl;
  }

pub complete : (H : Hours) → HoursOk H → (L : Log) → LogOk L → (W : Plan) → WholePlan H L W
    → (R : Position) × Leaf H L R × ((v : ℕ) → v < fleet L → R.free_vehicle v ≤ finish L W v)
complete H ho L ok W whole =
    let z = leads H ho L ok W whole (left L (root L)) (root L) refl (root_ahead H ho L ok W whole) in
    (z.0, record { reached = z.1; none_left = z.2 }, z.3)
