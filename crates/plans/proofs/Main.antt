-- An answer that is the walk's keeps its promise of whole plans.
use Rattle.std.proofs.Common.{option_map, ◌≡◌, ℕ, ◌-◌, ◌<◌, ◌≤◌, Bool, true, ◌⊎◌, List, [], ◌∷◌, Some, None, Option, sym, refl, ap, ◌∙◌, subst, inl, inr, arith}
use Rattle.std.proofs.lemmas.Bool.{cases_lt}
use Rattle.hall.specs.Log.{Log}
use Rattle.hall.specs.Lasting.{Lasting}
use Rattle.plans.specs.declared.answer.Answer.{Answer}
use Rattle.plans.specs.declared.row.Row.{Row}
use Rattle.plans.specs.Outcomes.{number_of, score_in}
use Rattle.plans.specs.Steps.{fleet, count}
use Rattle.plans.specs.Meanings.{Hours, hours_of, Limited, Goal, Lawful}
use Rattle.plans.specs.Plan.{Plan, WholePlan, finish, plan_score}
use Rattle.plans.specs.Position.{Position, left, bound_finish, bound}
use Rattle.plans.specs.Walk.{walk, full_visits}
use Rattle.plans.specs.Promise.{outcome_of, filled, AsWalked, Plans, Unbeaten, Promised}
use Rattle.plans.proofs.Base.{sum_below_zero}
use Rattle.plans.proofs.Logs.{LogOk, log_ok}
use Rattle.plans.proofs.Opening.{HoursOk, hours_ok}
use Rattle.plans.proofs.Scores.{earlier_score}
use Rattle.plans.proofs.Bounds.{finish_none}
use Rattle.plans.proofs.Complete.{complete}
use Rattle.plans.proofs.Best.{best_of_leaves, best_is_leaf}
use Rattle.plans.proofs.Ends.{ends, budgeted, full_walk}
use Rattle.plans.proofs.Sound.{sound}
use Rattle.plans.proofs.Counts.{leaf_rows}
use Rattle.plans.proofs.Immediate.{leaf_immediate}

-- a leaf with no finish later than a plan's is no worse
leaf_no_worse : {S : Type 0} (H : Hours) (G : Goal S) → Lawful G → (L : Log) → LogOk L → (R : Position) (W : Plan)
    → left L R ≡ 0
    → ((v : ℕ) → v < fleet L → R.free_vehicle v ≤ finish L W v) → WholePlan H L W
    → G.no_worse (bound G L R) (plan_score G L W) ≡ true
unfolding bound plan_score left finish
leaf_no_worse H G gk L ok R W z h whole =
    earlier_score G gk (fleet L) (bound_finish L R) (finish L W) ok.few each (λ v l. plan_small v l)
  where
    each : (v : ℕ) → v < fleet L → bound_finish L R v ≤ finish L W v
    each v l =
        let x = sum_below_zero (fleet L) (λ w. count L w - R.begun w) z v l in
        let e = finish_none L R v (omega arith) in
        let f = h v l in
        omega arith

    plan_small : (v : ℕ) → v < fleet L → finish L W v ≤ 2020000
    plan_small v l =
        let c = ok.full v l in
        let x = (whole.small v (count L v - 1) (record { known = l; within = omega arith })).1 in
        omega arith

-- what each outcome's number says of the state
module _ {S : Type 0} (G : Goal S) (L : Log) where
  abbrev number : List Position → Option Position → ℕ
  number ds b = number_of (outcome_of G L ds b)

  is_best : (ds : List Position) (b : Option Position) → number ds b ≡ 1 → (ds ≡ []) × ((Q : Position) × (b ≡ Some Q))
  is_best [] (Some Q) e = (refl, (Q, refl))
  is_best [] None e = absurd (omega arith)
  is_best (P ∷ ds) (Some Q) e = absurd (omega arith)
  is_best (P ∷ ds) None e = absurd (omega arith)

  is_none : (ds : List Position) (b : Option Position) → number ds b ≡ 2 → (ds ≡ []) × (b ≡ None)
  is_none [] (Some Q) e = absurd (omega arith)
  is_none [] None e = (refl, refl)
  is_none (P ∷ ds) (Some Q) e = absurd (omega arith)
  is_none (P ∷ ds) None e = absurd (omega arith)

  is_held : (ds : List Position) (b : Option Position) → number ds b ≡ 3 → (Q : Position) × (b ≡ Some Q)
  is_held ds (Some Q) e = (Q, refl)
  is_held [] None e = absurd (omega arith)
  is_held (P ∷ ds) None e = absurd (omega arith)

  is_without : (ds : List Position) (b : Option Position) → (number ds b ≡ 2) ⊎ (number ds b ≡ 4) → b ≡ None
  is_without ds None h = refl
  is_without [] (Some Q) h = absurd (elim h [ inl x ↦ omega arith | inr x ↦ omega arith ])
  is_without (P ∷ ds) (Some Q) h = absurd (elim h [ inl x ↦ omega arith | inr x ↦ omega arith ])

  is_open : (ds : List Position) (b : Option Position) → (number ds b ≡ 3) ⊎ (number ds b ≡ 4) → ds ≡ [] → ⊥
  is_open [] (Some Q) h e = elim h [ inl x ↦ omega arith | inr x ↦ omega arith ]
  is_open [] None h e = elim h [ inl x ↦ omega arith | inr x ↦ omega arith ]
  is_open (P ∷ ds) b h e = cc

  opened : (ds : List Position) (b : Option Position) → (ds ≡ [] → ⊥) → (number ds b ≡ 3) ⊎ (number ds b ≡ 4)
  opened [] b h = absurd (h refl)
  opened (P ∷ ds) (Some Q) h = inl refl
  opened (P ∷ ds) None h = inr refl

  ended : (ds : List Position) (b : Option Position) → ds ≡ [] → (number ds b ≡ 1) ⊎ (number ds b ≡ 2)
  ended [] (Some Q) e = inl refl
  ended [] None e = inr refl
  ended (P ∷ ds) b e = cc

  score_is : (ds : List Position) (b : Option Position) → score_in (outcome_of G L ds b) ≡ option_map (bound G L) b
  score_is [] (Some Q) = refl
  score_is [] None = refl
  score_is (P ∷ ds) (Some Q) = refl
  score_is (P ∷ ds) None = refl

module _ {S : Type 0} (H : Hours) (ho : HoursOk H) (G : Goal S) (gk : Lawful G) (L : Log) (ok : LogOk L)
    (k : ℕ) (r : Answer S) (before after : List Row) (t : AsWalked H G L k r before after) where
  abbrev due : List Position
  due = (walk H G L k).due

  abbrev held : Option Position
  held = (walk H G L k).best

  -- the outcome's number is that of the state
  to_walk : (n : ℕ) → number_of r.outcome ≡ n → number G L due held ≡ n
  to_walk n e = sym (ap number_of t.outcome) ∙ e

  of_walk : (n : ℕ) → number G L due held ≡ n → number_of r.outcome ≡ n
  of_walk n e = ap number_of t.outcome ∙ e

  either : (m n : ℕ) → (number_of r.outcome ≡ m) ⊎ (number_of r.outcome ≡ n)
      → (number G L due held ≡ m) ⊎ (number G L due held ≡ n)
  either m n h = elim h [ inl e ↦ inl (to_walk m e) | inr e ↦ inr (to_walk n e) ]

  or_of : (m n : ℕ) → (number G L due held ≡ m) ⊎ (number G L due held ≡ n)
      → (number_of r.outcome ≡ m) ⊎ (number_of r.outcome ≡ n)
  or_of m n h = elim h [ inl e ↦ inl (of_walk m e) | inr e ↦ inr (of_walk n e) ]

  score : score_in r.outcome ≡ option_map (bound G L) held
  score = ap score_in t.outcome ∙ score_is G L due held

  -- the plan held
  plans_at : (Q : Position) → held ≡ Some Q → Plans H G L r before after Q.rows
  plans_at Q q =
      let leaf = best_is_leaf S H G L k Q q in
      let s = sound H ho G L ok Q leaf in
      record {
        stands = t.rows ∙ ap (λ b. filled b before) q;
        all = leaf_rows H L Q leaf;
        immediate = leaf_immediate H ho L Q leaf;
        whole = s.0;
        score = score ∙ ap (option_map (bound G L)) q ∙ ap Some s.1;
      }

  unbeaten : due ≡ [] → (Q : Position) → held ≡ Some Q → Unbeaten H G L Q.rows
  unbeaten e Q q W whole =
      let s = sound H ho G L ok Q (best_is_leaf S H G L k Q q) in
      let c = complete H ho L ok W whole in
      subst (λ x. G.no_worse x (plan_score G L W) ≡ true) s.1
      (gk.transitive _ _ _ ((best_of_leaves H ho G gk L ok k e).0 Q q c.0 c.1)
      (leaf_no_worse H G gk L ok c.0 W c.1.none_left c.2 whole))

  no_plan_at : due ≡ [] → held ≡ None → (W : Plan) → WholePlan H L W → ⊥
  no_plan_at e q W whole =
      let c = complete H ho L ok W whole in
      (best_of_leaves H ho G gk L ok k e).1 q c.0 c.1

  -- something is due exactly where the budget is less than the full walk's visits
  short_of : (due ≡ [] → ⊥) → k < full_visits H G L
  short_of h = elim (cases_lt k (full_visits H G L)) [ inl x ↦ x | inr x ↦ absurd (h ((budgeted H G L k).1.1 x)) ]

  promise : Promised H G L k r before after
  promise = record {
    best = λ e.
        let b = is_best G L due held (to_walk 1 e) in
        let Q = b.1.0 in
        (Q.rows, plans_at Q b.1.1, unbeaten b.0 Q b.1.1);
    no_plan = λ e. let b = is_none G L due held (to_walk 2 e) in no_plan_at b.0 b.1;
    so_far = λ e. let b = is_held G L due held (to_walk 3 e) in (b.0.rows, plans_at b.0 b.1);
    without = λ h.
        let n = is_without G L due held (either 2 4 h) in
        (score ∙ ap (option_map (bound G L)) n, t.rows ∙ ap (λ b. filled b before) n);
    full = full_walk H G L;
    unfinished = (
      λ h. short_of (is_open G L due held (either 3 4 h)),
      λ h. or_of 3 4 (opened G L due held (λ e. let y = (budgeted H G L k).1.0 e in omega arith)),
    );
    made = t.visits ∙ (budgeted H G L k).0;
    enough = λ h. or_of 1 2 (ended G L due held ((budgeted H G L k).1.1 (omega (arith, (ends H G L).1))));
  }

pub promised : {S : Type 0} (p : ℕ → ℕ → ℕ → Bool) → Limited p → (G : Goal S) → Lawful G → (L : Log) → Lasting L
    → (k : ℕ) (r : Answer S) (before after : List Row) → AsWalked (hours_of p) G L k r before after
    → Promised (hours_of p) G L k r before after
promised p lim G gk L lasting k r before after t =
    promise (hours_of p) (hours_ok p lim) G gk L (log_ok L lasting) k r before after t
