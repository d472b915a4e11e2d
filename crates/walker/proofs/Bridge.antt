-- The code visits as the walk over the hall log does.
use Rattle.std.proofs.Common.{option_map, ◌≡◌, ℕ, zero, suc, ◌+◌, Bool, true, false, cond, List, [], ◌∷◌, ◌++◌, map, Some, None, Option, sym, refl, ap, ◌∙◌, subst, add-one, arith, length-set}
use Rattle.std.proofs.lemmas.List.{map-append}
use Rattle.std.proofs.ByRecursion.{All-append}
use Rattle.std.specs.List.{AllByRecursion}
use Rattle.hall.specs.Log.{Log}
use Rattle.hall.specs.declared.vehicle.Vehicle.{Vehicle}
use Rattle.plans.specs.declared.row.Row.{Row}
use Rattle.plans.specs.Meanings.{Hours, Goal}
use Rattle.plans.specs.Position.{Position as Place, is_leaf, bound}
use Rattle.plans.specs.Walk.{State, Effect, dropped, effect, visit_first, visit, after}
use Rattle.plans.specs.Walk.{children as all-children}
use Rattle.walker.specs.declared.position.Position.{Position}
use Rattle.walker.specs.Moves.{Query, next_in, begin_in, advanced, FleetOk}
use Rattle.walker.specs.Bounds.{bound_in}
use Rattle.walker.specs.Trail.{Due, child_by, children, children_from}
use Rattle.walk.specs.Held.{beats}
use Rattle.walker.specs.Visits.{Held, Stage, stage, score_held, visit_top, visit_due, visit_once, visits_of}
use Rattle.walker.specs.View.{view_due, Fits, Tells}
use Rattle.walker.specs.Standing.{held_at, Sees}
use Rattle.walker.proofs.Views.{all_is, bound_is, leaf_is}

-- children keep the arrays' sizes
advanced_fits : (J : List Vehicle) (p : Position) (v b : ℕ) → Fits p → Fits (advanced J p v b)
advanced_fits J p v b f = record {
  vehicles = length-set p.vehicles v _ ∙ f.vehicles;
  stations = length-set p.stations (next_in J p v).station _ ∙ f.stations;
}

abbrev Fit : Due → Type 0
Fit d = Fits d.at

children_fit : (E : Query) (J : List Vehicle) (p : Position) (rs : List Row) → Fits p → (m v : ℕ) → AllByRecursion Fit (children E J p rs v m)
children_fit E J p rs f zero v = tt
children_fit E J p rs f (suc m) v = All-append Fit (child_by J p rs v (begin_in E J p v)) _ (by (begin_in E J p v)) (children_fit E J p rs f m (v + 1))
  where
    by : (o : Option ℕ) → AllByRecursion Fit (child_by J p rs v o)
    by None = tt
    by (Some b) = (advanced_fits J p v b f, tt)

module _ {S : Type 0} (H : Hours) (G : Goal S) (L : Log) (J : List Vehicle) (t : Tells L J) (ok : FleetOk J) where
  beaten_is : (h : Option (Held S)) (b : Option Place) → h ≡ option_map (held_at G L) b → (d : Due)
      → beats G.no_worse (score_held h) (bound_in G J d.at) ≡ dropped G L b (view_due d)
  unfolding dropped
  beaten_is h None e d = ap (λ x. beats G.no_worse (score_held x) (bound_in G J d.at)) e
  beaten_is h (Some Q) e d =
      ap (λ x. beats G.no_worse (score_held x) (bound_in G J d.at)) e
      ∙ ap (G.no_worse (bound G L Q)) (bound_is L J t d.at d.rows G)

  recorded : (d : Due) → ◌≡◌ {A = Option (Held S)} (Some (record { score = bound_in G J d.at; rows = d.rows })) (Some (held_at G L (view_due d)))
  recorded d = ap (λ (x : S). Some (record { score = x; rows = d.rows })) (bound_is L J t d.at d.rows G)

  -- one visit of the first due position
  visit_top_sees : (d : Due) (ds : List Due) (h : Option (Held S)) (b : Option Place) (n : ℕ) → h ≡ option_map (held_at G L) b → AllByRecursion Fit (d ∷ ds)
      → Sees G L (visit_top H G J d ds h n) (visit_first H G L (view_due d ∷ map view_due ds) b n)
  unfolding visit_first effect
  visit_top_sees d ds h b n e (f, fs) = at (dropped G L b (view_due d)) (is_leaf L (view_due d)) _ _ (beaten_is h b e d) (sym (leaf_is L J t d.at d.rows))
    where
      at : (x y x' y' : Bool) → x' ≡ x → y' ≡ y →
          Sees G L
          (cond x' (stage ds h (n + 1))
          (cond y' (stage ds (Some (record { score = bound_in G J d.at; rows = d.rows })) (n + 1))
          (stage (children_from H.earliest J d.at d.rows 0 ++ ds) h (n + 1))))
          (record {
            due = (cond {A = Effect} x (record { due = []; best = b }) (cond y (record { due = []; best = Some (view_due d) }) (record { due = all-children H L (view_due d); best = b }))).due ++ map view_due ds;
            best = (cond {A = Effect} x (record { due = []; best = b }) (cond y (record { due = []; best = Some (view_due d) }) (record { due = all-children H L (view_due d); best = b }))).best;
            visits = suc n;
          })
      at true y x' y' ex ey = rw ex (record { due = refl; best = e; made = add-one n; fit = fs })
      at false true x' y' ex ey = rw ex (rw ey (record { due = refl; best = recorded d; made = add-one n; fit = fs }))
      at false false x' y' ex ey = rw ex (rw ey (record {
        due = map-append view_due (children_from H.earliest J d.at d.rows 0) ds
            ∙ ap (λ (xs : List Place). xs ++ map view_due ds) (all_is L J t d.at d.rows H ok f);
        best = e;
        made = add-one n;
        fit = All-append Fit (children_from H.earliest J d.at d.rows 0) ds (children_fit H.earliest J d.at d.rows f _ 0) fs;
      }))

  once : (ds : List Due) (h : Option (Held S)) (n : ℕ) (D : List Place) (b : Option Place) (m : ℕ)
      → Sees G L (stage ds h n) (record { due = D; best = b; visits = m }) → Sees G L (visit_due H G J ds h n) (visit_first H G L D b m)
  unfolding visit_first
  once [] h n [] b m s = s
  once [] h n (P ∷ D) b m s = let z : ◌≡◌ {A = ℕ} 0 1 = (let e = s.due in cc) in absurd (omega arith)
  once (d ∷ ds) h n D b m s =
      subst (λ X. Sees G L (visit_top H G J d ds h n) (visit_first H G L X b m)) s.due
      (subst (λ k. Sees G L (visit_top H G J d ds h n) (visit_first H G L (view_due d ∷ map view_due ds) b k)) s.made
      (visit_top_sees d ds h b n s.best s.fit))

  -- k visits
  pub visits_see : (k : ℕ) (s : Stage S) (w : State) → Sees G L s w → Sees G L (visits_of H G J k s) (after H G L k w)
  unfolding after visit
  visits_see zero s w h = h
  visits_see (suc k) s w h =
      visits_see k (visit_once H G J s) (visit H G L w)
      (once s.due s.best s.made w.due w.best w.visits (record { due = h.due; best = h.best; made = h.made; fit = h.fit }))
