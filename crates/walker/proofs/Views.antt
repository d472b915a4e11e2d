-- Moves, children and bounds of the code are those of the walk.
use Rattle.std.proofs.Common.{option_map, option_to_list, ◌≡◌, ℕ, zero, suc, ◌+◌, ◌-◌, ◌<◌, ◌≤◌, max, cond, eqb, ltb, ◌⊎◌, List, [], ◌∷◌, ◌++◌, map, length, get_or, set, Some, None, Option, sym, refl, ap, ◌∙◌, subst, inl, inr, arith}
use mathlib.Core.Path.{fun_ext}
use Rattle.std.proofs.lemmas.Bool.{cases_eq, cases_lt, cond-true, cond-false, lt-ltb, le-ltb}
use Rattle.std.proofs.lemmas.List.{get_or-set_same, get_or-set_other, append-nil, append_assoc, map-append, get_or-map, length-map}
use Rattle.hall.specs.Log.{Log, blank, vehicle_at}
use Rattle.hall.specs.View.{steps_of}
use Rattle.hall.specs.Hall.{hall_log, fleet_of}
use Rattle.hall.specs.declared.board.Board.{Board}
use Rattle.hall.specs.declared.vehicle.Vehicle.{Vehicle}
use Rattle.plans.specs.declared.row.Row.{Row}
use Rattle.plans.specs.Steps.{fleet, count, station_of, length_of, progress_of}
use Rattle.plans.specs.Meanings.{Hours, Goal, score_of}
use Rattle.plans.specs.Plan.{put}
use Rattle.plans.specs.Position.{Position as Place, sum_below, ready, row_of, moved, move, left, is_leaf, lengths, bound_finish, bound}
use Rattle.plans.specs.Walk.{children_below}
use Rattle.plans.specs.Walk.{children as all-children}
use Rattle.plans.proofs.Base.{put_at, put_other}
use Rattle.plans.proofs.Scores.{same_score}
use Rattle.walker.specs.declared.position.Position.{Position}
use Rattle.walker.specs.declared.position.Standing.{Standing}
use Rattle.walker.specs.Moves.{no_standing, free_in, steps_left, no_vehicle, vehicle_in, begun_in, next_in, has_step, from_minute, begin_in, row_in, FleetOk}
use Rattle.walker.specs.Bounds.{lengths_left, finish_in, bound_in}
use Rattle.walker.specs.Trail.{child, child_by, children, children_from}
use Rattle.walker.specs.View.{table, place, view, view_due, Fits, Tells}
use Rattle.walker.proofs.Sums.{left_more, left_none}

-- a write to the array is a write to the function that reads a part of its elements
pub write_is_put : {X : Type 0} (part : X → ℕ) (xs : List X) (i : ℕ) (x d : X) → i < length xs
    → (λ j. part (get_or (set xs i x) j d)) ≡ put (λ j. part (get_or xs j d)) i (part x)
write_is_put {X} part xs i x d h = fun_ext each
  where
    read : List X → ℕ → ℕ
    read ys j = part (get_or ys j d)

    each : (j : ℕ) → read (set xs i x) j ≡ put (read xs) i (part x) j
    each j = by (cases_eq i j)
      where
        by : (i ≡ j) ⊎ (i ≡ j → ⊥) → read (set xs i x) j ≡ put (read xs) i (part x) j
        by (inl e) = subst (λ u. read (set xs i x) u ≡ part x) e (ap part (get_or-set_same xs i x d h)) ∙ sym (put_at (read xs) i j (part x) e)
        by (inr n) = ap part (get_or-set_other xs i j x d (λ y. n (sym y))) ∙ sym (put_other (read xs) i j (part x) n)

pub same_place : (a a' b b' s s' : ℕ → ℕ) (c c' : ℕ) (rs rs' : List Row) → a ≡ a' → b ≡ b' → s ≡ s' → c ≡ c' → rs ≡ rs' → place a b s c rs ≡ place a' b' s' c' rs'
same_place a a' b b' s s' c c' rs rs' e f g h i =
    ap (λ x. place x b s c rs) e ∙ ap (λ x. place a' x s c rs) f ∙ ap (λ x. place a' b' x c rs) g ∙ ap (λ x. place a' b' s' x rs) h ∙ ap (λ x. place a' b' s' c' x) i

-- a vehicle's record has the log's steps
pub steps_told : (b : Board) (v : ℕ) → v < length (fleet_of b) → vehicle_at (hall_log b) v ≡ steps_of (vehicle_in (fleet_of b) v)
steps_told b v h = get_or-map steps_of (fleet_of b) v no_vehicle [] h

-- a board's records tell its log
pub tells : (b : Board) → Tells (hall_log b) (fleet_of b)
unfolding fleet count station_of length_of progress_of
tells b = record {
  all = length-map (fleet_of b) steps_of;
  counts = λ v h. ap length (steps_told b v h);
  stations = λ v k h l. ap (λ ss. (get_or ss k blank).station) (steps_told b v h);
  lengths = λ v k h l. ap (λ ss. (get_or ss k blank).length) (steps_told b v h);
  progress = λ v k h l. ap (λ ss. (get_or ss k blank).progress) (steps_told b v h);
}

module _ (L : Log) (J : List Vehicle) (t : Tells L J) (p : Position) (rs : List Row) where
  abbrev P : Place
  P = view p rs

  -- the next step's station and length
  station_is : (v : ℕ) → v < length J → begun_in p v < count L v → station_of L v (begun_in p v) ≡ (next_in J p v).station
  station_is v h l = let c = t.counts v h in t.stations v (begun_in p v) h (omega arith)

  len_is : (v : ℕ) → v < length J → begun_in p v < count L v → length_of L v (begun_in p v) ≡ (next_in J p v).length
  len_is v h l = let c = t.counts v h in t.lengths v (begun_in p v) h (omega arith)

  ready_is : (v : ℕ) → v < length J → begun_in p v < count L v → ready L P v ≡ from_minute J p v
  unfolding ready
  ready_is v h l =
      let e = ap (table p.stations) (station_is v h l) in
      omega arith

  -- the begin sought, where a step is left
  pub begin_is : (H : Hours) (v : ℕ) → v < length J → begun_in p v < count L v → begin_in H.earliest J p v ≡ H.earliest (station_of L v (begun_in p v)) (ready L P v) (length_of L v (begun_in p v))
  begin_is H v h l =
      let c = t.counts v h in
      cond-true (has_step J p v) _ None (lt-ltb _ _ (omega arith))
      ∙ ap (λ s. H.earliest s (from_minute J p v) (next_in J p v).length) (sym (station_is v h l))
      ∙ ap (λ m. H.earliest (station_of L v (begun_in p v)) m (next_in J p v).length) (sym (ready_is v h l))
      ∙ ap (λ n. H.earliest (station_of L v (begun_in p v)) (ready L P v) n) (sym (len_is v h l))

  pub begin_none : (H : Hours) (v : ℕ) → v < length J → count L v ≤ begun_in p v → begin_in H.earliest J p v ≡ None
  begin_none H v h l = let c = t.counts v h in cond-false (has_step J p v) _ None (le-ltb _ _ (omega arith))

  -- a move of the search is the walk's move
  pub moved_is : FleetOk J → Fits p → (v b : ℕ) → v < length J → begun_in p v < count L v → view_due (child J p rs v b) ≡ moved L P v b
  unfolding moved
  moved_is ok fits v b h l =
      let c = t.counts v h in
      let few = ok.few in
      let s = (next_in J p v).station in
      let n = (next_in J p v).length in
      let es = station_is v h l in
      let en = len_is v h l in
      let low = (ok.each v h).stations (begun_in p v) (omega arith) in
      let ff = fits.vehicles in
      let fs = fits.stations in
      let now : Standing = record { begun = begun_in p v + 1; free = b + n } in
      let one : begun_in p v + 1 ≡ suc (begun_in p v) = omega arith in
      let en' : b + n ≡ b + length_of L v (begun_in p v) = ap (λ m. b + m) (sym en) in
      same_place _ _ _ _ _ _ _ _ _ _
      (write_is_put (λ (s : Standing). s.begun) p.vehicles v now no_standing (omega arith) ∙ ap (put (begun_in p) v) one)
      (write_is_put (λ (s : Standing). s.free) p.vehicles v now no_standing (omega arith) ∙ ap (put (free_in p) v) en')
      (write_is_put (λ m. m) p.stations s (b + n) 0 (omega arith) ∙ ap (λ u. put (table p.stations) u (b + n)) (sym es) ∙ ap (put (table p.stations) (station_of L v (begun_in p v))) en')
      refl
      (ap (λ (r : Row). rs ++ (r ∷ [])) (same_row v b h l))
    where
      same_row : (v b : ℕ) → v < length J → begun_in p v < count L v → row_in J p v b ≡ row_of L P v b
      same_row v b h l =
          ap (λ s. record { vehicle = v; step = begun_in p v; station = s; begin = b; end = b + (next_in J p v).length }) (sym (station_is v h l))
          ∙ ap (λ n. record { vehicle = v; step = begun_in p v; station = station_of L v (begun_in p v); begin = b; end = b + n }) (sym (len_is v h l))

  -- the children by one vehicle, and by all
  pub child_is : (H : Hours) → FleetOk J → Fits p → (v : ℕ) → v < length J → map view_due (child_by J p rs v (begin_in H.earliest J p v)) ≡ option_to_list (move H L P v)
  unfolding move
  child_is H ok fits v h = by (cases_lt (begun_in p v) (count L v))
    where
      each : (o : Option ℕ) → begun_in p v < count L v → map view_due (child_by J p rs v o) ≡ option_to_list (option_map (moved L P v) o)
      each None l = refl
      each (Some b) l = ap (λ (x : Place). x ∷ []) (moved_is ok fits v b h l)

      by : (begun_in p v < count L v) ⊎ (count L v ≤ begun_in p v) → map view_due (child_by J p rs v (begin_in H.earliest J p v)) ≡ option_to_list (cond (ltb (begun_in p v) (count L v)) (option_map (moved L P v) (H.earliest (station_of L v (begun_in p v)) (ready L P v) (length_of L v (begun_in p v)))) None)
      by (inl l) =
          ap (λ o. map view_due (child_by J p rs v o)) (begin_is H v h l)
          ∙ each _ l
          ∙ ap option_to_list (sym (cond-true (ltb (begun_in p v) (count L v)) _ None (lt-ltb _ _ l)))
      by (inr l) =
          ap (λ o. map view_due (child_by J p rs v o)) (begin_none H v h l)
          ∙ ap option_to_list (sym (cond-false (ltb (begun_in p v) (count L v)) _ None (le-ltb _ _ l)))

  pub children_is : (H : Hours) → FleetOk J → Fits p → (m n : ℕ) → n + m ≤ length J → children_below H L P n ++ map view_due (children H.earliest J p rs n m) ≡ children_below H L P (n + m)
  unfolding children_below
  children_is H ok fits zero n h = let e : n ≡ n + 0 = omega arith in append-nil (children_below H L P n) ∙ ap (children_below H L P) e
  children_is H ok fits (suc m) n h =
      let one : n + 1 ≡ suc n = omega arith in
      let e : suc n + m ≡ n + suc m = omega arith in
      ap (λ (xs : List Place). children_below H L P n ++ xs) (map-append view_due (child_by J p rs n (begin_in H.earliest J p n)) (children H.earliest J p rs (n + 1) m))
      ∙ sym (append_assoc (children_below H L P n) (map view_due (child_by J p rs n (begin_in H.earliest J p n))) (map view_due (children H.earliest J p rs (n + 1) m)))
      ∙ ap (λ (xs : List Place). (children_below H L P n ++ xs) ++ map view_due (children H.earliest J p rs (n + 1) m)) (child_is H ok fits n (omega arith))
      ∙ ap (λ (i : ℕ). children_below H L P (suc n) ++ map view_due (children H.earliest J p rs i m)) one
      ∙ children_is H ok fits m (suc n) (omega arith)
      ∙ ap (children_below H L P) e

  pub all_is : (H : Hours) → FleetOk J → Fits p → map view_due (children_from H.earliest J p rs 0) ≡ all-children H L P
  unfolding all-children children_below
  all_is H ok fits =
      let e : length J - 0 ≡ length J = omega arith in
      let z : 0 + length J ≡ fleet L = let a = t.all in omega arith in
      ap (λ n. map view_due (children H.earliest J p rs 0 n)) e
      ∙ children_is H ok fits (length J) 0 (omega arith)
      ∙ ap (children_below H L P) z

  -- the bound
  lengths_are : (v : ℕ) → v < length J → (m k : ℕ) → k + m ≡ count L v → lengths_left (vehicle_in J v) k ≡ lengths L v k m
  unfolding lengths
  lengths_are v h zero k e = let c = t.counts v h in left_none (vehicle_in J v) k (omega arith)
  lengths_are v h (suc m) k e =
      let c = t.counts v h in
      let i = lengths_are v h m (suc k) (omega arith) in
      let one : k + 1 ≡ suc k = omega arith in
      let f = left_more (vehicle_in J v) k (omega arith) in
      let g = ap (lengths_left (vehicle_in J v)) one in
      let l = t.lengths v k h (omega arith) in
      omega arith

  pub finish_is : (v : ℕ) → v < length J → finish_in J p v ≡ bound_finish L P v
  unfolding bound_finish
  finish_is v h =
      let c = t.counts v h in
      by (cases_lt (begun_in p v) (count L v))
    where
      by : (begun_in p v < count L v) ⊎ (count L v ≤ begun_in p v) → finish_in J p v ≡ cond (ltb (begun_in p v) (count L v)) (max p.clock (free_in p v) + lengths L v (begun_in p v) (count L v - begun_in p v)) (free_in p v)
      by (inl l) =
          let c = t.counts v h in
          let e = lengths_are v h (count L v - begun_in p v) (begun_in p v) (omega arith) in
          cond-true (has_step J p v) _ _ (lt-ltb _ _ (omega arith)) ∙ ap (λ n. max p.clock (free_in p v) + n) e ∙ sym (cond-true (ltb (begun_in p v) (count L v)) _ _ (lt-ltb _ _ l))
      by (inr l) =
          let c = t.counts v h in
          cond-false (has_step J p v) _ _ (le-ltb _ _ (omega arith)) ∙ sym (cond-false (ltb (begun_in p v) (count L v)) _ _ (le-ltb _ _ l))

  pub bound_is : {S : Type 0} (G : Goal S) → bound_in G J p ≡ bound G L P
  unfolding bound score_of
  bound_is G =
      ap (λ n. score_of G n (finish_in J p)) (sym t.all)
      ∙ same_score G (fleet L) (finish_in J p) (bound_finish L P) (λ v h. let a = t.all in finish_is v (omega arith))

  -- the steps left
  pub left_is : steps_left J p (length J) ≡ left L P
  unfolding left sum_below
  left_is = upto (length J) (omega arith) ∙ ap (λ n. sum_below n (λ v. count L v - begun_in p v)) (sym t.all)
    where
      sums_none : 0 ≡ sum_below 0 (λ v. count L v - begun_in p v)
      sums_none = refl

      sums_more : (n : ℕ) → count L n ≡ length (steps_of (vehicle_in J n)) → steps_left J p n ≡ sum_below n (λ v. count L v - begun_in p v) → steps_left J p n + (length (steps_of (vehicle_in J n)) - begun_in p n) ≡ sum_below n (λ v. count L v - begun_in p v) + (count L n - begun_in p n)
      sums_more n c i = omega arith

      upto : (n : ℕ) → n ≤ length J → steps_left J p n ≡ sum_below n (λ v. count L v - begun_in p v)
      upto zero h = sums_none
      upto (suc n) h = let c = t.counts n (omega arith) in let i = upto n (omega arith) in sums_more n c i

  -- the leaf test
  pub leaf_is : is_leaf L P ≡ eqb (steps_left J p (length J)) 0
  unfolding is_leaf
  leaf_is = ap (λ n. eqb n 0) (sym left_is)
