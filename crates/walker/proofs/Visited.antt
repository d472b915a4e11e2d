-- The ways of a visit, on what the walker stands for.
use Rattle.std.proofs.Common.{◌≡◌, ℕ, zero, suc, ◌+◌, ◌-◌, ◌<◌, ◌≤◌, true, false, eqb, ◌≢◌, List, [], ◌++◌, length, take, set, Some, Option, sym, refl, ap, ◌∙◌, arith, length-set, get_or-set_other, get_or-set_same}
use Rattle.std.proofs.lemmas.Bool.{eq-eqb, ne_eqb}
use Rattle.std.proofs.lemmas.List.{take_all}
use Rattle.hall.specs.declared.vehicle.Vehicle.{Vehicle}
use Rattle.plans.specs.declared.row.Row.{Row}
use Rattle.plans.specs.Meanings.{Hours, Goal}
use Rattle.walk.specs.Held.{beats}
use Rattle.walker.specs.declared.trail.Frame.{Frame}
use Rattle.walker.specs.declared.trail.Trail.{Trail}
use Rattle.walker.specs.declared.walker.Walker.{Walker}
use Rattle.walker.specs.Moves.{steps_left}
use Rattle.walker.specs.Bounds.{bound_in}
use Rattle.walker.specs.Trail.{Due, children_from, no_frame, frame_in, top_of, below, due_upto, due_left, Opened, Popped, TrailOk}
use Rattle.walker.specs.Visits.{Held, stage, held_in, score_held, visit_top, visit_due, visit_once, visits_of, stage_of, stage_left}
use Rattle.walker.proofs.Trails.{below_same, left_popped}

-- the top position has steps left exactly where it is fewer moves below the root than there are steps
pub leaf_below : (J : List Vehicle) (t : Trail) → TrailOk J t → 0 < length t.frames.items → length t.path.items < t.steps → eqb (steps_left J (top_of t).at (length J)) 0 ≡ false
leaf_below J t ok some lt = let few = (ok.each (length t.frames.items - 1) (omega arith)).few in ne_eqb _ _ (λ z. omega (arith, ok.rows))

pub leaf_at : (J : List Vehicle) (t : Trail) → TrailOk J t → 0 < length t.frames.items → t.steps ≤ length t.path.items → eqb (steps_left J (top_of t).at (length J)) 0 ≡ true
leaf_at J t ok some le = let few = (ok.each (length t.frames.items - 1) (omega arith)).few in eq-eqb _ _ (omega (arith, ok.rows))

same_stage : {S : Type 0} {ds ds' : List Due} {h h' : Option (Held S)} {n n' : ℕ} → ds ≡ ds' → h ≡ h' → n ≡ n' → stage ds h n ≡ stage ds' h' n'
same_stage d h n = cc

module _ {S : Type 0} (H : Hours) (G : Goal S) (J : List Vehicle) (w w' : Walker S) (some : 0 < length w.trail.frames.items) (ok : TrailOk J w.trail)
    (made : w'.visits ≡ w.visits + 1) (x : S) (top : Frame) (is : top ≡ top_of w.trail) (scored : x ≡ bound_in G J top.at) where
  -- the score that is tested is the top position's bound
  bound : x ≡ bound_in G J (top_of w.trail).at
  bound = scored ∙ ap (λ (f : Frame). bound_in G J f.at) is

  -- a visit of the stage is a visit of the top position
  at_top : visit_once H G J (stage_of H J w) ≡
      visit_top H G J (record { at = (top_of w.trail).at; rows = w.trail.path.items })
      (below H.earliest J w.trail.frames.items w.trail.path.items (length w.trail.frames.items - 1)) (held_in w) w.visits
  at_top =
      let d : ℕ = length w.trail.frames.items - 1 in
      let e : length w.trail.frames.items ≡ suc d = omega arith in
      let rows = take_all d w.trail.path.items (omega (arith, ok.rows)) in
      ap (λ n. visit_due H G J (due_upto H.earliest J w.trail.frames.items w.trail.path.items n) (held_in w) w.visits) e
      ∙ ap (λ (rs : List Row). visit_top H G J (record { at = (top_of w.trail).at; rows = rs })
      (below H.earliest J w.trail.frames.items w.trail.path.items d) (held_in w) w.visits) rows

  pub step_dropped : Popped w.trail w'.trail → held_in w' ≡ held_in w → beats G.no_worse (score_held (held_in w)) x ≡ true →
      stage_left H J w' ≡ visit_once H G J (stage_of H J w)
  step_dropped p h b = same_stage (left_popped H.earliest J w.trail w'.trail p ok) h made ∙ sym (at_top ∙ simp (← bound, b))

  pub step_recorded : Popped w.trail w'.trail → held_in w' ≡ Some (record { score = x; rows = w.trail.path.items }) →
      beats G.no_worse (score_held (held_in w)) x ≡ false →
      eqb (steps_left J (top_of w.trail).at (length J)) 0 ≡ true →
      stage_left H J w' ≡ visit_once H G J (stage_of H J w)
  step_recorded p h b leaf = same_stage (left_popped H.earliest J w.trail w'.trail p ok) h made ∙ sym (at_top ∙ simp (← bound, b, leaf))

  pub step_opened : Opened w.trail w'.trail → held_in w' ≡ held_in w →
      beats G.no_worse (score_held (held_in w)) x ≡ false →
      eqb (steps_left J (top_of w.trail).at (length J)) 0 ≡ false →
      stage_left H J w' ≡ visit_once H G J (stage_of H J w)
  step_opened p h b leaf =
      let d : ℕ = length w.trail.frames.items - 1 in
      let fs : List Frame = w.trail.frames.items in
      let path : List Row = w.trail.path.items in
      let t : Frame = record { at = (top_of w.trail).at; next = 0 } in
      let e : length (set fs d t) ≡ suc d = omega (arith, length-set fs d t) in
      let here : frame_in (set fs d t) d ≡ t = get_or-set_same fs d t no_frame (omega arith) in
      let rest : below H.earliest J (set fs d t) path d ≡ below H.earliest J fs path d =
      below_same H.earliest J fs (set fs d t) path path d (λ i l. let ne : i ≢ d = omega arith in get_or-set_other fs d i t no_frame ne) (λ i l. refl) in
      let due : due_left H.earliest J w'.trail ≡ children_from H.earliest J t.at path 0 ++ below H.earliest J fs path d =
      ap (λ (x : List Frame). below H.earliest J x w'.trail.path.items (length x)) p.frames
      ∙ ap (λ (x : List Row). below H.earliest J (set fs d t) x (length (set fs d t))) p.path
      ∙ ap (below H.earliest J (set fs d t) path) e
      ∙ ap (λ (x : Frame). children_from H.earliest J x.at (take d path) x.next ++ below H.earliest J (set fs d t) path d) here
      ∙ ap (λ (x : List Row). children_from H.earliest J t.at x 0 ++ below H.earliest J (set fs d t) path d) (take_all d path (omega (arith, ok.rows)))
      ∙ ap (λ (x : List Due). children_from H.earliest J t.at path 0 ++ x) rest in
      same_stage due h made ∙ sym (at_top ∙ simp (← bound, b, leaf))

-- with nothing due nothing is visited
pub visits_done : {S : Type 0} (H : Hours) (G : Goal S) (J : List Vehicle) (k : ℕ) (h : Option (Held S)) (n : ℕ) → visits_of H G J k (stage [] h n) ≡ stage [] h n
visits_done H G J zero h n = refl
visits_done H G J (suc k) h n = visits_done H G J k h n

pub visits_end : {S : Type 0} (H : Hours) (G : Goal S) (J : List Vehicle) (w : Walker S) (k : ℕ) → length w.trail.frames.items ≡ 0 → visits_of H G J k (stage_of H J w) ≡ stage_of H J w
visits_end H G J w k z =
    let e : stage_of H J w ≡ stage [] (held_in w) w.visits = ap (λ n. stage (due_upto H.earliest J w.trail.frames.items w.trail.path.items n) (held_in w) w.visits) z in
    ap (visits_of H G J k) e ∙ visits_done H G J k (held_in w) w.visits ∙ sym e
