-- What the trail holds due, and how a push and a pop change it.
use Rattle.std.proofs.Common.{◌≡◌, ℕ, zero, suc, ◌+◌, ◌-◌, ◌<◌, ◌≢◌, List, [], ◌∷◌, ◌++◌, length, take, set, Some, None, Option, sym, refl, ap, ◌∙◌, subst, inl, inr, arith, length-set, get_or-set_other, get_or-set_same}
use Rattle.std.proofs.Math.Seq.{get_or-append_seam}
use Rattle.std.specs.List.{slice_get}
use Rattle.std.proofs.lemmas.Option.{get_or_from_slice_get, slice_get_cases}
use Rattle.std.proofs.lemmas.Bool.{cases_eq, cases_lt}
use Rattle.std.proofs.lemmas.List.{get_or_append_left, get_or-take, length-append, length-take-le, take_all, take-append-le, take-take}
use Rattle.hall.specs.declared.vehicle.Vehicle.{Vehicle}
use Rattle.plans.specs.declared.row.Row.{Row}
use Rattle.walker.specs.declared.position.Move.{Move}
use Rattle.walker.specs.declared.trail.Frame.{Frame}
use Rattle.walker.specs.declared.trail.Trail.{Trail}
use Rattle.walker.specs.Moves.{Query, advanced, row_in, CanMove}
use Rattle.walker.specs.Trail.{Due, children_from, Found, no_frame, frame_in, top_of, below, due_upto, due_of, due_left, Pushed, Popped, FrameOk, TrailOk}
use Rattle.walker.proofs.Steps.{moved_sane, moved_fewer}

-- frames where one was added at the end: the added one, and those before
added_last : (fs : List Frame) (q : Frame) (d : ℕ) → length fs ≡ d → frame_in (fs ++ q ∷ []) d ≡ q
added_last fs q d e = subst (λ n. frame_in (fs ++ q ∷ []) n ≡ q) e (get_or-append_seam fs q [] no_frame)

added_before : (fs : List Frame) (q : Frame) (i : ℕ) → i < length fs → frame_in (fs ++ q ∷ []) i ≡ frame_in fs i
added_before fs q i h = get_or_append_left fs (q ∷ []) no_frame i h

module _ (E : Query) (J : List Vehicle) where
  -- frames and rows that agree below d hold the same due
  pub below_same : (fs fs' : List Frame) (path path' : List Row) (d : ℕ) →
      ((i : ℕ) → i < d → frame_in fs' i ≡ frame_in fs i) → ((i : ℕ) → i < d → take i path' ≡ take i path) →
      below E J fs' path' d ≡ below E J fs path d
  below_same fs fs' path path' zero f r = refl
  below_same fs fs' path path' (suc d) f r =
      let ih = below_same fs fs' path path' d (λ i h. f i (omega arith)) (λ i h. r i (omega arith)) in
      let ef = f d (omega arith) in
      let er = r d (omega arith) in
      ap (λ (x : Frame). children_from E J x.at (take d path') x.next ++ below E J fs' path' d) ef
      ∙ ap (λ (x : List Row). children_from E J (frame_in fs d).at x (frame_in fs d).next ++ below E J fs' path' d) er
      ∙ ap (λ (x : List Due). children_from E J (frame_in fs d).at (take d path) (frame_in fs d).next ++ x) ih

  push_core : (fs : List Frame) (path : List Row) (d : ℕ) (t q : Frame) (r : Row) →
      length fs ≡ suc d → length path ≡ d →
      due_upto E J (set fs d t ++ q ∷ []) (path ++ r ∷ []) (suc (suc d)) ≡
      record { at = q.at; rows = take d path ++ (r ∷ []) } ∷ (children_from E J t.at (take d path) t.next ++ below E J fs path d)
  push_core fs path d t q r deep long =
      let fs' : List Frame = set fs d t ++ q ∷ [] in
      let path' : List Row = path ++ r ∷ [] in
      let sized = length-set fs d t in
      let grown = length-append path (r ∷ []) in
      let top : frame_in fs' (suc d) ≡ q = added_last (set fs d t) q (suc d) (omega arith) in
      let under : frame_in fs' d ≡ t = added_before (set fs d t) q d (omega arith) ∙ get_or-set_same fs d t no_frame (omega arith) in
      let rows : take (suc d) path' ≡ take d path ++ (r ∷ []) = take_all (suc d) path' (omega arith) ∙ ap (λ (x : List Row). x ++ r ∷ []) (sym (take_all d path (omega arith))) in
      let rows' : take d path' ≡ take d path = take-append-le d path (r ∷ []) (omega arith) in
      let rest : below E J fs' path' d ≡ below E J fs path d =
      below_same fs fs' path path' d
      (λ i h. let ne : i ≢ d = omega arith in added_before (set fs d t) q i (omega arith) ∙ get_or-set_other fs d i t no_frame ne)
      (λ i h. take-append-le i path (r ∷ []) (omega arith)) in
      ap (λ (x : Frame). record { at = x.at; rows = take (suc d) path' } ∷ (children_from E J (frame_in fs' d).at (take d path') (frame_in fs' d).next ++ below E J fs' path' d)) top
      ∙ ap (λ (x : List Row). record { at = q.at; rows = x } ∷ (children_from E J (frame_in fs' d).at (take d path') (frame_in fs' d).next ++ below E J fs' path' d)) rows
      ∙ ap (λ (x : Frame). record { at = q.at; rows = take d path ++ (r ∷ []) } ∷ (children_from E J x.at (take d path') x.next ++ below E J fs' path' d)) under
      ∙ ap (λ (x : List Row). record { at = q.at; rows = take d path ++ (r ∷ []) } ∷ (children_from E J t.at x t.next ++ below E J fs' path' d)) rows'
      ∙ ap (λ (x : List Due). record { at = q.at; rows = take d path ++ (r ∷ []) } ∷ (children_from E J t.at (take d path) t.next ++ x)) rest

  -- a push makes the first child of the top frame the top
  pub due_pushed : (s t : Trail) (m : Move) → Pushed J m s t → TrailOk J s → 0 < length s.frames.items → Found E J (top_of s) (Some m) →
      due_of E J t ≡ due_left E J s
  due_pushed s t m p ok some found =
      let d : ℕ = length s.frames.items - 1 in
      let fs = s.frames.items in
      let path = s.path.items in
      let at = (top_of s).at in
      let x : Frame = record { at = at; next = m.vehicle + 1 } in
      let q : Frame = record { at = advanced J at m.vehicle m.begin; next = 0 } in
      let r = row_in J at m.vehicle m.begin in
      let e : length fs ≡ suc d = omega arith in
      let grown : length (set fs d x ++ q ∷ []) ≡ suc (suc d) = omega (arith, length-append (set fs d x) (q ∷ []), length-set fs d x) in
      ap (λ (ys : List Frame). due_upto E J ys t.path.items (length ys)) p.frames
      ∙ ap (λ (ys : List Row). due_upto E J (set fs d x ++ q ∷ []) ys (length (set fs d x ++ q ∷ []))) p.path
      ∙ ap (due_upto E J (set fs d x ++ q ∷ []) (path ++ r ∷ [])) grown
      ∙ push_core fs path d x q r e ok.rows
      ∙ ap (λ (ys : List Due). ys ++ below E J fs path d) (sym (found.1 (take d path)))
      ∙ ap (below E J fs path) (sym e)

  -- what is held due once the top frame is let go
  pub left_popped : (s t : Trail) → Popped s t → TrailOk J s → due_left E J t ≡ below E J s.frames.items s.path.items (length s.frames.items - 1)
  left_popped s t p ok =
      let d : ℕ = length s.frames.items - 1 in
      let n : length t.frames.items ≡ d = ap length p.frames ∙ length-take-le d s.frames.items (omega arith) in
      let rows = ok.rows in
      ap (below E J t.frames.items t.path.items) n
      ∙ below_same s.frames.items t.frames.items s.path.items t.path.items d
      (λ i h. ap (λ (x : List Frame). frame_in x i) p.frames ∙ get_or-take d s.frames.items i no_frame h)
      (λ i h. ap (take i) p.path ∙ take-take i (length s.path.items - 1) s.path.items (omega arith))

  -- a frame with no child left is let go
  pub below_popped : (s t : Trail) → Popped s t → TrailOk J s → 0 < length s.frames.items → Found E J (top_of s) None → due_left E J t ≡ due_left E J s
  below_popped s t p ok some none =
      let d : ℕ = length s.frames.items - 1 in
      let e : length s.frames.items ≡ suc d = omega arith in
      left_popped s t p ok
      ∙ sym (ap (below E J s.frames.items s.path.items) e ∙ ap (λ (x : List Due). x ++ below E J s.frames.items s.path.items d) (none (take d s.path.items)))

-- what is found from the last frame is found from the top one
pub found_top : (E : Query) (J : List Vehicle) (s : Trail) (fs : List Frame) (f : Frame) (o : Option Move) → fs ≡ s.frames.items → Some f ≡ slice_get fs (length fs - 1) → Found E J f o →
    (0 < length s.frames.items) × Found E J (top_of s) o
found_top E J s fs f o e last found = (omega (arith, some, ap length e), subst (λ x. Found E J x o) (sym (get_or_from_slice_get fs (length fs - 1) f no_frame (sym last)) ∙ ap (λ xs. frame_in xs (length xs - 1)) e) found)
  where
    some : 0 < length fs
    some = elim (slice_get_cases fs (length fs - 1)).1 [ inl a ↦ (let lt = a.1 in omega arith) | inr n ↦ (let z = n.1 in cc) ]

-- each frame is as many moves below the root as frames stand before it
abbrev pub EachOk : List Vehicle → ℕ → List Frame → Type 0
EachOk J R fs = (i : ℕ) → i < length fs → FrameOk J R i (frame_in fs i).at

module _ (J : List Vehicle) (s t : Trail) where
  -- there is room for a move
  pub room : (m : Move) → TrailOk J s → 0 < length s.frames.items → CanMove J (top_of s).at m.vehicle m.begin → length s.frames.items < 193
  room m ok some can =
      let here = ok.each (length s.frames.items - 1) (omega arith) in
      let fewer = moved_fewer J (top_of s).at m.vehicle m.begin can here.sane in
      let few = here.few in
      let most = ok.few in
      omega arith

  pub popped_ok : Popped s t → TrailOk J s → TrailOk J t
  popped_ok p ok =
      let d : ℕ = length s.frames.items - 1 in
      let n = length-take-le d s.frames.items (omega arith) in
      let k = length-take-le (length s.path.items - 1) s.path.items (omega arith) in
      record {
        rows = omega (arith, ap length p.frames, ap length p.path, ok.rows);
        few = omega (arith, p.steps, ok.few);
        each = subst (λ R. EachOk J R t.frames.items) (sym p.steps) (subst (EachOk J s.steps) (sym p.frames)
            (λ i h. rw (get_or-take d s.frames.items i no_frame (omega arith)) (ok.each i (omega arith))));
      }

  pub pushed_ok : (m : Move) → Pushed J m s t → TrailOk J s → 0 < length s.frames.items → CanMove J (top_of s).at m.vehicle m.begin → TrailOk J t
  pushed_ok m p ok some can =
      let d : ℕ = length s.frames.items - 1 in
      let fs = s.frames.items in
      let at = (top_of s).at in
      let x : Frame = record { at = at; next = m.vehicle + 1 } in
      let q : Frame = record { at = advanced J at m.vehicle m.begin; next = 0 } in
      let sized = length-set fs d x in
      let grown = length-append (set fs d x) (q ∷ []) in
      let here = ok.each d (omega arith) in
      let fewer = moved_fewer J at m.vehicle m.begin can here.sane in
      let top_ok : FrameOk J s.steps (length fs) q.at = record { sane = moved_sane J at m.vehicle m.begin can here.sane; few = omega (arith, here.few) } in
      record {
        rows = omega (arith, ap length p.frames, ap length p.path, length-append s.path.items (row_in J at m.vehicle m.begin ∷ []), ok.rows);
        few = omega (arith, p.steps, ok.few);
        each = subst (λ R. EachOk J R t.frames.items) (sym p.steps) (subst (EachOk J s.steps) (sym p.frames)
            (λ i h. elim (cases_lt i (length fs)) [
              | inr past ↦
                  let e : i ≡ length fs = omega arith in
                  rw e (rw (added_last (set fs d x) q (length fs) sized) top_ok)
              | inl before ↦ rw (added_before (set fs d x) q i (omega arith)) (elim (cases_eq i d) [
                | inl e ↦ rw e (rw (get_or-set_same fs d x no_frame (omega arith)) here)
                | inr ne ↦ rw (get_or-set_other fs d i x no_frame ne) (ok.each i before)
              ])
            ]));
      }
