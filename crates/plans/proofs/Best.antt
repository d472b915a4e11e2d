-- The branch-and-bound invariant: each leaf is no better than the best held, or still to be reached from a due position.
use Rattle.std.proofs.Common.{option_to_list, ◌≡◌, ℕ, zero, suc, ◌<◌, ◌≤◌, true, false, ◌⊎◌, List, [], ◌∷◌, ◌++◌, Some, None, Option, sym, refl, ap, ◌∙◌, subst, inl, inr, arith}
use Rattle.std.specs.List.{AllByRecursion}
use Rattle.std.proofs.ByRecursion.{All-append}
use Rattle.std.proofs.lemmas.Bool.{false≢true, both_ways}
use Rattle.hall.specs.Log.{Log}
use Rattle.plans.specs.Steps.{fleet}
use Rattle.plans.specs.Meanings.{Hours, Goal, Lawful}
use Rattle.plans.specs.Position.{Position, root, move, left, bound}
use Rattle.plans.specs.Walk.{children_below, children, State, dropped, visit_first, visit, after, begins, walk}
use Rattle.plans.proofs.Base.{below_suc}
use Rattle.plans.proofs.Logs.{LogOk}
use Rattle.plans.proofs.Opening.{HoursOk}
use Rattle.plans.proofs.Reaching.{Child, Reach, here, go, Leaf, reach_child}
use Rattle.plans.proofs.Moves.{moving, left_less, effect_cases}
use Rattle.plans.proofs.Limits.{bounding}

-- one of the list's elements has the property; by recursion, as the walk makes its lists, where the library's Any goes by index
pub data SomeOf (A : Type 0) (F : A → Type 0) : List A → Type 0 where
  first : {x : A} {xs : List A} → F x → SomeOf A F (x ∷ xs)
  later : {x : A} {xs : List A} → SomeOf A F xs → SomeOf A F (x ∷ xs)

none_of : {A : Type 0} {F : A → Type 0} → SomeOf A F [] → ⊥
none_of h = elim h [ ]

of_cons : {A : Type 0} {F : A → Type 0} {x : A} {xs : List A} → SomeOf A F (x ∷ xs) → F x ⊎ SomeOf A F xs
of_cons (first h) = inl h
of_cons (later h) = inr h

of_left : {A : Type 0} {F : A → Type 0} (xs ys : List A) → SomeOf A F xs → SomeOf A F (xs ++ ys)
of_left [] ys h = elim h [ ]
of_left (x ∷ xs) ys (first h) = first h
of_left (x ∷ xs) ys (later h) = later (of_left xs ys h)

of_right : {A : Type 0} {F : A → Type 0} (xs ys : List A) → SomeOf A F ys → SomeOf A F (xs ++ ys)
of_right [] ys h = h
of_right (x ∷ xs) ys h = later (of_right xs ys h)

-- a child by a vehicle is among the children
child_below : (H : Hours) (L : Log) (P Q : Position) (n v : ℕ) → v < n → move H L P v ≡ Some Q → (F : Position → Type 0) → F Q
    → SomeOf Position F (children_below H L P n)
unfolding children_below
child_below H L P Q zero v l e F h = absurd (omega arith)
child_below H L P Q (suc n) v l e F h = cases (λ (p : v < n). child_below H L P Q n v p e F h) (below_suc v n l)
  where
    cases : (v < n → SomeOf Position F (children_below H L P n)) → (v < n) ⊎ (v ≡ n)
        → SomeOf Position F (children_below H L P n ++ option_to_list (move H L P n))
    cases ih (inl p) = of_left (children_below H L P n) (option_to_list (move H L P n)) (ih p)
    cases ih (inr p) =
        let x : option_to_list (move H L P n) ≡ Q ∷ [] = ap (λ u. option_to_list (move H L P u)) (sym p) ∙ ap option_to_list e in
        of_right (children_below H L P n) (option_to_list (move H L P n)) (subst (SomeOf Position F) (sym x) (first h))

child_among : (H : Hours) (L : Log) (P Q : Position) → Child H L P Q → (F : Position → Type 0) → F Q
    → SomeOf Position F (children H L P)
unfolding children
child_among H L P Q c F h = child_below H L P Q (fleet L) c.vehicle c.known c.is F h

-- a position with no step left leads only to itself
leaf_stays : (H : Hours) (L : Log) (R P : Position) → Reach H L R P → left L P ≡ 0 → R ≡ P
leaf_stays H L R P here e = refl
leaf_stays H L R P (go {Q = Q} c r) e =
    let m = moving H L P c.vehicle Q c.is in
    let x = left_less L P c.vehicle m.at c.known m.steps_left_is in
    absurd (omega arith)

-- the leaf R is covered: by the best held, or by a due position
Covers : {S : Type 0} → Goal S → Log → Option Position → Position → Type 0
Covers G L None R = ⊥
Covers G L (Some Q) R = G.no_worse (bound G L Q) (bound G L R) ≡ true

Covered : {S : Type 0} → Hours → Goal S → Log → List Position → Option Position → Position → Type 0
Covered H G L ds b R = Covers G L b R ⊎ SomeOf Position (Reach H L R) ds

module _ {S : Type 0} (H : Hours) (ho : HoursOk H) (G : Goal S) (gk : Lawful G) (L : Log) (ok : LogOk L) (R : Position)
    (z : left L R ≡ 0) (t : Reach H L R (root L)) where
  reflexive : (a : S) → G.no_worse a a ≡ true
  reflexive a = elim (gk.total a a) [ inl p ↦ p | inr p ↦ p ]

  -- a leaf that takes the place of the best covers what that covered
  better : (b : Option Position) (P : Position) → dropped G L b P ≡ false → Covers G L b R → Covers G L (Some P) R
  unfolding dropped Covers
  better None P d c = absurd c
  better (Some Q) P d c =
      elim (gk.total (bound G L P) (bound G L Q)) [ inl p ↦ gk.transitive _ _ _ p c | inr p ↦ absurd (both_ways _ d p) ]

  drops : (b : Option Position) (P : Position) → dropped G L b P ≡ true → Reach H L R P → Covers G L b R
  unfolding dropped Covers
  drops None P d r = false≢true d
  drops (Some Q) P d r = gk.transitive _ _ _ d (bounding H ho G gk L ok P R t r)

  -- a leaf reached from a position with steps left is reached from a child
  onward : (P : Position) → (left L P ≡ 0 → ⊥) → Reach H L R P → SomeOf Position (Reach H L R) (children H L P)
  onward P u here = absurd (u z)
  onward P u (go {Q = Q} c r) = child_among H L P Q c (Reach H L R) r

  leaf_covers : (P : Position) → left L P ≡ 0 → Reach H L R P → Covers G L (Some P) R
  unfolding Covers
  leaf_covers P u r =
      subst (λ X. G.no_worse (bound G L P) (bound G L X) ≡ true) (sym (leaf_stays H L R P r u)) (reflexive (bound G L P))

  visit_covers : (ds : List Position) (b : Option Position) (n : ℕ) → Covered H G L ds b R
      → Covered H G L (visit_first H G L ds b n).due (visit_first H G L ds b n).best R
  unfolding visit_first Covered
  visit_covers [] b n c = c
  visit_covers (P ∷ ds) b n c =
      effect_cases H G L b P (λ E. Covered H G L (E.due ++ ds) E.best R)
      (λ d. by inl (λ r. inl (drops b P d r)) inr c)
      (λ d e. by (λ a. inl (better b P d a)) (λ r. inl (leaf_covers P e r)) inr c)
      (λ d e. by inl (λ r. inr (of_left (children H L P) ds (onward P e r))) (λ m. inr (of_right (children H L P) ds m)) c)
    where
      by : {X : Type 0} → (Covers G L b R → X) → (Reach H L R P → X) → (SomeOf Position (Reach H L R) ds → X)
          → Covered H G L (P ∷ ds) b R → X
      by x y w (inl a) = x a
      by x y w (inr s) = elim (of_cons s) [ inl r ↦ y r | inr m ↦ w m ]

  after_covers : (k : ℕ) (s : State) → Covered H G L s.due s.best R
      → Covered H G L (after H G L k s).due (after H G L k s).best R
  unfolding after visit
  after_covers zero s c = c
  after_covers (suc k) s c = after_covers k (visit H G L s) (visit_covers s.due s.best s.visits c)

  walk_covers : (k : ℕ) → Covered H G L (walk H G L k).due (walk H G L k).best R
  unfolding walk begins Covered
  walk_covers k = after_covers k (begins L) (inr (first t))

-- when nothing is due any more, the best held is no worse than every leaf, and where none is held there is no leaf
pub best_of_leaves : {S : Type 0} (H : Hours) → HoursOk H → (G : Goal S) → Lawful G → (L : Log) → LogOk L
    → (k : ℕ) → (walk H G L k).due ≡ []
    → ((Q : Position) → (walk H G L k).best ≡ Some Q → (R : Position) → Leaf H L R
    → G.no_worse (bound G L Q) (bound G L R) ≡ true)
    × ((walk H G L k).best ≡ None → (R : Position) → Leaf H L R → ⊥)
unfolding Covered Covers
best_of_leaves H ho G gk L ok k e =
    (λ Q q R l. subst (λ o. Covers G L o R) q (by R l), λ q R l. subst (λ o. Covers G L o R) q (by R l))
  where
    by : (R : Position) → Leaf H L R → Covers G L (walk H G L k).best R
    by R l = elim (walk_covers H ho G gk L ok R l.none_left l.reached k)
        [ inl c ↦ c | inr s ↦ absurd (none_of (subst (SomeOf Position (Reach H L R)) e s)) ]

-- the other way: what is due is reached from the root, and what is held is a leaf
module _ {S : Type 0} (H : Hours) (G : Goal S) (L : Log) where
  abbrev Reached : Position → Type 0
  Reached P = Reach H L P (root L)

  children_reached : (P : Position) → Reached P → (n : ℕ) → n ≤ fleet L → AllByRecursion Reached (children_below H L P n)
  unfolding children_below
  children_reached P r zero h = tt
  children_reached P r (suc n) h = All-append Reached (children_below H L P n) (option_to_list (move H L P n)) (children_reached P r n (omega arith)) (one (move H L P n) refl)
    where
      one : (o : Option Position) → move H L P n ≡ o → AllByRecursion Reached (option_to_list o)
      one None e = tt
      one (Some Q) e = (reach_child H L P Q (root L) r (record { vehicle = n; known = omega arith; is = e }), tt)

  abbrev Holds : Option Position → Type 0
  Holds None = Unit {0}
  Holds (Some Q) = Leaf H L Q

  visit_reached : (ds : List Position) (b : Option Position) (n : ℕ) → AllByRecursion Reached ds → Holds b
      → AllByRecursion Reached (visit_first H G L ds b n).due × Holds (visit_first H G L ds b n).best
  unfolding visit_first children
  visit_reached [] b n a h = (tt, h)
  visit_reached (P ∷ ds) b n (r, a) h =
      effect_cases H G L b P (λ E. AllByRecursion Reached (E.due ++ ds) × Holds E.best)
      (λ d. (a, h))
      (λ d e. (a, record { reached = r; none_left = e }))
      (λ d e. (All-append Reached (children H L P) ds (children_reached P r (fleet L) (omega arith)) a, h))

  after_reached : (k : ℕ) (s : State) → AllByRecursion Reached s.due → Holds s.best → Holds (after H G L k s).best
  unfolding after visit
  after_reached zero s a h = h
  after_reached (suc k) s a h =
      let r = visit_reached s.due s.best s.visits a h in
      after_reached k (visit H G L s) r.0 r.1

  walk_holds : (k : ℕ) → Holds (walk H G L k).best
  unfolding walk begins
  walk_holds k = after_reached k (begins L) (here, tt) tt

-- the best held is a leaf, whether or not the walk has ended
pub best_is_leaf : (S : Type 0) (H : Hours) (G : Goal S) (L : Log) (k : ℕ) (Q : Position)
    → (walk H G L k).best ≡ Some Q → Leaf H L Q
best_is_leaf S H G L k Q e = subst (Holds H G L) e (walk_holds H G L k)
