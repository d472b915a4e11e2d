-- The walk ends within the tree's size, and a budget stops it exactly where it says.
use Rattle.std.proofs.Common.{option_to_list, ◌≡◌, ℕ, zero, suc, ◌+◌, ◌*◌, ◌^◌, ◌<◌, ◌≤◌, min, ◌↔◌, List, [], ◌∷◌, ◌++◌, Some, None, Option, refl, ap, ◌∙◌, mul_comm, one-mul, pow-suc, mul-add, arith}
use native.Mathlib.Nat.{pow-zero}
use Rattle.hall.specs.Log.{Log}
use Rattle.plans.specs.Steps.{fleet}
use Rattle.plans.specs.Meanings.{Hours, Goal}
use Rattle.plans.specs.Position.{sum_below, Position, root, move, left}
use Rattle.plans.specs.Walk.{children_below, children, State, effect, visit_first, visit, after, begins, walk, tree, FullWalk, full_visits}
use Rattle.plans.proofs.Moves.{moving, left_less, effect_cases}

-- the visits that the due positions can cost at most
cost : Log → List Position → ℕ
cost L [] = 0
cost L (P ∷ ds) = tree (fleet L) (left L P) + cost L ds

cost_append : (L : Log) (xs ys : List Position) → cost L (xs ++ ys) ≡ cost L xs + cost L ys
unfolding cost
cost_append L [] ys = omega arith
cost_append L (x ∷ xs) ys = let e = cost_append L xs ys in omega arith

-- the sum of powers, one factor taken out
tree_more : (n r : ℕ) → tree n (suc r) ≡ 1 + n * tree n r
unfolding tree sum_below
tree_more n zero =
    let o = pow-suc n 0 ∙ ap (λ (p : ℕ). p * n) (pow-zero n) ∙ one-mul n in
    let z = pow-zero n in
    let t : n * (0 + n ^ 0) ≡ n = ap (λ (p : ℕ). n * (0 + p)) z ∙ mul_comm n 1 ∙ one-mul n in
    omega arith
tree_more n (suc r) =
    let ih = tree_more n r in
    let o = pow-suc n (suc r) in
    let c = mul_comm (n ^ suc r) n in
    let d = mul-add n (sum_below (suc r) (λ i. n ^ i)) (n ^ suc r) in
    omega arith

tree_pos : (n r : ℕ) → 1 ≤ tree n r
unfolding tree sum_below
tree_pos n zero = let z = pow-zero n in omega arith
tree_pos n (suc r) = let t = tree_more n r in let z : 1 ≤ tree n (suc r) = omega arith in z

child_left : (H : Hours) (L : Log) (P Q : Position) (v : ℕ) → v < fleet L → move H L P v ≡ Some Q
    → left L P ≡ suc (left L Q)
child_left H L P Q v l e =
    let m = moving H L P v Q e in
    left_less L P v m.at l m.steps_left_is ∙ ap (λ X. suc (left L X)) m.gives

children_cost : (H : Hours) (L : Log) (P : Position) (r : ℕ) → left L P ≡ suc r → (n : ℕ) → n ≤ fleet L
    → cost L (children_below H L P n) ≤ n * tree (fleet L) r
unfolding children_below cost
children_cost H L P r e zero h = omega arith
children_cost H L P r e (suc n) h =
    let ih = children_cost H L P r e n (omega arith) in
    let a = cost_append L (children_below H L P n) (option_to_list (move H L P n)) in
    let o = one (move H L P n) refl in
    omega arith
  where
    one : (o : Option Position) → move H L P n ≡ o → cost L (option_to_list o) ≤ tree (fleet L) r
    one None x = omega arith
    one (Some Q) x =
        let c = child_left H L P Q n (omega arith) x in
        let q : left L Q ≡ r = omega arith in
        let t = ap (tree (fleet L)) q in
        omega arith

not_zero : (n : ℕ) → (n ≡ 0 → ⊥) → (r : ℕ) × (n ≡ suc r)
not_zero zero h = absurd (h refl)
not_zero (suc n) h = (n, refl)

module _ {S : Type 0} (H : Hours) (G : Goal S) (L : Log) where
  visit_costs : (P : Position) (ds : List Position) (b : Option Position)
      → suc (cost L ((effect H G L b P).due ++ ds)) ≤ tree (fleet L) (left L P) + cost L ds
  unfolding children
  visit_costs P ds b =
      effect_cases H G L b P (λ E. suc (cost L (E.due ++ ds)) ≤ tree (fleet L) (left L P) + cost L ds)
      (λ d. omega (arith, tree_pos (fleet L) (left L P)))
      (λ d e. omega (arith, tree_pos (fleet L) (left L P)))
      (λ d e.
      let r = not_zero (left L P) e in
      let c = children_cost H L P r.0 r.1 (fleet L) (omega arith) in
      let a = cost_append L (children H L P) ds in
      let t : tree (fleet L) (left L P) ≡ 1 + fleet L * tree (fleet L) r.0 =
      ap (tree (fleet L)) r.1 ∙ tree_more (fleet L) r.0 in
      omega arith)

  abbrev At : List Position → Option Position → ℕ → State
  At ds b n = record { due = ds; best = b; visits = n }

  stays : (k : ℕ) (b : Option Position) (n : ℕ) → after H G L k (At [] b n) ≡ At [] b n
  unfolding after visit visit_first
  stays zero b n = refl
  stays (suc k) b n = stays k b n

  after_ends : (k : ℕ) (ds : List Position) (b : Option Position) (n : ℕ) → cost L ds ≤ k
      → (after H G L k (At ds b n)).due ≡ []
  unfolding after visit visit_first cost
  after_ends k [] b n h = ap (λ (s : State). s.due) (stays k b n)
  after_ends zero (P ∷ ds) b n h = let p = tree_pos (fleet L) (left L P) in absurd (omega arith)
  after_ends (suc k) (P ∷ ds) b n h =
      let c = visit_costs P ds b in
      after_ends k ((effect H G L b P).due ++ ds) (effect H G L b P).best (suc n) (omega arith)

  -- the visits made with a budget are no fewer than those made before, and at most so many more
  visits_within : (k : ℕ) (ds : List Position) (b : Option Position) (n : ℕ)
      → (n ≤ (after H G L k (At ds b n)).visits) × ((after H G L k (At ds b n)).visits ≤ n + k)
  unfolding after visit visit_first
  visits_within zero ds b n = (omega arith, omega arith)
  visits_within (suc k) [] b n = let e = ap (λ (s : State). s.visits) (stays k b n) in (omega arith, omega arith)
  visits_within (suc k) (P ∷ ds) b n =
      let r = visits_within k ((effect H G L b P).due ++ ds) (effect H G L b P).best (suc n) in
      let r0 = r.0 in
      let r1 = r.1 in
      (omega arith, omega arith)

  budget : (m : ℕ) (ds : List Position) (b : Option Position) (n : ℕ) → (after H G L m (At ds b n)).due ≡ [] → (k : ℕ)
      → ((after H G L k (At ds b n)).visits ≡ min (n + k) (after H G L m (At ds b n)).visits)
      × ((after H G L k (At ds b n)).due ≡ [] ↔ (after H G L m (At ds b n)).visits ≤ n + k)
  unfolding after visit visit_first
  budget m [] b n e k =
      let x = ap (λ (s : State). s.visits) (stays k b n) in
      let y = ap (λ (s : State). s.visits) (stays m b n) in
      (omega arith, (λ _. omega arith, λ _. ap (λ (s : State). s.due) (stays k b n)))
  budget zero (P ∷ ds) b n e k = cc
  budget (suc m) (P ∷ ds) b n e zero =
      let w = (visits_within m ((effect H G L b P).due ++ ds) (effect H G L b P).best (suc n)).0 in
      (omega arith, (λ x. cc, λ x. absurd (omega arith)))
  budget (suc m) (P ∷ ds) b n e (suc k) =
      let r = budget m ((effect H G L b P).due ++ ds) (effect H G L b P).best (suc n) e k in
      let r0 = r.0 in
      (omega arith, (λ x. let y = r.1.0 x in omega arith, λ x. r.1.1 (omega arith)))

  pub ends : ((walk H G L (tree (fleet L) (left L (root L)))).due ≡ []) × (full_visits H G L ≤ tree (fleet L) (left L (root L)))
  unfolding walk begins full_visits cost
  ends = (
    after_ends (tree (fleet L) (left L (root L))) (root L ∷ []) None 0 (omega arith),
    let w = (visits_within (tree (fleet L) (left L (root L))) (root L ∷ []) None 0).1 in omega arith,
  )

  pub budgeted : (k : ℕ)
      → ((walk H G L k).visits ≡ min k (full_visits H G L)) × ((walk H G L k).due ≡ [] ↔ full_visits H G L ≤ k)
  unfolding walk begins full_visits
  budgeted k =
      let r = budget (tree (fleet L) (left L (root L))) (root L ∷ []) None 0 ends.0 k in
      let r0 = r.0 in
      (omega arith, (λ x. let y = r.1.0 x in omega arith, λ x. r.1.1 (omega arith)))

  -- the full walk: it ends after so many visits, and no sooner
  pub full_walk : FullWalk H G L (full_visits H G L)
  full_walk = record {
    ends = (budgeted (full_visits H G L)).1.1 (omega arith);
    lasts = λ k l e. let y = (budgeted k).1.0 e in omega arith;
  }
