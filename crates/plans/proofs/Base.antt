-- Laws of put, max_below and sum_below.
use Rattle.std.proofs.Common.{◌≡◌, ℕ, zero, suc, ◌+◌, ◌<◌, ◌≤◌, max, eqb, ◌⊎◌, refl, ap, inl, inr, arith}
use Rattle.std.proofs.lemmas.Bool.{eq-eqb, ne_eqb, cases_lt, cond-true, cond-false}
use Rattle.plans.specs.Plan.{put}
use Rattle.plans.specs.Position.{max_below, sum_below}

pub put_same : {A : Type 0} (f : ℕ → A) (i : ℕ) (x : A) → put f i x i ≡ x
unfolding put
put_same f i x = cond-true (eqb i i) x (f i) (eq-eqb i i refl)

pub put_at : {A : Type 0} (f : ℕ → A) (i j : ℕ) (x : A) → i ≡ j → put f i x j ≡ x
unfolding put
put_at f i j x e = cond-true (eqb i j) x (f j) (eq-eqb i j e)

pub put_other : {A : Type 0} (f : ℕ → A) (i j : ℕ) (x : A) → (i ≡ j → ⊥) → put f i x j ≡ f j
unfolding put
put_other f i j x h = cond-false (eqb i j) x (f j) (ne_eqb i j h)

pub below_suc : (i n : ℕ) → i < suc n → (i < n) ⊎ (i ≡ n)
below_suc i n h = elim (cases_lt i n) [ inl p ↦ inl p | inr p ↦ inr (omega arith) ]

pub max_below_ge : (n : ℕ) (f : ℕ → ℕ) (i : ℕ) → i < n → f i ≤ max_below n f
unfolding max_below
max_below_ge zero f i h = absurd (omega arith)
max_below_ge (suc n) f i h = go (max_below_ge n f i) (below_suc i n h)
  where
    go : (i < n → f i ≤ max_below n f) → (i < n) ⊎ (i ≡ n) → f i ≤ max (max_below n f) (f n)
    go ih (inl p) = let q = ih p in omega arith
    go ih (inr p) = let q = ap f p in omega arith

pub max_below_le : (n : ℕ) (f : ℕ → ℕ) (b : ℕ) → ((i : ℕ) → i < n → f i ≤ b) → max_below n f ≤ b
unfolding max_below
max_below_le zero f b h = omega arith
max_below_le (suc n) f b h =
    let p = max_below_le n f b (λ i l. h i (omega arith)) in
    let q = h n (omega arith) in
    omega arith

pub sum_below_zero : (n : ℕ) (f : ℕ → ℕ) → sum_below n f ≡ 0 → (i : ℕ) → i < n → f i ≡ 0
unfolding sum_below
sum_below_zero zero f e i h = absurd (omega arith)
sum_below_zero (suc n) f e i h = go (λ (p : i < n). sum_below_zero n f (omega arith) i p) (below_suc i n h)
  where
    go : (i < n → f i ≡ 0) → (i < n) ⊎ (i ≡ n) → f i ≡ 0
    go ih (inl p) = ih p
    go ih (inr p) = let q = ap f p in omega arith

pub sum_below_same : (n : ℕ) (f g : ℕ → ℕ) → ((i : ℕ) → i < n → f i ≡ g i) → sum_below n f ≡ sum_below n g
unfolding sum_below
sum_below_same zero f g h = refl
sum_below_same (suc n) f g h =
    let p = sum_below_same n f g (λ i l. h i (omega arith)) in
    let q = h n (omega arith) in
    omega arith

-- f and g differ by one at j alone
pub sum_below_less : (n : ℕ) (f g : ℕ → ℕ) (j : ℕ) → j < n → f j ≡ suc (g j) → ((i : ℕ) → (j ≡ i → ⊥) → f i ≡ g i)
    → sum_below n f ≡ suc (sum_below n g)
unfolding sum_below
sum_below_less zero f g j l e h = absurd (omega arith)
sum_below_less (suc n) f g j l e h = go (λ (p : j < n). sum_below_less n f g j p e h) (below_suc j n l)
  where
    go : (j < n → sum_below n f ≡ suc (sum_below n g)) → (j < n) ⊎ (j ≡ n) → sum_below n f + f n ≡ suc (sum_below n g + g n)
    go ih (inl p) = let q = ih p in let r = h n (λ (x : j ≡ n). omega arith) in omega arith
    go ih (inr p) =
        let q = sum_below_same n f g (λ i l'. h i (λ (x : j ≡ i). omega arith)) in
        let a = ap f p in
        let b = ap g p in
        omega arith

pub sum_below_none : (n : ℕ) (f : ℕ → ℕ) → ((i : ℕ) → i < n → f i ≡ 0) → sum_below n f ≡ 0
unfolding sum_below
sum_below_none zero f h = refl
sum_below_none (suc n) f h =
    let p = sum_below_none n f (λ i l. h i (omega arith)) in
    let q = h n (omega arith) in
    omega arith
