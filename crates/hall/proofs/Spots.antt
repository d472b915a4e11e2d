-- One step's record changes, and the others stay: what then still holds of all steps.
use Rattle.std.proofs.Common.{◌≡◌, ℕ, ◌<◌, ◌≤◌, true, ◌⊎◌, List, [], length, get_or, sym, refl, ap, ◌∙◌, subst, inl, inr, ⊎_elim, arith}
use Rattle.std.proofs.lemmas.List.{get_or-set_same, get_or-set_other, length-set}
use Rattle.std.proofs.lemmas.Bool.{cases_eq}
use Rattle.hall.specs.Log.{Log, vehicle_at, step_at, blank, reached, marked, begun, finished, begin_of, end_of, steps_with}
use Rattle.hall.specs.declared.step.StepRecord.{StepRecord}
use Rattle.hall.specs.declared.step.Progress.{Progress}

-- step i of vehicle u is step j of vehicle v, and is now r; or it is another, and stays
abbrev pub Spot : (ℕ → ℕ → StepRecord) → (ℕ → ℕ → StepRecord) → ℕ → ℕ → StepRecord → ℕ → ℕ → Type 0
Spot S S' v j r u i = ((u ≡ v) × (i ≡ j) × (S' u i ≡ r)) ⊎ ((u ≡ v → i ≡ j → ⊥) × (S' u i ≡ S u i))

-- one step of a vehicle is written
module _ (rs : List StepRecord) (j : ℕ) (p : Progress) where
  pub length-steps_with : length (steps_with rs j p) ≡ length rs
  length-steps_with = length-set rs j (reached (get_or rs j blank) p)

  pub step-steps_with : j < length rs → get_or (steps_with rs j p) j blank ≡ reached (get_or rs j blank) p
  step-steps_with lt = get_or-set_same rs j (reached (get_or rs j blank) p) blank lt

  pub other-steps_with : (i : ℕ) → (i ≡ j → ⊥) → get_or (steps_with rs j p) i blank ≡ get_or rs i blank
  other-steps_with i ne = get_or-set_other rs j i (reached (get_or rs j blank) p) blank ne

module _ (l : Log) (v j : ℕ) (p : Progress) (known : v < length l.vehicles) where
  pub row_of : vehicle_at (marked l v j p) v ≡ steps_with (vehicle_at l v) j p
  row_of = get_or-set_same l.vehicles v (steps_with (vehicle_at l v) j p) [] known

  pub other_row : (u : ℕ) → (u ≡ v → ⊥) → vehicle_at (marked l v j p) u ≡ vehicle_at l u
  other_row u ne = get_or-set_other l.vehicles v u (steps_with (vehicle_at l v) j p) [] ne

  -- no vehicle gets more steps
  pub same_size : (u : ℕ) → length (vehicle_at (marked l v j p) u) ≡ length (vehicle_at l u)
  same_size u =
      ⊎_elim
      (λ e. subst (λ w. length (vehicle_at (marked l v j p) w) ≡ length (vehicle_at l w)) (sym e)
      (ap length row_of ∙ length-steps_with (vehicle_at l v) j p))
      (λ ne. ap length (other_row u ne)) (cases_eq u v)

  pub same_fleet : length (marked l v j p).vehicles ≡ length l.vehicles
  same_fleet = length-set l.vehicles v (steps_with (vehicle_at l v) j p)

  module _ (in' : j < length (vehicle_at l v)) where
    here : (i : ℕ) → (i ≡ j) ⊎ (i ≡ j → ⊥) → Spot (step_at l) (step_at (marked l v j p)) v j (reached (step_at l v j) p) v i
    here i (inl e) = inl (
      refl,
      e,
      ap (λ xs. get_or xs i blank) row_of
          ∙ (ap (λ k. get_or (steps_with (vehicle_at l v) j p) k blank) e
          ∙ step-steps_with (vehicle_at l v) j p in'),
    )
    here i (inr ne) = inr (
      λ _. ne,
      ap (λ xs. get_or xs i blank) row_of
          ∙ other-steps_with (vehicle_at l v) j p i ne,
    )

    pub spot : (u i : ℕ) → Spot (step_at l) (step_at (marked l v j p)) v j (reached (step_at l v j) p) u i
    spot u i =
        ⊎_elim
        (λ e. subst (λ w. Spot (step_at l) (step_at (marked l v j p)) v j (reached (step_at l v j) p) w i) (sym e) (here i (cases_eq i j)))
        (λ ne. inr (λ e _. ne e, ap (λ xs. get_or xs i blank) (other_row u ne)))
        (cases_eq u v)

module _ (S S' : ℕ → ℕ → StepRecord) (v j : ℕ) (r : StepRecord) (sp : (u i : ℕ) → Spot S S' v j r u i) where
  pub ordered_more : ((u a b : ℕ) → a < b → begun (S u b) ≡ true → finished (S u a) ≡ true)
      → ((a : ℕ) → a < j → finished (S v a) ≡ true)
      → ((b : ℕ) → j < b → begun (S v b) ≡ true → ⊥)
      → (u a b : ℕ) → a < b → begun (S' u b) ≡ true → finished (S' u a) ≡ true
  ordered_more old before after u a b lt h =
      ⊎_elim
      (λ x. ⊎_elim (λ y. absurd (omega (arith, x.1, y.1)))
      (λ y. let f = before a (omega (arith, x.1)) in cc (f, x.0, y.1)) (sp u a))
      (λ x. ⊎_elim (λ y. let g : begun (S v b) ≡ true = cc (h, x.1, y.0) in absurd (after b (omega (arith, y.1)) g))
      (λ y. let g : begun (S u b) ≡ true = cc (h, x.1) in let f = old u a b lt g in cc (f, y.1)) (sp u a))
      (sp u b)

  pub follows_more : ((u a b : ℕ) → a < b → begun (S u b) ≡ true → end_of (S u a).progress ≤ begin_of (S u b).progress)
      → ((a : ℕ) → a < j → end_of (S v a).progress ≤ begin_of r.progress)
      → ((b : ℕ) → j < b → begun (S v b) ≡ true → ⊥)
      → (u a b : ℕ) → a < b → begun (S' u b) ≡ true → end_of (S' u a).progress ≤ begin_of (S' u b).progress
  follows_more old before after u a b lt h =
      ⊎_elim
      (λ x. ⊎_elim (λ y. absurd (omega (arith, x.1, y.1)))
      (λ y. let e : S' u a ≡ S v a = cc (x.0, y.1) in
      let f : S' u b ≡ r = x.2 in
      omega (arith, before a (omega (arith, x.1)), ap (λ s. end_of s.progress) e, ap (λ s. begin_of s.progress) f)) (sp u a))
      (λ x. ⊎_elim (λ y. let g : begun (S v b) ≡ true = cc (h, x.1, y.0) in absurd (after b (omega (arith, y.1)) g))
      (λ y. let g : begun (S u b) ≡ true = cc (h, x.1) in
      omega (arith, old u a b lt g, ap (λ s. end_of s.progress) y.1, ap (λ s. begin_of s.progress) x.1)) (sp u a))
      (sp u b)

  -- what holds of each two old records, and of the new one beside each other one
  pub pairs_more : (P : StepRecord → StepRecord → Type 0)
      → ((u w a b : ℕ) → (u ≡ w → a ≡ b → ⊥) → P (S u a) (S w b))
      → ((u a : ℕ) → (u ≡ v → a ≡ j → ⊥) → P r (S u a))
      → ((u a : ℕ) → (u ≡ v → a ≡ j → ⊥) → P (S u a) r)
      → (u w a b : ℕ) → (u ≡ w → a ≡ b → ⊥) → P (S' u a) (S' w b)
  pairs_more P old left right u w a b ne =
      ⊎_elim
      (λ x. ⊎_elim (λ y. absurd (ne (x.0 ∙ sym y.0) (x.1 ∙ sym y.1)))
      (λ y. subst (λ s. P s (S' w b)) (sym x.2) (subst (P r) (sym y.1) (left w b y.0))) (sp w b))
      (λ x. ⊎_elim (λ y. subst (P (S' u a)) (sym y.2) (subst (λ s. P s r) (sym x.1) (right u a x.0)))
      (λ y. subst (λ s. P s (S' w b)) (sym x.1) (subst (P (S u a)) (sym y.1) (old u w a b ne))) (sp w b))
      (sp u a)

  -- what holds of each old record and of the new one
  pub each_more : (P : StepRecord → Type 0) → ((u i : ℕ) → P (S u i)) → P r → (u i : ℕ) → P (S' u i)
  each_more P old new u i =
      ⊎_elim (λ x. subst P (sym x.2) new) (λ x. subst P (sym x.1) (old u i)) (sp u i)
