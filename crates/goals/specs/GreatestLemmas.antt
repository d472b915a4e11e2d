-- Scores that keep the greater of what vehicles are worth are the greatest of it.
use Rattle.std.specs.Prelude.{◌≡◌, ℕ, zero, suc, ◌+◌, ◌<◌, ◌⊎◌, List, [], ◌∷◌, length, slice_index, refl}
use Rattle.std.proofs.Common.{ap, ◌∙◌, inl, inr, ⊎_elim, arith}
use Rattle.goals.specs.Finishes.{scored_from}
use Rattle.goals.specs.Greatest.{Greatest}

-- the greatest of y and what the vehicles v, v + 1, .. are worth
abbrev pub most : {X : Type 0} → (X → X → X) → (ℕ → ℕ → X) → X → ℕ → List ℕ → X
most greater worth = scored_from (λ y v x. greater y (worth v x))

module _ {X : Type 0} (up_to : X → X → Type 0) (greater : X → X → X) (worth : ℕ → ℕ → X)
    (same : (y : X) → up_to y y) (first : (y z m : X) → up_to (greater y z) m → up_to y m) (second : (y z m : X) → up_to (greater y z) m → up_to z m)
    (either : (y z : X) → (greater y z ≡ y) ⊎ (greater y z ≡ z)) where
  most_over : (y : X) (v : ℕ) (xs : List ℕ) → up_to y (most greater worth y v xs)
  most_over y v [] = same y
  most_over y v (x ∷ xs) = first y (worth v x) _ (most_over (greater y (worth v x)) (v + 1) xs)

  most_above : (y : X) (v : ℕ) (xs : List ℕ) (w k : ℕ) → w ≡ v + k → k < length xs → up_to (worth w (slice_index xs k)) (most greater worth y v xs)
  most_above y v [] w k e lt = absurd (omega arith)
  most_above y v (x ∷ xs) w zero e lt = let here : w ≡ v = omega arith in rw here (second y (worth v x) _ (most_over (greater y (worth v x)) (v + 1) xs))
  most_above y v (x ∷ xs) w (suc k) e lt = most_above (greater y (worth v x)) (v + 1) xs w k (omega arith) (omega arith)

  most_met : (y : X) (v : ℕ) (xs : List ℕ) → (most greater worth y v xs ≡ y) ⊎ ((k : ℕ) × (k < length xs) × (most greater worth y v xs ≡ worth (v + k) (slice_index xs k)))
  most_met y v [] = inl refl
  most_met y v (x ∷ xs) =
      let here : v ≡ v + 0 = omega arith in
      ⊎_elim
      (λ h. ⊎_elim (λ e. inl (h ∙ e)) (λ e. inr (0, omega arith, h ∙ e ∙ ap (λ w. worth w x) here)) (either y (worth v x)))
      (λ h. let on : (v + 1) + h.0 ≡ v + suc h.0 = omega arith in inr (suc h.0, omega (arith, h.1), h.2 ∙ ap (λ w. worth w (slice_index xs h.0)) on))
      (most_met (greater y (worth v x)) (v + 1) xs)

  above : (x : ℕ) (xs : List ℕ) (v : ℕ) → v < length (x ∷ xs) → up_to (worth v (slice_index (x ∷ xs) v)) (most greater worth (worth 0 x) 1 xs)
  above x xs zero lt = most_over (worth 0 x) 1 xs
  above x xs (suc k) lt = most_above (worth 0 x) 1 xs (suc k) k (omega arith) (omega arith)

  pub most_greatest : (x : ℕ) (xs : List ℕ) → Greatest up_to worth (x ∷ xs) (most greater worth (worth 0 x) 1 xs)
  most_greatest x xs = record {
    above = above x xs;
    met =
        ⊎_elim (λ e. (0, omega arith, e))
        (λ h. let on : 1 + h.0 ≡ suc h.0 = omega arith in (suc h.0, omega (arith, h.1), h.2 ∙ ap (λ w. worth w (slice_index xs h.0)) on))
        (most_met (worth 0 x) 1 xs);
  }
